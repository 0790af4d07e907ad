use Rattle.std.proofs.Common.{arith}
use Rattle.ring.proofs.Powers.{size_none, size_some}
use Rattle.ring.proofs.sizes.size_for.Goals as goal

pub returns-then-most-lt2 : goal.returns-then-most-lt2
returns-then-most-lt2 c = size_none c.args.entries (omega arith)

pub returns : goal.returns
returns c = size_some c.args.entries c.ilog2.result _ (omega arith) (omega arith) (omega arith) (omega arith)
