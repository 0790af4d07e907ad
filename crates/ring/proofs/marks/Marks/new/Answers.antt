use Rattle.std.proofs.Common.{arith}
use Rattle.ring.proofs.Powers.{sound_fresh}
use Rattle.ring.proofs.marks.Marks.new.Goals as goal

pub invariant_of-result : goal.invariant_of-result
invariant_of-result c = rw (c.new.ensures, c.new-2.ensures) (sound_fresh c.args.entries _ c.args.start c.size_for.ensures (omega arith))
