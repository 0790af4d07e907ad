use Rattle.std.proofs.Common.{rules}
use Rattle.ring.proofs.Steps.{made}
use Rattle.ring.proofs.rings.Ring.new.Goals as goal

pub returns-clause-made : goal.returns-clause-made
returns-clause-made g c = made _ (search rules) c.args.start c.new-marks.ensures.fresh c.new-marks.ensures.size
