use Rattle.ring.proofs.Steps.{reserved}
use Rattle.ring.proofs.rings.Ring.reserve.Goals as goal

pub returns-clause-reserved : goal.returns-clause-reserved
returns-clause-reserved g c = rw (← c.self.view_is) (reserved _ c.self.invariant _ _ _ c.reserve.ensures)
