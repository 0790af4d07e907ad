use Rattle.ring.proofs.Steps.{submits}
use Rattle.ring.proofs.rings.Ring.submit.Goals as goal

pub returns-clause-submitted : goal.returns-clause-submitted
returns-clause-submitted g c = rw (← c.self.view_is) (submits _ c.self.invariant _ c.submit.result _ c.submit.ensures)
