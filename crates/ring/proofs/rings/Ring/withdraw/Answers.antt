use Rattle.ring.proofs.Steps.{withdraws}
use Rattle.ring.proofs.rings.Ring.withdraw.Goals as goal

pub returns-clause-withdrawn : goal.returns-clause-withdrawn
returns-clause-withdrawn g c = rw (← c.self.view_is) (withdraws _ c.self.invariant _ c.withdraw.result _ c.withdraw.ensures)
