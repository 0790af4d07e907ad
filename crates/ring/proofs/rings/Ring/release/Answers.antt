use Rattle.ring.proofs.Steps.{releases}
use Rattle.ring.proofs.rings.Ring.release.Goals as goal

pub returns-clause-released : goal.returns-clause-released
returns-clause-released g c = rw (← c.self.view_is) (releases _ c.self.invariant _ c.release.result _ c.release.ensures)
