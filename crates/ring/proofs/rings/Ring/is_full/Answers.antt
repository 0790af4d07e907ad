use Rattle.std.proofs.Common.{arith}
use Rattle.ring.proofs.Steps.{length-queue, length-draft}
use Rattle.ring.proofs.rings.Ring.is_full.Goals as goal

pub returns-clause-full : goal.returns-clause-full
returns-clause-full g c =
    let q = length-queue _ c.self.invariant in
    let d = length-draft _ c.self.invariant in
    rw (← c.self.view_is) (λ t. let free = c.is_full.ensures.0 t in omega arith, λ full. c.is_full.ensures.1 (omega arith))
