use Rattle.std.proofs.Common.{◌<◌, [], ◌∷◌, Ok, length, ap, ◌∙◌, get_or, arith}
use Rattle.std.proofs.lemmas.List.{get_or_default}
use Rattle.ring.specs.Runs.{Take}
use Rattle.ring.proofs.Inside.{served}
use Rattle.ring.proofs.Kept.{sound_step}
use Rattle.ring.proofs.Steps.{popped, none_popped}
use Rattle.ring.proofs.rings.Ring.pop.Goals as goal

pub returns-in_err-slot : goal.returns-in_err-slot
returns-in_err-slot g c =
    let none = none_popped _ c.self.invariant c.in_err-slot.ensures in
    rw (← c.self.view_is, c.from_residual.ensures) (record { popped = none.0; one = none.1; sound = (c.self.invariant, c.self.invariant) })

pub returns : goal.returns
returns g c =
    let found = c.in_ok-slot.ensures in
    let within : c.in_ok-slot.slot < length c.self.inside.slots.now = omega arith in
    let one =
    popped _ c.self.invariant _ _ found.2 (λ d. get_or_default _ _ _ d within ∙ ap (λ i. get_or c.self.inside.slots.now i d) found.0)
    (served _ _ _ c.consume.result c.consume.ensures (λ few. omega arith)) in
    rw (← c.self.view_is) (record { popped = one.1.1; one = one; sound = (c.self.invariant, sound_step _ _ c.self.invariant (Take 1 (Ok (_ ∷ []))) one) })
