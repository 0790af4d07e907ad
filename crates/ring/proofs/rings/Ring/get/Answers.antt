use Rattle.std.proofs.Common.{◌^◌, ◌<◌, length, ◌∙◌, ap, get_or, arith}
use Rattle.std.proofs.lemmas.List.{get_or_default}
use Rattle.ring.proofs.Inside.{inside_mark}
use Rattle.ring.proofs.Steps.{read}
use Rattle.ring.proofs.rings.Ring.get.Goals as goal

pub returns-clause-read : goal.returns-clause-read
returns-clause-read g c =
    let a = c.in_ok-slot.ensures in
    let fits : c.args.mark < 2 ^ 32 = omega arith in
    let within : c.in_ok-slot.slot < length c.self.inside.slots.now = omega arith in
    rw (← c.self.view_is)
    (a.0, read _ c.self.invariant c.args.mark _ (inside_mark _ _ a.0) fits (λ d. get_or_default _ _ _ d within ∙ ap (λ i. get_or c.self.inside.slots.now i d) a.1.0))
