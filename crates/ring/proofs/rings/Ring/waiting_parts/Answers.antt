use Rattle.std.proofs.Common.{arith}
use Rattle.ring.proofs.Parts.{span_parts}
use Rattle.ring.proofs.Steps.{length-queue, none_popped}
use Rattle.ring.proofs.rings.Ring.waiting_parts.Goals as goal

pub returns-in_default : goal.returns-in_default
returns-in_default g c =
    let ok = c.self.invariant in
    let none = none_popped _ ok c.in_default.ensures in
    rw (← c.self.view_is) (record { parts = none.0.0; few = omega (arith, length-queue _ ok, c.in_default.ensures); sound = ok })

pub returns : goal.returns
returns g c =
    let r = c.self.inside in
    rw (← c.self.view_is, c.waiting-waiting.ensures)
    (record {
      parts =
          span_parts r.marks.size r.marks.consumer _ _ _ _ r.slots.now _ _ c.size-size.ensures (λ some. c.in-Some.ensures.0) (omega arith)
          c.split_at.ensures.front c.split_at.ensures.back (omega arith);
      few = omega (arith, length-queue _ c.self.invariant);
      sound = c.self.invariant;
    })
