use Rattle.std.proofs.Common.{◌≡◌, ap, arith}
use Rattle.ring.specs.Rings.{State}
use Rattle.ring.proofs.Push.{pushes}
use Rattle.ring.proofs.rings.Ring.push.Goals as goal

pub returns-clause-pushed : goal.returns-clause-pushed
returns-clause-pushed g c =
    let ok = rw c.self.view_is at c.self.invariant in
    let none : c.args.self.now.marks.reserved ≡ 0 = omega (arith, ap (λ (s : State _). s.marks.reserved) c.self.view_is) in
    let held = c.reserve-count.ensures in
    pushes _ _ _ c.reserve-count.result c.args.entry ok none c.if-count-eq0.false held.reserved held.sound.1 c.in_ok-put.ensures.written.1 c.submit.result _
    c.submit.ensures.submitted
