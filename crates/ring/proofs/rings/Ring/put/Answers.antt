use Rattle.std.proofs.Common.{◌^◌, ◌<◌, arith}
use Rattle.ring.proofs.Inside.{inside_mark}
use Rattle.ring.proofs.Steps.{written}
use Rattle.ring.proofs.rings.Ring.put.Goals as goal

pub returns-clause-written : goal.returns-clause-written
returns-clause-written g c =
    let a = c.in_ok-slot.ensures in
    let fits : c.args.mark < 2 ^ 32 = omega arith in
    rw (← c.self.view_is, a.1.0) (a.0, written _ c.self.invariant c.args.mark c.args.entry (inside_mark _ _ a.0) fits)
