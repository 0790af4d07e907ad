use Rattle.std.proofs.Common.{ℕ, ◌^◌, ◌<◌, sym, subst, arith}
use Rattle.ring_scripts.specs.Scripts.{Session}
use Rattle.ring_scripts.proofs.Performed.{session_of}
use Rattle.ring_scripts.proofs.session.Goals as goal

pub returns : goal.returns
returns g c =
    let fits : c.args.start < 2 ^ 32 = omega arith in
    subst (λ (n : ℕ). Session c.args.slots.now c.args.start c.args.calls.now n) (sym c.len.ensures.count)
    (session_of c.args.slots.now c.args.start c.args.calls.now _ _ c.new-ring.ensures.made fits c.run.ensures.continued)
