use Rattle.std.proofs.Common.{◌<◌, length, arith}
use Rattle.ring_scripts.proofs.Performed.{continues_more}
use Rattle.ring_scripts.proofs.run.Goals as goal

pub loop-call-preserved : goal.loop-call-preserved
loop-call-preserved g c =
    let l : c.loop-call.call-index < length c.args.calls.now = omega arith in
    let before = c.loop-call.invariant in
    let made = c.perform.ensures in (
      continues_more _ _ _ c.args.calls.now c.loop-call.call-index c.call-item.result c.perform.result l c.call-item.is before.0 made.performed,
      (before.1.0, made.sound.1),
    )
