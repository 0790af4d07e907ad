use Rattle.std.proofs.Common.{take}
use Rattle.ring.specs.Rings.{StaysSound}
use Rattle.ring_scripts.specs.Scripts.{Continues}
use Rattle.ring_scripts.proofs.run.Given as goal

abbrev pub invariant-loop-call : goal.invariant-loop-call
invariant-loop-call g l = Continues l.initial.ring (take l.call-index l.calls) l.ring × StaysSound l.initial.ring l.ring
