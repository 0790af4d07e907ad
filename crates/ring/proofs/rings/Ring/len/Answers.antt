use Rattle.std.proofs.Common.{sym, ◌∙◌}
use Rattle.ring.proofs.Steps.{length-queue}
use Rattle.ring.proofs.Theorem.{every_run}
use Rattle.ring.proofs.rings.Ring.len.Goals as goal

pub returns-clause-count : goal.returns-clause-count
returns-clause-count g c = rw (← c.self.view_is) (c.waiting.ensures ∙ sym (length-queue _ c.self.invariant))

pub returns-clause-runs : goal.returns-clause-runs
returns-clause-runs g c = every_run _
