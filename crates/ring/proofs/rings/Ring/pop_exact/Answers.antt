use Rattle.std.proofs.Common.{◌<◌, length, ap, refl, arith, rules}
use Rattle.ring.specs.Marks.{waiting}
use Rattle.ring.proofs.Batches.{taken_into}
use Rattle.ring.proofs.Steps.{length-queue}
use Rattle.ring.proofs.rings.Ring.pop_exact.Goals as goal

pub returns-then-len-wanted-clause-taken : goal.returns-then-len-wanted-clause-taken
returns-then-len-wanted-clause-taken g c =
    let few : waiting c.args.self.now.marks < length c.args.out.now = omega (arith, length-queue _ c.size.ensures.sound, ap length c.peek_to-count.ensures.peeked.waits) in
    ((((refl, few), λ m x. omega (arith, x.0)), search rules), refl)

pub returns-clause-taken : goal.returns-clause-taken
returns-clause-taken g c =
    let held = c.peek_to-count.ensures in
    taken_into _ _ _ _ _ c.args.out.now c.copy_oldest.new.out held.sound held.peeked (omega arith) c.release.result c.release.ensures.released
    c.drop-batch-2.ensures c.copy_oldest.ensures
