use Rattle.ring.proofs.Batches.{pair_taken}
use Rattle.ring.proofs.Inside.{inside_count}
use Rattle.ring.proofs.rings.Ring.pop_pair.Goals as goal

pub returns-clause-taken : goal.returns-clause-taken
returns-clause-taken g c =
    let held = c.peek_to-count.ensures in
    let freed = c.in_ok-release.ensures.released in
    pair_taken _ _ _ _ _ c.consumer-oldest.result c.in_ok-first.first c.in_ok-second.second held.sound held.peeked (inside_count _ _ freed.0) freed.1
    c.drop-batch-2.ensures c.consumer-oldest.ensures.mark c.in_ok-first.ensures.read.1 c.in_ok-second.ensures.read.1
