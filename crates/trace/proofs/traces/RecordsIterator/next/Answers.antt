use Rattle.trace.specs.Meanings.{records_of}
use Rattle.trace.proofs.Held.{place_passed, progress}
use Rattle.trace.proofs.traces.RecordsIterator.next.Goals as goal

pub returns : goal.returns
returns c =
    let s = c.args.self.now in
    let t = c.next.new.self in
    let on = c.in_ok-i.ensures.steps in
    let told = rw on.1.1 at c.record.ensures in
    let steps = place_passed (records_of s.trace) s.places.start s.places.end t.start t.end c.record.result on.0 on.1.0 on.1.2 told in
    record { steps = steps; goes = progress s _ c.record.result steps }
