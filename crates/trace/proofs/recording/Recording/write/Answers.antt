use Rattle.std.proofs.Common.{List, subst}
use Rattle.model.specs.Traces.{Record}
use Rattle.trace.specs.Recordings.{held_records}
use Rattle.trace.specs.Writing.{Writes}
use Rattle.trace.proofs.Keeps.{same_records, held_fit}
use Rattle.trace.proofs.Trips.{reads_back_of}
use Rattle.trace.proofs.recording.Recording.write.Goals as goal

pub returns : goal.returns
returns c =
    let s = c.args.self.now in
    let before = c.args.buffer.now in
    let after = c.write_file.new.buffer in
    let written : Writes (held_records s) before after c.write_file.result =
    subst (λ (rs : List Record). Writes rs before after c.write_file.result) (same_records s) c.write_file.ensures
    in
    record { writes = written; reads_back = reads_back_of (held_records s) before after c.write_file.result (held_fit s) written }
