-- What the values of this crate mean.
use Rattle.std.specs.Prelude.{List, length, take, drop}
use Rattle.model.specs.Traces.{Record}
use Rattle.trace.specs.declared.layout.Record.{Record as View}
use Rattle.trace.specs.declared.traces.Records.{Records}
use Rattle.trace.specs.declared.traces.Trace.{Trace}
use Rattle.trace.specs.Files.{records_in, IsTrace}

-- the record that a view shows
abbrev pub meant : View → Record
meant v = record { port = v.port; packet = v.packet.now }

-- the records of a trace, in their order
abbrev pub records_of : Trace → List Record
records_of t = records_in t.file.now (length t.rows.now)

-- those of them that an iterator is still to give
abbrev pub records_left : Records → List Record
records_left r = drop r.places.start (take r.places.end (records_of r.trace))

-- what holds of every trace: a trace can have its records, and its file is theirs
abbrev pub Accepted : Trace → Type 0
Accepted t = IsTrace t.file.now (length t.rows.now)
