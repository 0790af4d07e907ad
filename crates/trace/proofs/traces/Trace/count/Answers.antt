use Rattle.std.proofs.Common.{length, sym}
use Rattle.trace.proofs.Held.{length-records_in}
use Rattle.trace.proofs.traces.Trace.count.Goals as goal

pub returns : goal.returns
returns c = let t = c.args.self.now in sym (length-records_in t.file.now (length t.rows.now))
