use Rattle.std.proofs.Common.{sym}
use Rattle.trace.proofs.Rows.{row_written}
use Rattle.trace.proofs.writing.put_table.Goals as goal

pub loop-i-preserved : goal.loop-i-preserved
loop-i-preserved c =
    row_written c.args.buffer.now c.loop-i.buffer c.put.new.buffer c.from.result c.args.pairs.now c.loop-i.i _
    c.loop-i-test.true c.requires.room c.loop-i.invariant (sym c.from.ensures.written) c.put.ensures
