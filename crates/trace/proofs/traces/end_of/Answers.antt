use Rattle.std.proofs.Common.{[], ◌+◌, ◌*◌, length}
use Rattle.std.proofs.lemmas.Result.{err_from_is_err_and}
use Rattle.trace.proofs.Said.{wrong_next, stand_more}
use Rattle.trace.proofs.traces.end_of.Goals as goal

pub returns-in_err-end : goal.returns-in_err-end
returns-in_err-end c =
    let p = err_from_is_err_and c.from_residual.result c.from_residual.ensures.1 in
    let rows = c.args.rows.now in
    rw (p.1, p.2)
    (c.in_err-end.ensures.0, wrong_next (4 + 8 * length rows) c.args.size rows c.loop-row.row-index c.loop-row.end [] c.from.result c.loop-row-test.true c.from.ensures c.loop-row.invariant c.in_err-end.ensures.1)

pub loop-row-preserved : goal.loop-row-preserved
loop-row-preserved c =
    let rows = c.args.rows.now in
    stand_more (4 + 8 * length rows) rows c.loop-row.row-index c.loop-row.end c.in_ok-end.end [] c.from.result c.loop-row-test.true c.from.ensures c.loop-row.invariant c.in_ok-end.ensures.0
