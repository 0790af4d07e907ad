use Rattle.std.proofs.Common.{ℕ, ◌+◌, ◌*◌, ◌<◌, ◌≤◌, List, length, get_or, sym, subst, arith, ltb-true, ltb-false}
use Rattle.std.proofs.lemmas.Option.{slice_get_past}
use Rattle.trace.specs.Meanings.{records_of}
use Rattle.trace.specs.Pairs.{IsRow}
use Rattle.trace.proofs.Held.{length-records_in, shown}
use Rattle.trace.proofs.Said.{pair_read, row_within}
use Rattle.trace.proofs.traces.Trace.record.Goals as goal
use Rattle.trace.proofs.traces.Trace.record.Goals.{After-from-pair}

pub returns-in_err-get : goal.returns-in_err-get
returns-in_err-get c =
    let t = c.args.self.now in
    let n = length-records_in t.file.now (length t.rows.now) in
    rw c.from_residual.ensures (sym (slice_get_past (records_of t) c.args.i (omega (arith, ltb-false, c.in_err-get.ensures.lookup))))

below : (c : After-from-pair) → c.args.i < length c.args.self.now.rows.now
below c = ltb-true c.args.i (length c.args.self.now.rows.now) (sym c.in_ok-get.ensures.lookup.0)

row : (c : After-from-pair) → IsRow (get_or c.args.self.now.rows.now c.args.i c.in_ok-get.field-0.now) c.from-pair.result
row c = subst (λ (r : List ℕ). IsRow r c.from-pair.result) c.in_ok-get.ensures.lookup.1 c.from-pair.ensures

within : (c : After-from-pair) → (1 ≤ c.from-pair.result.length) × (c.from-pair.result.offset + c.from-pair.result.length ≤ length c.args.self.now.file.now)
within c =
    let t = c.args.self.now in
    row_within (4 + 8 * length t.rows.now) t.rows.now (length t.file.now) c.args.i _ c.from-pair.result (below c) (row c) t.standing

pub slice_bounds-parse-end : goal.slice_bounds-parse-end
slice_bounds-parse-end c = let w = within (goal.at.slice_bounds-parse-end c).After-from-pair in omega (arith, w.1)

pub returns : goal.returns
returns c =
    let t = c.args.self.now in
    let at = (goal.at.returns c).After-from-pair in
    let read = pair_read t.file.now t.rows.now c.args.i _ c.from-pair.result t.headed (below at) (row at) in
    shown t.file.now (length t.rows.now) c.args.i c.from-pair.result c.parse.result (below at) read (within at).0 (within at).1 c.parse.ensures
