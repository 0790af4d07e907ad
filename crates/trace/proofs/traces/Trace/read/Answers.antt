use Rattle.std.proofs.Common.{◌+◌, ◌*◌, length, refl, subst, arith}
use Rattle.std.proofs.lemmas.Result.{err_from_is_err_and}
use Rattle.umem.specs.declared.refusal.Refusal.TheVariants.{NotATrace}
use Rattle.trace.specs.Files.{Stand}
use Rattle.trace.proofs.Said.{same_end}
use Rattle.trace.proofs.Steps.{wrong_rows, made}
use Rattle.trace.proofs.Trips.{refused}
use Rattle.trace.proofs.traces.Trace.read.Goals as goal

pub returns-in_err-end-clause-reads : goal.returns-in_err-end-clause-reads
returns-in_err-end-clause-reads c =
    let file = c.args.file.now in
    let p = err_from_is_err_and c.from_residual-in_err-end.result c.from_residual-in_err-end.ensures.1 in
    let none = wrong_rows file c.in_ok-rows.rows.now c.in_ok-rows.ensures (λ s. c.in_err-end.ensures.1 (length file) (s, omega arith)) in
    rw (p.1, p.2, c.in_err-end.ensures.0) (refused file NotATrace (refl, none), tt)

pub returns-then-end-file-clause-reads : goal.returns-then-end-file-clause-reads
returns-then-end-file-clause-reads c =
    let file = c.args.file.now in
    let rows = c.in_ok-rows.rows.now in
    let none = wrong_rows file rows c.in_ok-rows.ensures (λ s. c.if-end-file.true (same_end (4 + 8 * length rows) rows c.in_ok-end.end (length file) c.in_ok-end.ensures s)) in
    (refused file NotATrace (refl, none), tt)

pub invariant_of-result : goal.invariant_of-result
invariant_of-result c =
    let file = c.args.file.now in
    let rows = c.in_ok-rows.rows.now in
    let stand = subst (Stand rows) c.if-end-file.false c.in_ok-end.ensures in
    record { headed = c.in_ok-rows.ensures; standing = stand; whole = made file rows c.in_ok-rows.ensures stand }
