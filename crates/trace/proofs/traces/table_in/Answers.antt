use Rattle.std.proofs.Common.{refl, ◌∙◌, arith}
use Rattle.trace.proofs.Said.{number_said}
use Rattle.trace.proofs.Steps.{too_short, wrong_head, headed}
use Rattle.trace.proofs.traces.table_in.Goals as goal

pub returns-in_default : goal.returns-in_default
returns-in_default c = (refl, too_short c.args.file.now c.in_default.ensures.cases)

pub returns-then-count-gt-MAX_RECORDS : goal.returns-then-count-gt-MAX_RECORDS
returns-then-count-gt-MAX_RECORDS c =
    let (front, _, long) = c.in-Some.ensures.cases in
    let said = number_said c.number_in-count.result _ c.number_in-count.type_inv (c.number_in-count.ensures ∙ front) in
    (refl, wrong_head c.args.file.now (λ few room. grind arith))

pub returns : goal.returns
returns c =
    headed c.args.file.now c.in-Some.count.now c.in-Some.rest.now c.as_chunks.result.0.now c.number_in-count.result c.in-Some.ensures.cases c.number_in-count.ensures c.as_chunks.ensures.front c.as_chunks.ensures.front_len (omega arith) (omega arith)
