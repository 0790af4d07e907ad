use Rattle.std.proofs.Common.{ℕ, ◌+◌, ◌*◌, List, length, refl, ap, ◌∙◌, arith}
use Rattle.umem.specs.Frames.{written}
use Rattle.trace.specs.Pairs.{rows}
use Rattle.trace.proofs.Rows.{small, listed_long, three_writes}
use Rattle.trace.proofs.writing.write_file.Goals as goal

pub returns-then-buffer-size : goal.returns-then-buffer-size
returns-then-buffer-size c =
    let l = listed_long c.args.pairs.now c.args.bytes.now c.requires in
    (((refl, omega arith), λ m a. let e = a.0 in omega arith), refl)

pub put_table-requires : goal.put_table-requires
put_table-requires c = record { few = c.requires.few; small = small c.args.pairs.now c.args.bytes.now c.requires; room = omega arith }

pub returns : goal.returns
returns c =
    let ps = c.args.pairs.now in
    let l = listed_long ps c.args.bytes.now c.requires in
    let first = 4 + 8 * length ps in (
      (λ n a. let s = a.1 in omega arith),
      (
        omega arith,
        c.put-2.ensures
            ∙ ap (λ (xs : List ℕ). written xs first c.args.bytes.now) (c.put_table.ensures ∙ ap (λ (xs : List ℕ). written xs 4 (rows first ps)) (c.put.ensures ∙ ap (written c.args.buffer.now 0) c.word_of.ensures))
            ∙ three_writes ps c.args.bytes.now c.requires c.args.buffer.now (omega arith),
      ),
    )
