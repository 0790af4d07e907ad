use Rattle.std.proofs.Common.{ℕ, ◌+◌, List, take, slice_set, refl, ap, ◌∙◌, ⊎_elim, arith}
use Rattle.trace.specs.Meanings.{meant}
use Rattle.trace.specs.Pairs.{cut_records}
use Rattle.trace.specs.Recordings.{Room}
use Rattle.trace.proofs.Keeps.{listed_kept, gapless_kept, sized_kept, records_more}
use Rattle.trace.proofs.recording.Recording.push.Goals as goal

pub invariant_of-self-2-clause-listed : goal.invariant_of-self-2-clause-listed
invariant_of-self-2-clause-listed c = listed_kept c.args.self.now _ (omega arith)

pub invariant_of-self-2-clause-gapless : goal.invariant_of-self-2-clause-gapless
invariant_of-self-2-clause-gapless c =
    gapless_kept c.args.self.now (meant c.args.item) _ refl c.size-length.ensures (omega arith)

pub invariant_of-self-2-clause-sized : goal.invariant_of-self-2-clause-sized
invariant_of-self-2-clause-sized c =
    sized_kept c.args.self.now (meant c.args.item) _ refl c.size-length.ensures (omega arith) c.in_ok-check_packet_length.ensures.1

pub returns : goal.returns
returns c =
    let s = c.args.self.now in
    let room : Room s = record { few = omega arith; listed = omega arith; bytes = omega arith } in
    let table = λ (n : ℕ). slice_set s.table.now s.count (record { offset = s.used; length = n }) in (
      (λ n. ⊎_elim (λ q. q.1 c.in_ok-check_packet_length.ensures.1) (λ q. q.1 room)),
      record {
        count = refl;
        used = ap (λ (n : ℕ). s.used + n) c.size-length.ensures;
        table = ap table c.size-length.ensures;
        area = c.put.ensures;
        records = ap (λ (bytes : List ℕ). cut_records bytes (take (s.count + 1) (table c.size-length.result))) c.put.ensures
            ∙ records_more s (meant c.args.item) _ refl c.size-length.ensures room.listed (omega arith);
      },
    )
