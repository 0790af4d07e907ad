-- What always holds of a recording, and what adding a record keeps.
use Rattle.std.proofs.Common.{◌≡◌, ℕ, ◌+◌, ◌<◌, ◌≤◌, List, [], ◌∷◌, ◌++◌, map, length, take, drop, sym, ap, ◌∙◌, subst, arith}
use Rattle.std.proofs.lemmas.List.Elements.{All-push}
use Rattle.std.specs.Prelude.{slice_set}
use Rattle.std.proofs.Math.ListN.{length-set}
use Rattle.std.proofs.lemmas.List.{take-take, take_more_set, take_at, drop_at, drop-take, length-take-le, map_push}
use Rattle.umem.specs.Frames.{written, PacketLength}
use Rattle.umem.proofs.Written.{front_written}
use Rattle.model.specs.Traces.{Record, laid, record_of, Traceable, RecordLength}
use Rattle.trace.specs.declared.pairs.Pair.{Pair}
use Rattle.trace.specs.declared.recording.Recording.{Recording}
use Rattle.trace.specs.Pairs.{cut, cut_records, Gapless, Sized}
use Rattle.trace.specs.Recordings.{pairs, held_records}
use Rattle.trace.proofs.Chains.{Chained, chained, parts_kept, gapless_more}
use Rattle.trace.proofs.Rows.{listed_fit}

module _ (s : Recording) where
  chain : Chained 0 (pairs s) s.used
  chain = chained 0 (pairs s) s.used s.gapless

  -- WRITING

  pub same_records : cut_records (take s.used s.area.now) (pairs s) ≡ held_records s
  same_records =
      ap (map record_of) (parts_kept (take s.used s.area.now) s.area.now 0 (pairs s) s.used chain (take-take s.used s.used s.area.now (omega arith)))

  pub held_fit : Traceable (held_records s)
  held_fit =
      let n = length-take-le s.count s.table.now s.listed in
      let u = length-take-le s.used s.area.now s.inside in
      let f = s.few in
      subst Traceable same_records (listed_fit (pairs s) (take s.used s.area.now) (record { few = omega arith; sized = s.sized; gapless = subst (Gapless 0 (pairs s)) (sym u) s.gapless }))

  -- ADDING

  pub listed_kept : (p : Pair) → s.count < length s.table.now → s.count + 1 ≤ length (slice_set s.table.now s.count p)
  listed_kept p h = let l = length-set s.table.now s.count p in omega arith

  module _ (r : Record) (p : Pair) (at : p.offset ≡ s.used) (long : p.length ≡ length (laid r)) (free : s.count < length s.table.now) where
    pairs_more : take (s.count + 1) (slice_set s.table.now s.count p) ≡ pairs s ++ p ∷ []
    pairs_more = take_more_set s.table.now s.count p free

    pub gapless_kept : Gapless 0 (take (s.count + 1) (slice_set s.table.now s.count p)) (s.used + p.length)
    gapless_kept =
        let G : List Pair → Type 0 = λ ps. Gapless 0 ps (s.used + p.length) in
        subst G (sym pairs_more) (gapless_more 0 (pairs s) p s.used (s.used + p.length) at (omega arith) s.gapless)

    pub sized_kept : PacketLength (length r.packet) → Sized (take (s.count + 1) (slice_set s.table.now s.count p))
    sized_kept h =
        subst Sized (sym pairs_more) (All-push (λ q. RecordLength q.length) (pairs s) p s.sized (omega arith, omega arith))

    -- the records so far stay, and the new one is read where it was written
    pub records_more :
        s.used + length (laid r) ≤ length s.area.now →
        cut_records (written s.area.now s.used (laid r)) (take (s.count + 1) (slice_set s.table.now s.count p)) ≡ held_records s ++ r ∷ []
    records_more inside =
        let xs = s.area.now in
        let ys = written xs s.used (laid r) in
        let u = s.used in
        let n = length (laid r) in
        let whole : take (u + n) ys ≡ take u xs ++ laid r = front_written xs (laid r) u (u + n) s.inside (omega arith) in
        let front : take u ys ≡ take u xs =
        sym (take-take u (u + n) ys (omega arith)) ∙ ap (take u) whole ∙ take_at (take u xs) (laid r) u (length-take-le u xs s.inside)
        in
        let kept : map (cut ys) (pairs s) ≡ map (cut xs) (pairs s) = parts_kept ys xs 0 (pairs s) u chain front in
        let part : take n (drop u ys) ≡ laid r =
        sym (drop-take u n ys) ∙ ap (drop u) whole ∙ drop_at (take u xs) (laid r) u (length-take-le u xs s.inside)
        in
        let new : cut ys p ≡ laid r = ap (λ (k : ℕ). take k (drop p.offset ys)) long ∙ ap (λ (k : ℕ). take n (drop k ys)) at ∙ part in
        ap (cut_records ys) pairs_more
        ∙ ap (map record_of) (map_push (cut ys) (pairs s) p)
        ∙ map_push record_of (map (cut ys) (pairs s)) (cut ys p)
        ∙ ap (λ (ps : List (List ℕ)). map record_of ps ++ record_of (cut ys p) ∷ []) kept
        ∙ ap (λ (q : List ℕ). held_records s ++ record_of q ∷ []) new
