-- The steps of reading: a file of records passes them, and what passes them is a trace.
use Rattle.std.proofs.Common.{◌≡◌, ℕ, zero, suc, ◌+◌, ◌-◌, ◌*◌, ◌/◌, ◌^◌, ◌<◌, ◌≤◌, List, [], ◌∷◌, ◌++◌, map, length, take, drop, sym, refl, ap, ◌∙◌, subst, arith, take-add}
use Rattle.std.specs.List.{All, flat_map, range_with_len}
use Rattle.std.specs.Simd.{first_chunks}
use Rattle.std.proofs.lemmas.List.{take_all, take-append-drop, drop-drop, length-take-le, length-append, length-map, length-drop}
use Rattle.model.specs.Traces.{Record, Traceable, RecordLength, laid, record_of, file, word, word_at, table, packed, part_at}
use Rattle.model.proofs.Packing.{all, start, packable, packed_below, length-packed, count_back}
use Rattle.trace.specs.declared.pairs.Pair.{Pair}
use Rattle.trace.specs.Files.{NoRecords, Headed, Stand, StandFrom, IsTrace, records_in}
use Rattle.trace.specs.Pairs.{cut, cut_records, pair_in, row_of, rows, Gapless, Sized}
use Rattle.trace.proofs.Chains.{Chained, chained}
use Rattle.trace.proofs.Rows.{cut_fit, cut_file}
use Rattle.trace.proofs.Said.{number_said, pair_back, row_pair}

-- A FILE OF RECORDS PASSES

-- the pairs of parts that stand one behind another
abbrev placed : ℕ → List (List ℕ) → List Pair
placed a [] = []
placed a (q ∷ qs) = record { offset = a; length = length q } ∷ placed (a + length q) qs

placed_gapless : (a : ℕ) (qs : List (List ℕ)) (e : ℕ) → e ≡ a + length (all qs) → Gapless a (placed a qs) e
placed_gapless a [] e h = ap (λ (n : ℕ). n ∷ []) (omega arith)
placed_gapless a (q ∷ qs) e h =
    let l = length-append q (all qs) in
    ap (λ (ns : List ℕ). a ∷ ns) (placed_gapless (a + length q) qs e (omega arith))

placed_sized : (a : ℕ) (qs : List (List ℕ)) → All (λ q. RecordLength (length q)) qs → Sized (placed a qs)
placed_sized a [] h k d l = absurd (omega arith)
placed_sized a (q ∷ qs) h zero d l = h 0 [] (omega arith)
placed_sized a (q ∷ qs) h (suc k) d l = placed_sized (a + length q) qs (λ j e m. h (suc j) e (omega arith)) k d (omega arith)

placed_back : (a : ℕ) (qs : List (List ℕ)) → a + length (all qs) < 2 ^ 32 → map pair_in (map row_of (placed a qs)) ≡ placed a qs
placed_back a [] h = refl
placed_back a (q ∷ qs) h =
    let l = length-append q (all qs) in
    let p : Pair = record { offset = a; length = length q } in
    let e : pair_in (row_of p) ≡ p = pair_back p (omega arith) (omega arith) in
    let r = placed_back (a + length q) qs (omega arith) in
    cc

table_rows : (a : ℕ) (qs : List (List ℕ)) (rest : List ℕ) → first_chunks 8 (length qs) (table a qs ++ rest) ≡ map row_of (placed a qs)
table_rows a [] rest = refl
table_rows a (q ∷ qs) rest =
    ap (λ (rs : List (List ℕ)). row_of (record { offset = a; length = length q }) ∷ rs) (table_rows (a + length q) qs rest)

module _ (rs : List Record) (h : Traceable rs) where
  pub file_count : word_at (file rs) 0 ≤ 1024
  file_count = let c = count_back rs h in let f = h.few in omega arith

  pub file_long : 4 + 8 * word_at (file rs) 0 ≤ length (file rs)
  file_long =
      let c = count_back rs h in
      let l = length-packed (map laid rs) in
      let n = length-map rs laid in
      omega arith

  file_stands : (rows : List (List ℕ)) → Headed (file rs) rows → Stand rows (length (file rs))
  unfolding packed
  file_stands rows head =
      let qs = map laid rs in
      let f = head.few in
      let n : length rows ≡ length qs = number_said (length rows) (take 4 (file rs)) (omega arith) head.bytes_of ∙ count_back rs h ∙ sym (length-map rs laid) in
      let a = start (length qs) in
      let e : rows ≡ map row_of (placed a qs) =
      head.listed ∙ ap (λ (k : ℕ). first_chunks 8 k (drop 4 (file rs))) n ∙ table_rows a qs (all qs)
      in
      let l = length-packed qs in
      let b = packed_below qs (packable rs h) in
      let back = placed_back a qs (omega arith) in
      let stands : StandFrom a (map row_of (placed a qs)) (length (file rs)) = record {
        said = ap (map row_of) back;
        sized = subst Sized (sym back) (placed_sized a qs (packable rs h).sized);
        gapless = subst (λ (ps : List Pair). Gapless a ps (length (file rs))) (sym back) (placed_gapless a qs (length (file rs)) l);
      }
      in
      subst (λ (k : ℕ). StandFrom (4 + 8 * k) rows (length (file rs))) (sym n) (subst (λ (xs : List (List ℕ)). StandFrom a xs (length (file rs))) (sym e) stands)

-- so what fails a step is the file of no records
pub too_short : (bytes : List ℕ) → length bytes < 4 → NoRecords bytes
too_short bytes h rs t e = let l = file_long rs t in let q = ap length e in omega arith

pub wrong_head : (bytes : List ℕ) → (word_at bytes 0 ≤ 1024 → 4 + 8 * word_at bytes 0 ≤ length bytes → ⊥) → NoRecords bytes
wrong_head bytes wrong rs t e =
    let P : List ℕ → Type 0 = λ bs. (word_at bs 0 ≤ 1024) × (4 + 8 * word_at bs 0 ≤ length bs) in
    let p = subst P e (file_count rs t, file_long rs t) in
    wrong p.0 p.1

pub wrong_rows : (bytes : List ℕ) (rows : List (List ℕ)) → Headed bytes rows → ¬ (Stand rows (length bytes)) → NoRecords bytes
wrong_rows bytes rows head wrong rs t e =
    let P : List ℕ → Type 0 = λ bs. Headed bs rows → Stand rows (length bs) in
    wrong (subst P e (file_stands rs t rows) head)

-- WHAT PASSES IS A TRACE

-- the first chunks are the first ones of more
chunks_taken : (n k m : ℕ) (xs : List ℕ) → k ≤ m → take k (first_chunks n m xs) ≡ first_chunks n k xs
chunks_taken n zero m xs h = refl
chunks_taken n (suc k) zero xs h = absurd (omega arith)
chunks_taken n (suc k) (suc m) xs h = ap (λ (cs : List (List ℕ)). take n xs ∷ cs) (chunks_taken n k m (drop n xs) (omega arith))

-- a count and its rows are read from the front of a file
pub headed :
    (bytes count rest : List ℕ) (rows : List (List ℕ)) (n : ℕ) →
    (count ≡ take 4 bytes) × (rest ≡ drop 4 bytes) × (length rest + 4 ≡ length bytes) →
    word n ≡ count →
    rows ≡ first_chunks 8 (length rest / 8) rest →
    length rows ≡ length rest / 8 →
    n ≤ 1024 →
    n ≤ length rows →
    Headed bytes (take n rows)
headed bytes count rest rows n (front, back, long) said cut many few inside =
    let l = length-take-le n rows inside in
    let w : word n ≡ take 4 bytes = said ∙ front in
    let t = chunks_taken 8 n (length rest / 8) rest (omega arith) in
    record {
      few = omega arith;
      bytes_of = ap word l ∙ w;
      long = omega arith;
      listed = ap (take n) cut ∙ t ∙ ap (first_chunks 8 n) back ∙ ap (λ (k : ℕ). first_chunks 8 k (drop 4 bytes)) (sym l);
    }

chunks_joined : (n : ℕ) (xs : List ℕ) → flat_map (λ r. r) (first_chunks 8 n xs) ≡ take (8 * n) xs
chunks_joined zero xs = refl
chunks_joined (suc n) xs =
    let z : 8 + 8 * n ≡ 8 * suc n = omega arith in
    ap (λ (ys : List ℕ). take 8 xs ++ ys) (chunks_joined n (drop 8 xs)) ∙ sym (take-add 8 (8 * n) xs) ∙ ap (λ (k : ℕ). take k xs) z

-- the parts of a file are what the pairs of its rows cut out of it
rows_parts : (bytes : List ℕ) (n k : ℕ) → map (cut bytes) (map pair_in (first_chunks 8 n (drop (4 + 8 * k) bytes))) ≡ map (part_at bytes) (range_with_len k n)
rows_parts bytes zero k = refl
rows_parts bytes (suc n) k =
    let z : 4 + 8 * k + 8 ≡ 4 + 8 * (k + 1) = omega arith in
    let d : drop 8 (drop (4 + 8 * k) bytes) ≡ drop (4 + 8 * (k + 1)) bytes = drop-drop 8 (4 + 8 * k) bytes ∙ ap (λ (j : ℕ). drop j bytes) z in
    let p = ap (cut bytes) (row_pair bytes k) in
    let r = ap (λ (xs : List ℕ). map (cut bytes) (map pair_in (first_chunks 8 n xs))) d ∙ rows_parts bytes n (k + 1) in
    cc

-- a table that says no more than its pairs
rows_from_0 : (ps : List Pair) → rows 0 ps ≡ flat_map (λ r. r) (map row_of ps)
rows_from_0 [] = refl
rows_from_0 (p ∷ ps) =
    let z : 0 + p.offset ≡ p.offset = omega arith in
    let r = rows_from_0 ps in
    cc

module _ (bytes : List ℕ) (table_rows : List (List ℕ)) (head : Headed bytes table_rows) (s : Stand table_rows (length bytes)) where
  abbrev count : ℕ
  count = length table_rows

  abbrev ps : List Pair
  ps = map pair_in table_rows

  chain : Chained (start count) ps (length bytes)
  chain = chained (start count) ps (length bytes) s.gapless

  same : cut_records bytes ps ≡ records_in bytes count
  same =
      ap (λ (rs : List (List ℕ)). cut_records bytes (map pair_in rs)) head.listed ∙ ap (map record_of) (rows_parts bytes count 0)

  exact : file (cut_records bytes ps) ≡ bytes
  exact =
      let n : length ps ≡ count = length-map table_rows pair_in in
      let long = head.long in
      let dl = length-drop (start count) bytes in
      let rowed : rows 0 ps ≡ take (8 * count) (drop 4 bytes) =
      rows_from_0 ps ∙ ap (flat_map (λ r. r)) (s.said ∙ head.listed) ∙ chunks_joined count (drop 4 bytes)
      in
      let joined : take (length bytes - start count) (drop (start count) bytes) ≡ drop (8 * count) (drop 4 bytes) =
      take_all (length bytes - start count) (drop (start count) bytes) (omega arith) ∙ sym (drop-drop (8 * count) 4 bytes)
      in
      cut_file bytes 0 (start count) ps (length bytes) chain s.sized (omega arith) (omega arith)
      ∙ ap (λ (bs : List ℕ). word (length ps) ++ (rows 0 ps ++ bs)) joined
      ∙ ap (λ (bs : List ℕ). word (length ps) ++ (bs ++ drop (8 * count) (drop 4 bytes))) rowed
      ∙ ap (λ (bs : List ℕ). word (length ps) ++ bs) (take-append-drop (8 * count) (drop 4 bytes))
      ∙ ap (λ (bs : List ℕ). bs ++ drop 4 bytes) (ap word n ∙ head.bytes_of)
      ∙ take-append-drop 4 bytes

  pub made : IsTrace bytes count
  made =
      let n : length ps ≡ count = length-map table_rows pair_in in
      let f = head.few in
      record {
        fits = subst Traceable same (cut_fit bytes (start count) ps (length bytes) chain s.sized (omega arith) (omega arith));
        exact = ap file (sym same) ∙ exact;
      }
