-- What the rows of a table say, and how the records of their pairs stand.
use Rattle.std.proofs.Common.{◌≡◌, ℕ, zero, suc, ◌+◌, ◌*◌, ◌^◌, ◌<◌, ◌≤◌, List, [], ◌∷◌, ◌++◌, map, length, get_or, take, drop, sym, refl, ap, ◌∙◌, subst, arith}
use Rattle.std.proofs.lemmas.List.Elements.{All-push}
use Rattle.std.specs.Simd.{first_chunks}
use Rattle.std.proofs.lemmas.List.{take_more, take-take, drop-take, take-map, drop-drop, map_push, length-map, get_or-map}
use Rattle.model.specs.Traces.{RecordLength, value, word, word_at}
use Rattle.model.proofs.Packing.{value_low}
use Rattle.trace.specs.declared.pairs.Pair.{Pair}
use Rattle.trace.specs.Files.{Headed, Follows, StandFrom, Within}
use Rattle.trace.specs.Pairs.{IsRow, pair_in, row_of, rows, Gapless, Sized}
use Rattle.trace.proofs.Chains.{Chained, chained, ends_within, one_end, next_of, gapless_more}
use Rattle.trace.proofs.Held.{pair_at}

-- A ROW

-- a number is what its four bytes say
pub number_said : (n : ℕ) (bs : List ℕ) → n < 2 ^ 32 → word n ≡ bs → n ≡ value bs
number_said n bs h e = sym (value_low 4 n (omega arith)) ∙ ap value e

-- a pair is read back from its row
pub pair_back : (p : Pair) → p.offset < 2 ^ 32 → p.length < 2 ^ 32 → pair_in (row_of p) ≡ p
pair_back p fo fl =
    ap (λ (n : ℕ). record { offset = n; length = value (word p.length) }) (value_low 4 p.offset (omega arith))
    ∙ ap (λ (n : ℕ). record { offset = p.offset; length = n }) (value_low 4 p.length (omega arith))

-- eight bytes of a file say the pair that stands there
pub row_pair : (bytes : List ℕ) (i : ℕ) → pair_in (take 8 (drop (4 + 8 * i) bytes)) ≡ pair_at bytes i
row_pair bytes i =
    let xs = drop (4 + 8 * i) bytes in
    let o : take 4 (take 8 xs) ≡ take 4 xs = take-take 4 8 xs (omega arith) in
    let z : 4 + 8 * i + 4 ≡ 8 + 8 * i = omega arith in
    let l : take 4 (drop 4 (take 8 xs)) ≡ take 4 (drop (8 + 8 * i) bytes) =
    ap (take 4) (drop-take 4 4 xs)
    ∙ take-take 4 4 (drop 4 xs) (omega arith)
    ∙ ap (take 4) (drop-drop 4 (4 + 8 * i) bytes ∙ ap (λ (k : ℕ). drop k bytes) z)
    in
    ap (λ (bs : List ℕ). record { offset = value bs; length = word_at (take 8 xs) 4 }) o ∙ ap (λ (bs : List ℕ). record { offset = word_at bytes (4 + 8 * i); length = value bs }) l

row_at : (k : ℕ) (xs : List ℕ) (i : ℕ) (d : List ℕ) → i < k → get_or (first_chunks 8 k xs) i d ≡ take 8 (drop (8 * i) xs)
row_at zero xs i d h = absurd (omega arith)
row_at (suc k) xs zero d h = refl
row_at (suc k) xs (suc i) d h =
    let z : 8 + 8 * i ≡ 8 * suc i = omega arith in
    row_at k (drop 8 xs) i d (omega arith) ∙ ap (take 8) (drop-drop (8 * i) 8 xs ∙ ap (λ (m : ℕ). drop m xs) z)

pub pair_read :
    (bytes : List ℕ) (rows : List (List ℕ)) (i : ℕ) (d : List ℕ) (p : Pair) →
    Headed bytes rows →
    i < length rows →
    IsRow (get_or rows i d) p →
    p ≡ pair_at bytes i
pair_read bytes rows i d p head h row =
    sym row.read
    ∙ ap (λ (rs : List (List ℕ)). pair_in (get_or rs i d)) head.listed
    ∙ ap pair_in (row_at (length rows) (drop 4 bytes) i d h ∙ ap (take 8) (drop-drop (8 * i) 4 bytes))
    ∙ row_pair bytes i

-- ROWS

-- one row more
pub stand_more :
    (place : ℕ) (rows : List (List ℕ)) (i end next : ℕ) (d : List ℕ) (p : Pair) →
    i < length rows →
    IsRow (get_or rows i d) p →
    StandFrom place (take i rows) end →
    Follows p end next →
    StandFrom place (take (i + 1) rows) next
stand_more place rows i end next d p h row s f =
    let ps = map pair_in (take i rows) in
    let more : take (i + 1) rows ≡ take i rows ++ get_or rows i d ∷ [] = take_more rows i d h in
    let m : map pair_in (take (i + 1) rows) ≡ ps ++ p ∷ [] =
    ap (map pair_in) more
    ∙ map_push pair_in (take i rows) (get_or rows i d)
    ∙ ap (λ (q : Pair). ps ++ q ∷ []) row.read
    in
    record {
      said = ap (map row_of) m
          ∙ map_push row_of ps p
          ∙ ap (λ (rs : List (List ℕ)). rs ++ row_of p ∷ []) s.said
          ∙ ap (λ (r : List ℕ). take i rows ++ r ∷ []) row.written
          ∙ sym more;
      sized = subst Sized (sym m) (All-push (λ q. RecordLength q.length) ps p s.sized f.sized);
      gapless = subst (λ (qs : List Pair). Gapless place qs next) (sym m) (gapless_more place ps p end next f.begins f.ends s.gapless);
    }

-- the record of each row ends within them, and has a byte
pub row_within :
    (place : ℕ) (rows : List (List ℕ)) (end i : ℕ) (d : List ℕ) (p : Pair) →
    i < length rows →
    IsRow (get_or rows i d) p →
    StandFrom place rows end →
    (1 ≤ p.length) × (p.offset + p.length ≤ end)
row_within place rows end i d p h row s =
    let ps = map pair_in rows in
    let n = length-map rows pair_in in
    let q : get_or ps i p ≡ p = get_or-map pair_in rows i d p h ∙ row.read in
    let w = ends_within place ps end i p (chained place ps end s.gapless) (omega arith) in
    let z = s.sized i p (omega arith) in
    let P : Pair → Type 0 = λ a. (1 ≤ a.length) × (a.offset + a.length ≤ end) in
    subst P q (omega arith, w)

-- a row whose pair doesn't follow on, or not within the file, stands in no such rows
pub wrong_next :
    (place size : ℕ) (rows : List (List ℕ)) (i end : ℕ) (d : List ℕ) (p : Pair) →
    i < length rows →
    IsRow (get_or rows i d) p →
    StandFrom place (take i rows) end →
    ((next : ℕ) → ¬ (Within size (Follows p end) next)) →
    (e : ℕ) → ¬ (Within size (StandFrom place rows) e)
wrong_next place size rows i end d p h row t wrong e (s, z) =
    let ps = map pair_in rows in
    let n = length-map rows pair_in in
    let q : get_or ps i p ≡ p = get_or-map pair_in rows i d p h ∙ row.read in
    let front : Chained place (take i ps) end =
    subst (λ (qs : List Pair). Chained place qs end) (sym (take-map pair_in i rows)) (chained place (map pair_in (take i rows)) end t.gapless)
    in
    let o = next_of place ps e end i p (chained place ps e s.gapless) front (omega arith) in
    let begins : p.offset ≡ end = sym (ap (λ (a : Pair). a.offset) q) ∙ o in
    let w = row_within place rows e i d p h row s in
    let P : Pair → Type 0 = λ a. RecordLength a.length in
    wrong (end + p.length) (record { begins = begins; sized = subst P q (s.sized i p (omega arith)); ends = refl }, omega (arith, w.1))

pub same_end : (place : ℕ) (rows : List (List ℕ)) (e f : ℕ) → StandFrom place rows e → StandFrom place rows f → e ≡ f
same_end place rows e f s t =
    one_end place (map pair_in rows) e f (chained place (map pair_in rows) e s.gapless) (chained place (map pair_in rows) f t.gapless)
