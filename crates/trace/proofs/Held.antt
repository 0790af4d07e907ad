-- The parts of a file and the records that they lay out.
use Rattle.std.proofs.Common.{◌≡◌, ℕ, suc, ◌+◌, ◌-◌, ◌*◌, ◌<◌, ◌≤◌, List, [], ◌∷◌, map, length, get_or, take, drop, Some, None, Option, sym, refl, ap, ◌∙◌, subst, ⊎_elim, arith, MatchOption}
use Rattle.std.specs.Option.{option_map}
use Rattle.std.specs.List.{All, slice_get}
use Rattle.std.proofs.lemmas.List.{drop_all, drop_more, drop-take, take_all, length-map, length-drop, get_or-map}
use Rattle.std.proofs.lemmas.List.FromFn.{length-map-range_with_len, get_or-map-range_with_len}
use Rattle.std.proofs.lemmas.Option.{none-some, slice_get-get_or, slice_get_within, slice_get_cases, get_or_from_slice_get}
use Rattle.model.specs.Traces.{Record, laid, record_of, part_at, parts_in, word_at, Traceable, RecordLength}
use Rattle.trace.specs.declared.layout.Record.{Record as View}
use Rattle.trace.specs.declared.pairs.Pair.{Pair}
use Rattle.trace.specs.Files.{records_in}
use Rattle.std.specs.Iterator.{YieldsFirstBy, MakesProgress, item_count}
use Rattle.trace.specs.declared.traces.Records.{Records}
use Rattle.trace.specs.Meanings.{meant, records_left}
use Rattle.trace.specs.Pairs.{cut}
use Rattle.trace.proofs.Chains.{cut_long}

pub length-parts_in : (bytes : List ℕ) (n : ℕ) → length (parts_in bytes n) ≡ n
length-parts_in bytes n = length-map-range_with_len (part_at bytes) 0 n

pub length-records_in : (bytes : List ℕ) (n : ℕ) → length (records_in bytes n) ≡ n
length-records_in bytes n = length-map (parts_in bytes n) record_of ∙ length-parts_in bytes n

-- PARTS AND RECORDS

-- a part that has a byte is laid out as its record
pub laid_of : (p : List ℕ) → 1 ≤ length p → laid (record_of p) ≡ p
laid_of [] h = absurd (omega arith)
laid_of (b ∷ p) h = refl

pub laid_all : (ps : List (List ℕ)) → All (λ p. RecordLength (length p)) ps → map laid (map record_of ps) ≡ ps
laid_all [] h = refl
laid_all (p ∷ ps) h =
    let l = h 0 [] (omega arith) in
    let a = laid_of p (omega arith) in
    let r = laid_all ps (λ k d m. h (Prim.Native.Nat.suc k) d (omega arith)) in
    cc

-- parts of the lengths that records have are records that a trace can have
pub records_fit : (ps : List (List ℕ)) → length ps ≤ 1024 → All (λ p. RecordLength (length p)) ps → Traceable (map record_of ps)
records_fit ps f h =
    let n = length-map ps record_of in
    record {
      few = omega arith;
      sized = λ k d l.
          let below : k < length ps = omega arith in
          let e = get_or-map record_of ps k [] d below in
          let s = h k [] below in
          let q = ap (λ (r : Record). length r.packet) e in
          let w = length-drop 1 (get_or ps k []) in
          (omega arith, omega arith);
    }

-- A TRACE

pub record_at : (bytes : List ℕ) (n i : ℕ) → i < n → slice_get (records_in bytes n) i ≡ Some (record_of (part_at bytes i))
record_at bytes n i h =
    let l = length-records_in bytes n in
    let m = length-parts_in bytes n in
    let d = record_of [] in
    slice_get-get_or (records_in bytes n) i d (omega arith)
    ∙ ap Some (get_or-map record_of (parts_in bytes n) i [] d (omega arith)
    ∙ ap record_of (get_or-map-range_with_len (part_at bytes) 0 n i i [] h (omega arith)))

-- bytes that are parsed show the record that they lay out
pub parsed : (v : Option View) (bytes : List ℕ) → 1 ≤ length bytes → MatchOption v (length bytes ≡ 0) (λ x. laid (meant x) ≡ bytes) → option_map meant v ≡ Some (record_of bytes)
parsed None bytes h e = absurd (omega arith)
parsed (Some x) bytes h e = ap (λ (bs : List ℕ). Some (record_of bs)) e

-- pair i of a file
abbrev pub pair_at : List ℕ → ℕ → Pair
pair_at bytes i = record { offset = word_at bytes (4 + 8 * i); length = word_at bytes (8 + 8 * i) }

-- what is parsed from the place that pair i says is record i
pub shown :
    (bytes : List ℕ) (n i : ℕ) (p : Pair) (v : Option View) →
    i < n →
    p ≡ pair_at bytes i →
    1 ≤ p.length →
    p.offset + p.length ≤ length bytes →
    MatchOption v (length (take (p.offset + p.length - p.offset) (drop p.offset bytes)) ≡ 0) (λ x. laid (meant x) ≡ take (p.offset + p.length - p.offset) (drop p.offset bytes)) →
    option_map meant v ≡ slice_get (records_in bytes n) i
shown bytes n i p v h s some within e =
    let z : p.offset + p.length - p.offset ≡ p.length = omega arith in
    let l = cut_long bytes p within in
    let P : ℕ → Type 0 = λ k. MatchOption v (length (take k (drop p.offset bytes)) ≡ 0) (λ x. laid (meant x) ≡ take k (drop p.offset bytes)) in
    parsed v (cut bytes p) (omega arith) (subst P z e) ∙ ap (λ (q : Pair). Some (record_of (cut bytes q))) s ∙ sym (record_at bytes n i h)

-- the first element of what is left of a list from i on, and none
pub first_left : {A : Type 0} (xs : List A) (i : ℕ) (x : A) → Some x ≡ slice_get xs i → (i < length xs) × (drop i xs ≡ x ∷ drop (i + 1) xs)
first_left xs i x e =
    let h = slice_get_within xs i x (sym e) in
    (h, drop_more xs i x h ∙ ap (λ y. y ∷ drop (i + 1) xs) (get_or_from_slice_get xs i x x (sym e)))

pub none_left : {A : Type 0} (xs : List A) (i : ℕ) → None ≡ slice_get xs i → drop i xs ≡ []
none_left xs i e = ⊎_elim (λ q. absurd (none-some q.0 (e ∙ q.2))) (λ q. drop_all i xs q.0) (slice_get_cases xs i).1

-- the places from i to e leave the records there; from j on, one place fewer
still_placed : {A : Type 0} (xs : List A) (i e m : ℕ) → e ≡ i + m → drop i (take e xs) ≡ take m (drop i xs)
still_placed xs i e m is = ap (λ (n : ℕ). drop i (take n xs)) is ∙ drop-take i m xs

-- what one place more gives of the records that places leave
pub place_passed :
    (xs : List Record) (i e j k : ℕ) (o : Option View) → k ≡ e → 0 < e - i → j ≡ i + 1 → option_map meant o ≡ slice_get xs i
    → MatchOption o ((drop i (take e xs) ≡ []) × (drop j (take k xs) ≡ [])) (λ v. drop i (take e xs) ≡ meant v ∷ drop j (take k xs))
place_passed xs i e j k (Some v) same more next told =
    let m = e - i - 1 in
    let before = still_placed xs i e (suc m) (omega arith) in
    let after = still_placed xs j k m (omega arith) in
    let first = (first_left xs i (meant v) told).1 in
    before ∙ ap (take (suc m)) first ∙ ap (λ (n : ℕ). meant v ∷ take m (drop n xs)) (sym next) ∙ ap (λ (ys : List Record). meant v ∷ ys) (sym after)
place_passed xs i e j k None same more next told =
    let m = e - i - 1 in
    let none = none_left xs i told in
    let rest : drop j xs ≡ [] = drop_all j xs (omega (arith, length-drop i xs, ap length none)) in
    (still_placed xs i e (suc m) (omega arith) ∙ ap (take (suc m)) none, still_placed xs j k m (omega arith) ∙ ap (take m) rest ∙ take_all m [] (omega arith))

-- so it makes progress
pub progress :
    (s t : Records) (r : Option View) → YieldsFirstBy meant records_left s r t → MakesProgress (λ _. Unit {0}) (item_count records_left) s r t
progress s t (Some v) h = let n = ap length h in record { on = λ f. (tt, f, omega arith); keeps = tt; rests = λ _. tt }
progress s t None h = record { on = λ _. tt; keeps = tt; rests = λ f. f }
