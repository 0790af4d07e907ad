-- What a packed list of parts tells of the parts.
use Rattle.std.proofs.Common.{◌≡◌, ℕ, zero, suc, ◌+◌, ◌*◌, ◌/◌, ◌%◌, ◌^◌, ◌<◌, ◌≤◌, List, [], ◌∷◌, ◌++◌, map, length, get_or, take, drop, sym, refl, ap, ◌∙◌, subst, div-lt_iff_lt-mul, pow-suc, arith}
use native.Mathlib.Nat.{mod-add-div}
use Rattle.std.specs.List.{All, AllByRecursion, flat_map}
use Rattle.std.proofs.lemmas.List.{append_assoc, take_at, take_all, take-append-drop, drop_at, drop_more, length-append, length-map, length-take-le, get_or-map, get_or_default, get_or-take, same_lists}
use Rattle.std.proofs.lemmas.Grind.{flat_map-append}
use Rattle.std.proofs.lemmas.List.FromFn.{length-map-range_with_len, get_or-map-range_with_len}
use Rattle.model.specs.Traces.{low_first, value, word, word_at, table, packed, part_at, parts_in, RecordLength, Record, laid, record_of, file, Traceable, FilesTell}

-- NUMBERS IN BYTES

pub length-low_first : (k n : ℕ) → length (low_first k n) ≡ k
length-low_first zero n = refl
length-low_first (suc k) n = ap suc (length-low_first k (n / 256))

pub value_low : (k n : ℕ) → n < 256 ^ k → value (low_first k n) ≡ n
value_low zero n h = omega arith
value_low (suc k) n h =
    let p = pow-suc 256 k in
    let q : n / 256 < 256 ^ k = (div-lt_iff_lt-mul {k = 256} {x = n} {y = 256 ^ k} (omega arith)).1 (omega arith) in
    let r = value_low k (n / 256) q in
    let s = mod-add-div n 256 in
    omega arith

pub low_value : (bs : List ℕ) → AllByRecursion (λ b. b < 256) bs → low_first (length bs) (value bs) ≡ bs
low_value [] h = refl
low_value (b ∷ bs) (l, h) =
    let r = low_value bs h in
    let x : (b + 256 * value bs) % 256 ≡ b = omega arith in
    let y : (b + 256 * value bs) / 256 ≡ value bs = omega arith in
    cc

-- a word that stands behind i bytes
pub word_put : (pre post : List ℕ) (n i : ℕ) → n < 2 ^ 32 → length pre ≡ i → word_at (pre ++ (word n ++ post)) i ≡ n
word_put pre post n i h l =
    let d = drop_at pre (word n ++ post) i l in
    let t = take_at (word n) post 4 (length-low_first 4 n) in
    ap (λ (bs : List ℕ). value (take 4 bs)) d ∙ ap value t ∙ value_low 4 n (omega arith)

-- PARTS ONE BEHIND ANOTHER

-- the bytes of all parts
abbrev pub all : List (List ℕ) → List ℕ
all ps = flat_map (λ p. p) ps

-- where the parts of a packed list of n begin
abbrev pub start : ℕ → ℕ
start n = 4 + 8 * n

-- parts that a trace can have
abbrev pub Part : List ℕ → Type 0
Part p = RecordLength (length p)

pub record Packable (ps : List (List ℕ)) : Type 0 where
  pub few : length ps ≤ 1024
  pub sized : All Part ps

pub length-table : (a : ℕ) (ps : List (List ℕ)) → length (table a ps) ≡ 8 * length ps
length-table a [] = refl
length-table a (p ∷ ps) = let r = length-table (a + length p) ps in omega arith

pub table_append : (a : ℕ) (ps qs : List (List ℕ)) → table a (ps ++ qs) ≡ table a ps ++ table (a + length (all ps)) qs
table_append a [] qs = let z : a + 0 ≡ a = omega arith in ap (λ (n : ℕ). table n qs) (sym z)
table_append a (p ∷ ps) qs =
    let r = table_append (a + length p) ps qs in
    let l = length-append p (all ps) in
    let z : a + length p + length (all ps) ≡ a + length (p ++ all ps) = omega arith in
    cc

pub length-packed : (ps : List (List ℕ)) → length (packed ps) ≡ start (length ps) + length (all ps)
unfolding packed
length-packed ps =
    let t = length-table (start (length ps)) ps in
    let l = length-append (table (start (length ps)) ps) (all ps) in
    omega arith

pub all_below : (ps : List (List ℕ)) → All Part ps → length (all ps) ≤ 1793 * length ps
all_below [] h = omega arith
all_below (p ∷ ps) h =
    let l = h 0 [] (omega arith) in
    let r = all_below ps (λ k d m. h (suc k) d (omega arith)) in
    let a = length-append p (all ps) in
    omega arith

-- every number of a packed list fits 32 bits
pub packed_below : (ps : List (List ℕ)) → Packable ps → length (packed ps) < 2 ^ 32
packed_below ps h =
    let l = length-packed ps in
    let b = all_below ps h.sized in
    let f = h.few in
    omega arith

-- the count
pub packed_count : (ps : List (List ℕ)) → length ps ≤ 1024 → word_at (packed ps) 0 ≡ length ps
unfolding packed
packed_count ps h = word_put [] (table (start (length ps)) ps ++ all ps) (length ps) 0 (omega arith) refl

module _ (qs : List (List ℕ)) (p : List ℕ) (ss : List (List ℕ)) where
  -- a list of parts by the part p, how many there are, and where p begins
  abbrev pub whole : List (List ℕ)
  whole = qs ++ p ∷ ss

  abbrev pub place : ℕ
  place = start (length whole) + length (all qs)

  -- what stands behind the pair of p
  abbrev pub behind : List ℕ
  behind = table (place + length p) ss ++ all whole

  packed_pair : packed whole ≡ (word (length whole) ++ table (start (length whole)) qs) ++ (word place ++ (word (length p) ++ behind))
  unfolding packed
  packed_pair =
      let n = length whole in
      let t = table_append (start n) qs (p ∷ ss) in
      let a = append_assoc (table (start n) qs) (word place ++ (word (length p) ++ table (place + length p) ss)) (all whole) in
      let b = append_assoc (word n) (table (start n) qs) (word place ++ (word (length p) ++ behind)) in
      cc

  packed_part : packed whole ≡ (word (length whole) ++ (table (start (length whole)) whole ++ all qs)) ++ (p ++ all ss)
  unfolding packed
  packed_part =
      let n = length whole in
      let j = flat_map-append (λ p. p) qs (p ∷ ss) in
      let a = append_assoc (table (start n) whole) (all qs) (p ++ all ss) in
      let b = append_assoc (word n) (table (start n) whole ++ all qs) (p ++ all ss) in
      cc

  module _ (fits : Packable whole) where
    pub place_fits : place + length p ≤ length (packed whole)
    place_fits =
        let l = length-packed whole in
        let j = ap length (flat_map-append (λ p. p) qs (p ∷ ss)) in
        let a = length-append (all qs) (p ++ all ss) in
        let b = length-append p (all ss) in
        omega arith

    pub offset_told : word_at (packed whole) (4 + 8 * length qs) ≡ place
    offset_told =
        let f = place_fits in
        let b = packed_below whole fits in
        let t = length-table (start (length whole)) qs in
        ap (λ (bs : List ℕ). word_at bs (4 + 8 * length qs)) packed_pair
        ∙ word_put (word (length whole) ++ table (start (length whole)) qs) (word (length p) ++ behind) place (4 + 8 * length qs) (omega arith) (omega arith)

    pub length_told : word_at (packed whole) (8 + 8 * length qs) ≡ length p
    length_told =
        let f = place_fits in
        let b = packed_below whole fits in
        let t = length-table (start (length whole)) qs in
        let pre = word (length whole) ++ table (start (length whole)) qs in
        let l = length-append pre (word place) in
        ap (λ (bs : List ℕ). word_at bs (8 + 8 * length qs)) (packed_pair ∙ sym (append_assoc pre (word place) (word (length p) ++ behind)))
        ∙ word_put (pre ++ word place) behind (length p) (8 + 8 * length qs) (omega arith) (omega arith)

    pub part_told : take (length p) (drop place (packed whole)) ≡ p
    part_told =
        let t = length-table (start (length whole)) whole in
        let pre = word (length whole) ++ (table (start (length whole)) whole ++ all qs) in
        let l = length-append (table (start (length whole)) whole) (all qs) in
        let d = drop_at pre (p ++ all ss) place (omega arith) in
        ap (λ (bs : List ℕ). take (length p) (drop place bs)) packed_part
        ∙ ap (take (length p)) d
        ∙ take_at p (all ss) (length p) refl

-- what a packed list tells at place i: where part i begins, how long it is, that it ends within, and the part itself
pub record Told (bytes : List ℕ) (i at : ℕ) (p : List ℕ) : Type 0 where
  pub offset : word_at bytes (4 + 8 * i) ≡ at
  pub long : word_at bytes (8 + 8 * i) ≡ length p
  pub within : at + length p ≤ length bytes
  pub part : part_at bytes i ≡ p

told_split : (qs : List (List ℕ)) (p : List ℕ) (ss : List (List ℕ)) → Packable (whole qs p ss) → Told (packed (whole qs p ss)) (length qs) (place qs p ss) p
told_split qs p ss fits =
    let o = offset_told qs p ss fits in
    let l = length_told qs p ss fits in
    let bytes = packed (whole qs p ss) in
    record { offset = o; long = l; within = place_fits qs p ss fits; part = ap (λ (n : ℕ). take n (drop (word_at bytes (4 + 8 * length qs)) bytes)) l ∙ ap (λ (n : ℕ). take (length p) (drop n bytes)) o ∙ part_told qs p ss fits }

pub told : (ps : List (List ℕ)) (i : ℕ) → i < length ps → Packable ps → Told (packed ps) i (start (length ps) + length (all (take i ps))) (get_or ps i [])
told ps i h fits =
    let qs = take i ps in
    let p = get_or ps i [] in
    let ss = drop (i + 1) ps in
    let e : qs ++ p ∷ ss ≡ ps = ap (λ (xs : List (List ℕ)). take i ps ++ xs) (sym (drop_more ps i [] h)) ∙ take-append-drop i ps in
    let l : length qs ≡ i = length-take-le i ps (omega arith) in
    let P : List (List ℕ) → Type 0 = λ xs. Told (packed xs) (length qs) (start (length xs) + length (all qs)) p in
    let Q : ℕ → Type 0 = λ k. Told (packed ps) k (start (length ps) + length (all qs)) p in
    subst Q l (subst P e (told_split qs p ss (subst Packable (sym e) fits)))

-- the parts of a packed list are read back from it, the first n of them too
pub parts_back : (ps : List (List ℕ)) (n : ℕ) → n ≤ length ps → Packable ps → parts_in (packed ps) n ≡ take n ps
parts_back ps n h fits =
    same_lists (parts_in (packed ps) n) (take n ps)
    (length-map-range_with_len (part_at (packed ps)) 0 n ∙ sym (length-take-le n ps h))
    (λ k d l.
    let c = length-map-range_with_len (part_at (packed ps)) 0 n in
    let below : k < n = omega arith in
    let inside : k < length ps = omega arith in
    get_or-map-range_with_len (part_at (packed ps)) 0 n k k d below (omega arith)
    ∙ (told ps k inside fits).part
    ∙ get_or_default ps k [] d inside
    ∙ sym (get_or-take n ps k d below))

-- RECORDS

pub laid_back : (rs : List Record) → map record_of (map laid rs) ≡ rs
laid_back [] = refl
laid_back (r ∷ rs) = ap (λ (xs : List Record). r ∷ xs) (laid_back rs)

pub packable : (rs : List Record) → Traceable rs → Packable (map laid rs)
packable rs h =
    let n = length-map rs laid in
    let f = h.few in
    record {
      few = omega arith;
      sized = λ k d l.
          let below : k < length rs = omega arith in
          let none : Record = record { port = 0; packet = [] } in
          let s = h.sized k none below in
          let e = get_or-map laid rs k none d below in
          subst Part (sym e) (omega arith, omega arith);
    }

-- the records of a file are read back from it
pub records_back : (rs : List Record) → Traceable rs → map record_of (parts_in (file rs) (length rs)) ≡ rs
records_back rs h =
    let ps = map laid rs in
    let n = length-map rs laid in
    ap (map record_of) (parts_back ps (length rs) (omega arith) (packable rs h) ∙ take_all (length rs) ps (omega arith)) ∙ laid_back rs

pub count_back : (rs : List Record) → Traceable rs → word_at (file rs) 0 ≡ length rs
count_back rs h =
    let n = length-map rs laid in
    let f = h.few in
    packed_count (map laid rs) (omega arith) ∙ n

pub files_tell : FilesTell
files_tell rs ss h k e =
    let n : length rs ≡ length ss = sym (count_back rs h) ∙ ap (λ (bs : List ℕ). word_at bs 0) e ∙ count_back ss k in
    sym (records_back rs h)
    ∙ ap (λ (bs : List ℕ). map record_of (parts_in bs (length rs))) e
    ∙ ap (λ (m : ℕ). map record_of (parts_in (file ss) m)) n
    ∙ records_back ss k
