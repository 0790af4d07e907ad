-- Pairs that follow one another with no gap.
use Rattle.std.proofs.Common.{◌≡◌, ℕ, zero, suc, ◌+◌, ◌-◌, ◌*◌, ◌<◌, ◌≤◌, List, [], ◌∷◌, ◌++◌, map, length, get_or, take, drop, sym, refl, ap, ◌∙◌, subst, arith, take-add}
use Rattle.std.specs.List.{All}
use Rattle.std.proofs.lemmas.List.{append_assoc, take-take, drop-take, drop-drop, length-take-le, length-drop, length-map, get_or-map}
use Rattle.model.specs.Traces.{word, table, RecordLength}
use Rattle.model.proofs.Packing.{all}
use Rattle.trace.specs.declared.pairs.Pair.{Pair}
use Rattle.trace.specs.Pairs.{cut, rows, Gapless, Sized}

-- the same, step by step
abbrev pub Chained : ℕ → List Pair → ℕ → Type 0
Chained a [] e = a ≡ e
Chained a (p ∷ ps) e = (p.offset ≡ a) × Chained (a + p.length) ps e

pub chained : (a : ℕ) (ps : List Pair) (e : ℕ) → Gapless a ps e → Chained a ps e
chained a [] e h = cc
chained a (p ∷ ps) e h = ((cc), chained (a + p.length) ps e (cc))

-- a chain has one end
pub one_end : (a : ℕ) (ps : List Pair) (e f : ℕ) → Chained a ps e → Chained a ps f → e ≡ f
one_end a [] e f h k = sym h ∙ k
one_end a (p ∷ ps) e f h k = one_end (a + p.length) ps e f h.1 k.1

-- a pair begins where those before it end
pub next_of : (a : ℕ) (ps : List Pair) (e f i : ℕ) (d : Pair) → Chained a ps e → Chained a (take i ps) f → i < length ps → (get_or ps i d).offset ≡ f
next_of a [] e f i d h k l = absurd (omega arith)
next_of a (p ∷ ps) e f zero d h k l = h.0 ∙ k
next_of a (p ∷ ps) e f (suc i) d h k l = next_of (a + p.length) ps e f i d h.1 k.1 (omega arith)

pub chained_le : (a : ℕ) (ps : List Pair) (e : ℕ) → Chained a ps e → a ≤ e
chained_le a [] e h = omega arith
chained_le a (p ∷ ps) e h = let r = chained_le (a + p.length) ps e h.1 in omega arith

-- each pair ends within the bytes
pub ends_within :
    (a : ℕ) (ps : List Pair) (e k : ℕ) (d : Pair) → Chained a ps e → k < length ps → (get_or ps k d).offset + (get_or ps k d).length ≤ e
ends_within a [] e k d h l = omega arith
ends_within a (p ∷ ps) e zero d h l =
    let o = h.0 in
    let r = chained_le (a + p.length) ps e h.1 in
    omega arith
ends_within a (p ∷ ps) e (suc k) d h l = ends_within (a + p.length) ps e k d h.1 (omega arith)

-- a chain of records is not long
pub chained_below : (a : ℕ) (ps : List Pair) (e : ℕ) → Chained a ps e → Sized ps → e ≤ a + 1793 * length ps
chained_below a [] e h s = omega arith
chained_below a (p ∷ ps) e h s =
    let l = s 0 p (omega arith) in
    let r = chained_below (a + p.length) ps e h.1 (λ k d m. s (suc k) d (omega arith)) in
    omega arith

cut_same : (xs ys : List ℕ) (e o n : ℕ) → o + n ≤ e → take e xs ≡ take e ys → take n (drop o xs) ≡ take n (drop o ys)
cut_same xs ys e o n h k =
    let a = drop-take o n xs in
    let b = drop-take o n ys in
    let c = take-take (o + n) e xs h in
    let d = take-take (o + n) e ys h in
    cc

-- the parts hang on the bytes up to the end alone
pub parts_kept :
    (xs ys : List ℕ) (a : ℕ) (ps : List Pair) (e : ℕ) →
    Chained a ps e →
    take e xs ≡ take e ys →
    map (cut xs) ps ≡ map (cut ys) ps
parts_kept xs ys a [] e h k = refl
parts_kept xs ys a (p ∷ ps) e h k =
    let l = chained_le (a + p.length) ps e h.1 in
    let o = h.0 in
    let c : cut xs p ≡ cut ys p = cut_same xs ys e p.offset p.length (omega arith) k in
    let r = parts_kept xs ys (a + p.length) ps e h.1 k in
    cc

-- one pair more
pub gapless_more :
    (a : ℕ) (ps : List Pair) (p : Pair) (e f : ℕ) → p.offset ≡ e → f ≡ e + p.length → Gapless a ps e → Gapless a (ps ++ p ∷ []) f
gapless_more a [] p e f o l h = let z : e ≡ a = cc in cc
gapless_more a (q ∷ ps) p e f o l h =
    let z : q.offset ≡ a = cc in
    let r = gapless_more (a + q.length) ps p e f o l (cc) in
    cc

-- the parts, one behind another, are the bytes from the first to the end
pub parts_joined :
    (xs : List ℕ) (a : ℕ) (ps : List Pair) (e : ℕ) → Chained a ps e → all (map (cut xs) ps) ≡ take (e - a) (drop a xs)
parts_joined xs a [] e h = let z : e - a ≡ 0 = omega arith in ap (λ n. take n (drop a xs)) (sym z)
parts_joined xs a (p ∷ ps) e h =
    let n = p.length in
    let o = h.0 in
    let l = chained_le (a + n) ps e h.1 in
    let r = parts_joined xs (a + n) ps e h.1 in
    let z : n + (e - (a + n)) ≡ e - a = omega arith in
    let t = take-add n (e - (a + n)) (drop a xs) in
    let d = drop-drop n a xs in
    cc

-- each part is as long as its pair says
pub cut_long : (xs : List ℕ) (p : Pair) → p.offset + p.length ≤ length xs → length (cut xs p) ≡ p.length
cut_long xs p h = let d = length-drop p.offset xs in length-take-le p.length (drop p.offset xs) (omega arith)

pub cuts_sized : (xs : List ℕ) (a : ℕ) (ps : List Pair) (e : ℕ) → Chained a ps e → Sized ps → e ≤ length xs → All (λ p. RecordLength (length p)) (map (cut xs) ps)
cuts_sized xs a ps e h s l k d below =
    let n = length-map ps (cut xs) in
    let none : Pair = record { offset = 0; length = 0 } in
    let w = ends_within a ps e k none h (omega arith) in
    let m = cut_long xs (get_or ps k none) (omega arith) in
    let r = s k none (omega arith) in
    let P : List ℕ → Type 0 = λ p. RecordLength (length p) in
    subst P (sym (get_or-map (cut xs) ps k none d (omega arith))) (omega arith, omega arith)

-- the rows of a table are those of the parts
pub rows_table :
    (xs : List ℕ) (s a : ℕ) (ps : List Pair) (e : ℕ) → Chained a ps e → e ≤ length xs → rows s ps ≡ table (s + a) (map (cut xs) ps)
rows_table xs s a [] e h l = refl
rows_table xs s a (p ∷ ps) e h l =
    let m = chained_le (a + p.length) ps e h.1 in
    let o = h.0 in
    let n = cut_long xs p (omega arith) in
    let r = rows_table xs s (a + p.length) ps e h.1 l in
    let z : s + (a + p.length) ≡ s + a + length (cut xs p) = omega arith in
    let q = append_assoc (word (s + p.offset)) (word p.length) (rows s ps) in
    cc
