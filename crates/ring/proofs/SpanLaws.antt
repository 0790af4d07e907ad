-- The laws of span: what it holds at each place, how it splits, and what a write does to it.
use Rattle.std.proofs.Common.{◌≡◌, ℕ, ◌+◌, ◌-◌, ◌/◌, ◌%◌, ◌^◌, ◌<◌, ◌≤◌, ◌≢◌, List, ◌++◌, length, get_or, take, drop, set, sym, ◌∙◌, mul-le-mul_right, mod-lt, mod-eq_of_lt, add-mul, div-add-mod', arith}
use native.Mathlib.Nat.{dvd_of_mod-eq-zero, mod-mod_of_dvd, mod-add-mod, mod-eq-sub-mod}
use Rattle.std.proofs.lemmas.List.{same_lists, get_or-take, get_or-drop, get_or_append_left, get_or-append_right, length-append, length-take, length-take-le, length-drop, length-set, get_or-set_same, get_or-set_other}
use Rattle.ring.specs.Wrap.{past}
use Rattle.ring.specs.Spans.{turned, span}

-- the slot of a mark does not see the wrap, since s slots divide the numbers of 32 bits
pub slot_past : (s m j : ℕ) → 2 ^ 32 % s ≡ 0 → past m j % s ≡ (m + j) % s
slot_past s m j h = mod-mod_of_dvd s (m + j) (dvd_of_mod-eq-zero s h)

-- marks less than s apart have slots of their own
apart_below : (s m j k : ℕ) → j < k → k < s → (m + j) % s ≢ (m + k) % s
apart_below s m j k h l e =
    let x = div-add-mod' (m + j) s in
    let y = div-add-mod' (m + k) s in
    grind (arith, mul-le-mul_right {m = (m + j) / s + 1} {n = (m + k) / s} s, mul-le-mul_right {m = (m + k) / s} {n = (m + j) / s} s, add-mul ((m + j) / s) 1 s)

pub apart : (s m j k : ℕ) → j < s → k < s → j ≢ k → (m + j) % s ≢ (m + k) % s
apart s m j k h l ne e = grind (arith, apart_below s m j k, apart_below s m k j, sym e)

pub length-turned : {E : Type 0} (c : ℕ) (xs : List E) → length (turned c xs) ≡ length xs
length-turned c xs = simp (length-append, length-drop, length-take) (omega arith)

pub get_or-turned :
    {E : Type 0} (xs : List E) (s c j : ℕ) (d : E) →
    length xs ≡ s →
    c < s →
    j < s →
    get_or (turned c xs) j d ≡ get_or xs ((c + j) % s) d
get_or-turned xs s c j d e h l = grind (arith, length-drop c xs, get_or_append_left (drop c xs) (take c xs) d j, get_or-drop c xs j d, get_or-append_right (drop c xs) (take c xs) (s - c) j d, get_or-take c xs (j - (s - c)) d, mod-eq_of_lt {n = c + j} {m = s}, mod-eq-sub-mod {n = c + j} {m = s}, mod-eq_of_lt {n = c + j - s} {m = s})

pub length-span : {E : Type 0} (s m n : ℕ) (xs : List E) → s ≤ length xs → n ≤ s → length (span s m n xs) ≡ n
unfolding span
length-span s m n xs h l = grind (arith, length-turned (m % s) (take s xs), length-take-le s xs h, length-take-le n (turned (m % s) (take s xs)))

pub get_or-span :
    {E : Type 0} (s m n j : ℕ) (xs : List E) (d : E) →
    (0 < s → 2 ^ 32 % s ≡ 0) →
    s ≤ length xs →
    n ≤ s →
    j < n →
    get_or (span s m n xs) j d ≡ get_or xs (past m j % s) d
unfolding span
get_or-span s m n j xs d w h l b =
    let some : 0 < s = omega arith in
    grind (arith, get_or-take n (turned (m % s) (take s xs)) j d b, get_or-turned (take s xs) s (m % s) j d, length-take-le s xs h, mod-lt m some, mod-lt (m % s + j) some, get_or-take s xs ((m % s + j) % s) d, mod-add-mod m s j, slot_past s m j)

-- a span is its front, and then the span from the mark where the front ends
pub span_split :
    {E : Type 0} (s m a b : ℕ) (xs : List E) →
    (0 < s → 2 ^ 32 % s ≡ 0) →
    s ≤ length xs →
    a + b ≤ s →
    span s m (a + b) xs ≡ span s m a xs ++ span s (past m a) b xs
span_split s m a b xs w h l =
    let front = length-span s m a xs h (omega arith) in
    let back = length-span s (past m a) b xs h (omega arith) in
    let all = length-span s m (a + b) xs h l in
    same_lists _ _ (omega (arith, length-append (span s m a xs) (span s (past m a) b xs)))
    (λ k d q.
    let there : a ≤ k → past (past m a) (k - a) ≡ past m k = λ l. omega arith in
    grind (arith, get_or-span s m (a + b) k xs d w h l, get_or_append_left (span s m a xs) (span s (past m a) b xs) d k, get_or-span s m a k xs d w h, get_or-append_right (span s m a xs) (span s (past m a) b xs) a k d, get_or-span s (past m a) b (k - a) xs d w h))

-- a write inside a span
pub span_set :
    {E : Type 0} (s m n j : ℕ) (xs : List E) (e : E) →
    (0 < s → 2 ^ 32 % s ≡ 0) →
    s ≤ length xs →
    n ≤ s →
    j < n →
    span s m n (set xs (past m j % s) e) ≡ set (span s m n xs) j e
span_set s m n j xs e w h l b =
    let ys : List _ = set xs (past m j % s) e in
    let some : 0 < s = omega arith in
    let longer : s ≤ length ys = omega (arith, length-set xs (past m j % s) e) in
    let before = length-span s m n xs h l in
    let after = length-span s m n ys longer l in
    same_lists _ _ (omega (arith, length-set (span s m n xs) j e))
    (λ k d q.
    grind (arith, get_or-span s m n k ys d w longer l, get_or-span s m n k xs d w h l, mod-lt (past m j) some, get_or-set_same xs (past m j % s) e d, get_or-set_same (span s m n xs) j e d, get_or-set_other xs (past m j % s) (past m k % s) e d, get_or-set_other (span s m n xs) j k e d, apart s m k j, slot_past s m k, slot_past s m j))

-- a write outside it
pub span_set_other :
    {E : Type 0} (s m n j : ℕ) (xs : List E) (e : E) →
    (0 < s → 2 ^ 32 % s ≡ 0) →
    s ≤ length xs →
    n ≤ j →
    j < s →
    span s m n (set xs (past m j % s) e) ≡ span s m n xs
span_set_other s m n j xs e w h l b =
    let ys : List _ = set xs (past m j % s) e in
    let longer : s ≤ length ys = omega (arith, length-set xs (past m j % s) e) in
    let before = length-span s m n xs h (omega arith) in
    let after = length-span s m n ys longer (omega arith) in
    same_lists _ _ (after ∙ sym before)
    (λ k d q.
    grind (arith, get_or-span s m n k ys d w longer, get_or-span s m n k xs d w h, get_or-set_other xs (past m j % s) (past m k % s) e d, apart s m k j, slot_past s m k, slot_past s m j))
