-- The waiting entries in two parts.
use Rattle.std.proofs.Common.{◌≡◌, ℕ, ◌+◌, ◌-◌, ◌%◌, ◌<◌, ◌≤◌, min, List, ◌++◌, length, take, drop, arith, append-nil}
use Rattle.std.proofs.lemmas.List.{take-append-le, take_all}
use Rattle.std.proofs.Math.Seq.{take-append-add}
use Rattle.ring.specs.Spans.{span}

-- what is taken from two lists comes from the first as far as that goes
pub take_parts :
    {E : Type 0} (n k : ℕ) (xs ys : List E) → k ≡ min n (length xs) → take n (xs ++ ys) ≡ take k xs ++ take (n - k) ys
take_parts n k xs ys e =
    let sum : length xs ≤ n → n ≡ length xs + (n - k) = λ l. omega arith in
    grind (arith, take-append-le n xs ys, append-nil (take n xs), take_all k xs, take-append-add xs ys (n - k))

-- a span in the parts that the slots hold it in: from its first slot on, and then from their start on
pub span_parts :
    {E : Type 0} (s m n z i k : ℕ) (xs wrapped straight : List E) → z ≡ s → (0 < n → i ≡ m % s) → n ≤ s
    → wrapped ≡ take i (take z xs) → straight ≡ drop i (take z xs) → k ≡ min n (length straight)
    → span s m n xs ≡ take k straight ++ take (n - k) wrapped
unfolding span
span_parts s m n z i k xs wrapped straight d at l a b e =
    let parts = take_parts n k (drop i (take s xs)) (take i (take s xs)) in
    let known = at in
    grind arith
