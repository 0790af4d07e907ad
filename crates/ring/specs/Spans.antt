-- What a ring of s slots holds from a mark on.
use Rattle.std.specs.Prelude.{ℕ, ◌%◌, List, ◌++◌, take, drop}

-- the list xs, read from place c on and round to its start
abbrev pub turned : {E : Type 0} → ℕ → List E → List E
turned c xs = drop c xs ++ take c xs

-- the n entries from the mark m on, oldest first: mark m uses slot m modulo s
unfoldable pub span : {E : Type 0} → (s m n : ℕ) → List E → List E
span s m n xs = take n (turned (m % s) (take s xs))
