-- How many slots a ring has over a slice of entries.
use Rattle.std.specs.Prelude.{◌≡◌, ℕ, ◌^◌, ◌<◌, ◌≤◌}

-- s is the largest power of two that n entries hold, at most 256; fewer than two entries give 0
pub record SizeFor (n s : ℕ) : Type 0 where
  pub none : n < 2 → s ≡ 0
  pub power : 2 ≤ n → (k : ℕ) × (1 ≤ k) × (k ≤ 8) × (s ≡ 2 ^ k)
  pub held : s ≤ n
  pub largest : (k : ℕ) → 1 ≤ k → k ≤ 8 → 2 ^ k ≤ n → 2 ^ k ≤ s
