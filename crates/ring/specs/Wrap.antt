-- Marks have 32 bits and wrap.
use Rattle.std.specs.Prelude.{ℕ, ◌+◌, ◌-◌, ◌%◌, ◌^◌}

-- the mark n places after the mark m
abbrev pub past : ℕ → ℕ → ℕ
past m n = (m + n) % 2 ^ 32

-- how many places the mark p is ahead of the mark c: p − c modulo 2^32
abbrev pub ahead : ℕ → ℕ → ℕ
ahead p c = (p + (2 ^ 32 - c)) % 2 ^ 32
