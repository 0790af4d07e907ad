-- One side of a ring, and what its calls do to it.
use Rattle.std.specs.Prelude.{◌≡◌, ℕ, ◌-◌, ◌<◌, Result}
use Rattle.umem.specs.declared.refusal.Refusal.{Refusal}
use Rattle.umem.specs.Refusing.{Answers}
use Rattle.ring.specs.declared.marks.sides.Side.{Side}
use Rattle.ring.specs.Marks.{Outside}
use Rattle.ring.specs.Wrap.{past}

-- the last n claimed slots are claimed no longer
abbrev pub Unclaims : Side → ℕ → Result (Unit {0}) Refusal → Side → Type 0
Unclaims s n r t = Answers (Outside (s.claimed < n)) (λ _. t ≡ record { mark = s.mark; claimed = s.claimed - n }) (t ≡ s) r

-- the mark goes on over the first n claimed slots
abbrev pub Passes : Side → ℕ → Result (Unit {0}) Refusal → Side → Type 0
Passes s n r t = Answers (Outside (s.claimed < n)) (λ _. t ≡ record { mark = past s.mark n; claimed = s.claimed - n }) (t ≡ s) r
