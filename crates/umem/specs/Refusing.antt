-- The law of refusing, one for every call: a call is served exactly when no refusal applies, and is otherwise answered
-- the smallest number that applies.
use Rattle.std.specs.Prelude.{ℕ, ◌≤◌, Ok, Err, Result}
use Rattle.umem.specs.declared.refusal.Refusal.{Refusal}
use Rattle.umem.specs.Refusals.{number}

-- `applies n` says that the refusal with the number n applies to the call
abbrev pub NoneApplies : (ℕ → Type 0) → Type 0
NoneApplies applies = (n : ℕ) → applies n → ⊥

abbrev pub Smallest : (ℕ → Type 0) → ℕ → Type 0
Smallest applies n = applies n × ((m : ℕ) → applies m → n ≤ m)

-- what a call promises: `served a` of an answer a, and `left` where it is refused
abbrev pub Answers : {A : Type 0} → (ℕ → Type 0) → (A → Type 0) → Type 0 → Result A Refusal → Type 0
Answers applies served left (Ok a) = NoneApplies applies × served a
Answers applies served left (Err e) = Smallest applies (number e) × left
