-- A promise made weaker.
use Rattle.std.proofs.Common.{ℕ, Ok, Err, Result}
use Rattle.umem.specs.declared.refusal.Refusal.{Refusal}
use Rattle.umem.specs.Refusing.{Answers, NoneApplies}

pub answers_weaker :
    {A : Type 0} {applies : ℕ → Type 0} {P Q : A → Type 0} {L M : Type 0} (r : Result A Refusal) →
    Answers applies P L r →
    ((a : A) → NoneApplies applies → P a → Q a) →
    (L → M) →
    Answers applies Q M r
answers_weaker (Ok a) h f g = (h.0, f a h.0 h.1)
answers_weaker (Err e) h f g = (h.0, g h.1)
