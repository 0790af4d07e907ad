-- What the law of refusing settles.
use Rattle.std.specs.Prelude.{◌≡◌, ℕ, Bool, IsTrue, Ok, Err, Result}
use Rattle.umem.specs.declared.cause.Cause.{Cause}
use Rattle.umem.specs.declared.refusal.Refusal.{Refusal}
use Rattle.umem.specs.Causes.{cause_number}
use Rattle.umem.specs.Refusals.{number}
use Rattle.umem.specs.Refusing.{Answers}

-- whether both answers are served, or both are the same refusal
abbrev pub Alike : Result (Unit {0}) Refusal → Result (Unit {0}) Refusal → Type 0
Alike (Ok _) (Ok _) = Unit {0}
Alike (Ok _) (Err _) = ⊥
Alike (Err _) (Ok _) = ⊥
Alike (Err d) (Err e) = d ≡ e

-- no two refusals and no two causes share a number
pub record NumbersTell : Type 0 where
  pub refusals : (d e : Refusal) → number d ≡ number e → d ≡ e
  pub causes : (c d : Cause) → cause_number c ≡ cause_number d → c ≡ d

-- which refusals apply, given as a test of numbers, settles whether a call is served and the refusal that it answers
abbrev pub Settled : Type 0
Settled =
    (applies : ℕ → Bool) (r s : Result (Unit {0}) Refusal)
    → Answers (λ n. IsTrue (applies n)) (λ _. Unit {0}) (Unit {0}) r
    → Answers (λ n. IsTrue (applies n)) (λ _. Unit {0}) (Unit {0}) s
    → Alike r s
