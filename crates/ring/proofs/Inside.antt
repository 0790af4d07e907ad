-- What a call that is not refused says of its mark or count.
use Rattle.std.proofs.Common.{ℕ, ◌<◌, ◌≤◌, Ok, Err, Result, refl, ⊎_elim, arith}
use Rattle.std.proofs.lemmas.Bool.{cases_lt, cases_eq}
use Rattle.umem.specs.declared.refusal.Refusal.{Refusal}
use Rattle.umem.specs.Refusing.{NoneApplies, Answers}
use Rattle.ring.specs.Marks.{Numbers, waiting, Outside}
use Rattle.ring.specs.Rings.{Room}

pub inside_count : (a n : ℕ) → NoneApplies (Outside (a < n)) → n ≤ a
inside_count a n h = ⊎_elim (λ l. absurd (h 16 (refl, l))) (λ l. l) (cases_lt a n)

pub inside_mark : (a j : ℕ) → NoneApplies (Outside (a ≤ j)) → j < a
inside_mark a j h = ⊎_elim (λ l. l) (λ l. absurd (h 16 (refl, l))) (cases_lt j a)

pub inside_room : (m : Numbers) → NoneApplies (Outside (¬ (Room m))) → Room m
inside_room m h =
    ⊎_elim
    (λ z. ⊎_elim (λ l. (z, l)) (λ l. absurd (h 16 (refl, λ r. omega (arith, r)))) (cases_lt (waiting m) m.size))
    (λ nz. absurd (h 16 (refl, λ r. nz r.0)))
    (cases_eq m.reserved 0)

-- a call to which its refusal does not apply is served
pub served : {A : Type 0} (P Q L : Type 0) (r : Result A Refusal) → Answers (Outside P) (λ _. Q) L r → (P → ⊥) → Q
served P Q L (Ok a) h no_p = h.1
served P Q L (Err e) h no_p = absurd (no_p h.0.0.1)
