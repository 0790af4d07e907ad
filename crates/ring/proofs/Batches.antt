-- A batch that releases what it read.
use Rattle.std.proofs.Common.{◌≡◌, ℕ, ◌≤◌, List, [], ◌∷◌, length, take, Ok, Err, Result, ap, ◌∙◌, arith}
use Rattle.std.proofs.lemmas.List.{take_more, length-take-le, take-append-drop}
use Rattle.umem.specs.declared.refusal.Refusal.{Refusal}
use Rattle.ring.specs.Wrap.{past}
use Rattle.ring.specs.Marks.{waiting}
use Rattle.ring.specs.Rings.{State, Sound, queue, PeekedTo, Read, Released, RingReleases, Cancelled, Takes, TakesInto}
use Rattle.ring.proofs.Steps.{length-queue}

-- n entries were peeked, all of them released, and what was peeked beyond them was put back
module _
    {E : Type 0} (s a b t : State E) (n count : ℕ) (ok : Sound s) (p : PeekedTo s n count a) (l : n ≤ a.marks.peeked) (q : Released a n b)
    (c : Cancelled b count t) where
  all_wait : n ≤ waiting s.marks
  all_wait = grind arith

  pub taken : (xs : List E) → xs ≡ take n (queue s) → Takes s n (Ok xs) t
  taken xs e =
      let wait = all_wait in
      let long : length xs ≡ n = grind (arith, length-take-le n (queue s), length-queue s ok) in
      let split = take-append-drop n (queue s) in
      (λ _ few. omega (arith, few.1), (long, record { moves = grind arith; memory = cc; waits = cc; drafts = cc }))

-- two entries, read one after the other
pub pair_taken :
    {E : Type 0} (s a b t : State E) (count o : ℕ) (x y : E) → Sound s → PeekedTo s 2 count a → 2 ≤ a.marks.peeked → Released a 2 b
    → Cancelled b count t → o ≡ s.marks.consumer → Read a o x → Read a (past o 1) y → Takes s 2 (Ok (x ∷ y ∷ [])) t
pair_taken s a b t count o x y ok p l q c d first second =
    let wait = all_wait s a b t 2 count ok p l q c in
    let long = length-queue s ok in
    let older = take_more (queue s) 0 x (omega arith) in
    let younger = take_more (queue s) 1 y (omega arith) in
    taken s a b t 2 count ok p l q c (x ∷ y ∷ []) (grind (arith, first.waits x, second.waits y))

-- as many entries as were wanted, copied while they were peeked
module _
    {E : Type 0} (s a b t : State E) (count : ℕ) (out xs : List E) (ok : Sound s) (p : PeekedTo s (length out) count a)
    (l : length out ≤ length (queue a)) where
  all_peeked : length out ≤ a.marks.peeked
  all_peeked = grind (arith, length-queue s ok)

  pub taken_into :
      (q : Result (Unit {0}) Refusal) → RingReleases a (length out) q b → Cancelled b count t → xs ≡ take (length out) (queue a) → TakesInto s out q xs t
  taken_into (Ok _) freed c e =
      (taken s a b t (length out) count ok p all_peeked freed.1 c xs (e ∙ ap (take (length out)) p.waits), tt)
  taken_into (Err _) freed c e = absurd (omega (arith, freed.0.0.1, all_peeked))
