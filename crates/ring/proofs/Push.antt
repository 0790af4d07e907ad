-- A push, from the calls that it is made of.
use Rattle.std.proofs.Common.{◌≡◌, ℕ, [], length, Ok, Err, Result, ap, ◌∙◌, arith}
use Rattle.std.proofs.lemmas.List.{take_more_set, nil_from_length, length-drop, length-set}
use Rattle.umem.specs.declared.refusal.Refusal.{Refusal}
use Rattle.ring.specs.Wrap.{ahead}
use Rattle.ring.specs.Marks.{Numbers, with_reserved}
use Rattle.ring.specs.Rings.{State, Sound, draft, Reserved, Written, Submitted, RingSubmits, Room, Pushed, Pushes}
use Rattle.ring.proofs.Steps.{length-draft}

-- one slot was reserved where none was before, and written
module _
    {E : Type 0} (s a b : State E) (r : ℕ × ℕ) (e : E) (ok : Sound s) (none : s.marks.reserved ≡ 0) (some : r.0 ≡ 0 → ⊥) (h : Reserved s 1 r a) (ok_a : Sound a)
    (w : Written a r.1 e b) where
  room : Room s.marks
  room = grind arith

  one_reserved : a.marks ≡ with_reserved s.marks 1
  one_reserved = grind (arith, room)

  pushed : (t : State E) → Submitted b 1 t → Pushed s e t
  pushed t m =
      let is = one_reserved in
      let place : ahead r.1 a.marks.producer ≡ 0 = grind arith in
      let long : length (draft a) ≡ 1 = grind (arith, length-draft a ok_a) in
      let one = take_more_set (draft a) 0 e (omega arith) in
      let before : draft s ≡ [] = nil_from_length (draft s) (length-draft s ok ∙ none) in
      let after : draft t ≡ [] = nil_from_length (draft t) (grind (arith, length-drop 1 (draft b), length-set (draft a) 0 e)) in
      record { moves = grind arith; memory = grind arith; waits = grind arith; drafts = cc }

  pub pushes : (q : Result (Unit {0}) Refusal) (t : State E) → RingSubmits b 1 q t → Pushes s e q t
  pushes (Ok _) t m = (λ n x. x.1 room, pushed t m.1)
  pushes (Err x) t m = absurd (omega (arith, ap (λ (k : Numbers). k.reserved) (w.moves ∙ one_reserved), m.0.0.1))
