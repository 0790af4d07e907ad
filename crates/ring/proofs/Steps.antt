-- What each step does to the lists of a ring.
use Rattle.std.proofs.Common.{◌≡◌, ℕ, ◌+◌, ◌-◌, ◌%◌, ◌^◌, ◌<◌, ◌≤◌, [], ◌∷◌, length, get_or, set, None, Ok, Err, Result, sym, refl, ap, ◌∙◌, subst, arith}
use Rattle.std.proofs.lemmas.List.{take_at, drop_at, take-append-drop, nil_from_length, take_more}
use Rattle.umem.specs.declared.refusal.Refusal.{Refusal}
use Rattle.umem.specs.declared.refusal.Refusal.TheVariants.{OutsideSpan}
use Rattle.umem.specs.Refusing.{Answers, NoneApplies}
use Rattle.umem.proofs.Refusing.{answers_weaker}
use Rattle.ring.specs.Wrap.{past, ahead}
use Rattle.ring.specs.Spans.{span}
use Rattle.ring.specs.Marks.{Numbers, fresh_numbers, waiting, free, with_reserved, produced, consumed, Reserves, Withdraws, Submits, Releases}
use Rattle.ring.specs.Sizes.{SizeFor}
use Rattle.ring.specs.Rings.{State, Sound, Made, queue, draft, Reserved, Written, Submitted, RingSubmits, Withdrawn, RingWithdraws, Read, Released, RingReleases, Pops, Takes}
use Rattle.ring.proofs.Inside.{inside_count}
use Rattle.ring.proofs.SpanLaws.{span_set, span_set_other, span_split, length-span, get_or-span}

-- the same slots under other marks
abbrev pub with_marks : {E : Type 0} → State E → Numbers → State E
with_marks s m = record { marks = m; slots = s.slots }

-- a step of the marks, served or refused, is one of the ring
lifted :
    {E : Type 0} {applies : ℕ → Type 0} {m : Numbers} (s : State E) (k : Numbers) (Q : State E → Type 0) (r : Result (Unit {0}) Refusal)
    → Answers applies (λ _. k ≡ m) (k ≡ s.marks) r → (NoneApplies applies → Q (with_marks s m))
    → Answers applies (λ _. Q (with_marks s k)) (with_marks s k ≡ s) r
lifted s k Q r h q = answers_weaker r h (λ _ none e. subst (λ (k : Numbers). Q (with_marks s k)) (sym e) (q none)) (λ e. ap (with_marks s) e)

module _ {E : Type 0} (s : State E) (ok : Sound s) where
  pub length-queue : length (queue s) ≡ waiting s.marks
  length-queue = length-span s.marks.size s.marks.consumer (waiting s.marks) s.slots ok.room (omega arith)

  pub length-draft : length (draft s) ≡ s.marks.reserved
  length-draft = length-span s.marks.size s.marks.producer s.marks.reserved s.slots ok.room (omega arith)

  pub submitted : (n : ℕ) → n ≤ s.marks.reserved → Submitted s n (with_marks s (produced s.marks n))
  submitted n l =
      let z = s.marks.size in
      let c = s.marks.consumer in
      let p = s.marks.producer in
      let w = waiting s.marks in
      let r = s.marks.reserved in
      let joint = span_split z c w n s.slots ok.marks.whole ok.room (omega arith) in
      let cut = span_split z p n (r - n) s.slots ok.marks.whole ok.room (omega arith) in
      let long = length-span z p n s.slots ok.room (omega arith) in
      let front = take_at (span z p n s.slots) (span z (past p n) (r - n) s.slots) n long in
      let back = drop_at (span z p n s.slots) (span z (past p n) (r - n) s.slots) n long in
      record { moves = refl; memory = refl; waits = grind arith; drafts = grind arith }

  pub submits : (n : ℕ) (r : Result (Unit {0}) Refusal) (k : Numbers) → Submits s.marks n r k → RingSubmits s n r (with_marks s k)
  submits n r k h = lifted s k (Submitted s n) r h (λ l. submitted n (inside_count _ _ l))

  pub withdrawn : (n : ℕ) → n ≤ s.marks.reserved → Withdrawn s n (with_marks s (with_reserved s.marks (s.marks.reserved - n)))
  withdrawn n l =
      let z = s.marks.size in
      let p = s.marks.producer in
      let k = s.marks.reserved - n in
      let cut = span_split z p k n s.slots ok.marks.whole ok.room (omega arith) in
      let front = take_at (span z p k s.slots) (span z (past p k) n s.slots) k (length-span z p k s.slots ok.room (omega arith)) in
      record { moves = refl; memory = refl; waits = refl; drafts = grind arith }

  pub withdraws : (n : ℕ) (r : Result (Unit {0}) Refusal) (k : Numbers) → Withdraws s.marks n r k → RingWithdraws s n r (with_marks s k)
  withdraws n r k h = lifted s k (Withdrawn s n) r h (λ l. withdrawn n (inside_count _ _ l))

  -- what a reserve leaves, whether it grants the slots or not
  pub granted : (n : ℕ) (r : ℕ × ℕ) (t : Numbers) → Reserves s.marks n r t → (r.0 ≤ free s.marks) × (t ≡ with_reserved s.marks (s.marks.reserved + r.0))
  granted n r t h = grind arith

  pub reserved : (n : ℕ) (r : ℕ × ℕ) (k : Numbers) → Reserves s.marks n r k → Reserved s n r (with_marks s k)
  reserved n r k h =
      let is = granted n r k h in
      let first = h.first in
      let joint = span_split s.marks.size s.marks.producer s.marks.reserved r.0 s.slots ok.marks.whole ok.room (omega arith) in
      record { moves = h; memory = refl; waits = cc; drafts = cc }

  pub released : (n : ℕ) → n ≤ waiting s.marks → Released s n (with_marks s (consumed s.marks n))
  released n l =
      let z = s.marks.size in
      let c = s.marks.consumer in
      let w = waiting s.marks in
      let cut = span_split z c n (w - n) s.slots ok.marks.whole ok.room (omega arith) in
      let back = drop_at (span z c n s.slots) (span z (past c n) (w - n) s.slots) n (length-span z c n s.slots ok.room (omega arith)) in
      record { moves = refl; memory = refl; waits = grind arith; drafts = refl }

  pub releases : (n : ℕ) (r : Result (Unit {0}) Refusal) (k : Numbers) → Releases s.marks n r k → RingReleases s n r (with_marks s k)
  releases n r k h = lifted s k (Released s n) r h (λ l. let i = inside_count _ _ l in released n (omega arith))

  pub written :
      (mark : ℕ) (e : E) → ahead mark s.marks.producer < s.marks.reserved → mark < 2 ^ 32
      → Written s mark e (record { marks = s.marks; slots = set s.slots (mark % s.marks.size) e })
  written mark e l h =
      let z = s.marks.size in
      let c = s.marks.consumer in
      let p = s.marks.producer in
      let w = waiting s.marks in
      let j = ahead mark p in
      let inside = span_set z p s.marks.reserved j s.slots e ok.marks.whole ok.room (omega arith) l in
      let outside = span_set_other z c w (w + j) s.slots e ok.marks.whole ok.room (omega arith) (omega arith) in
      record { moves = refl; memory = refl; waits = grind arith; drafts = grind arith }

  -- the slot of a waiting entry
  pub read_at :
      (mark : ℕ) (d : E) → ahead mark s.marks.consumer < waiting s.marks → mark < 2 ^ 32
      → get_or (queue s) (ahead mark s.marks.consumer) d ≡ get_or s.slots (mark % s.marks.size) d
  read_at mark d l h =
      grind (arith, get_or-span s.marks.size s.marks.consumer (waiting s.marks) (ahead mark s.marks.consumer) s.slots d ok.marks.whole ok.room)

  pub read :
      (mark : ℕ) (e : E) → ahead mark s.marks.consumer < s.marks.peeked → mark < 2 ^ 32
      → ((d : E) → e ≡ get_or s.slots (mark % s.marks.size) d) → Read s mark e
  read mark e l h x = record { memory = x; waits = λ d. x d ∙ sym (read_at mark d (omega arith) h) }

  -- a new ring
  pub made : (start : ℕ) → s.marks ≡ fresh_numbers s.marks.size start → SizeFor (length s.slots) s.marks.size → Made s.slots start s
  made start m z =
      record {
        size = z;
        fresh = m;
        memory = refl;
        waits = nil_from_length (queue s) (grind (arith, length-queue));
        drafts = nil_from_length (draft s) (grind (arith, length-draft));
      }

  -- the oldest entry leaves
  pub popped :
      (e : E) (k : Numbers) → 0 < waiting s.marks → ((d : E) → e ≡ get_or s.slots (s.marks.consumer % s.marks.size) d)
      → k ≡ consumed s.marks 1 → Takes s 1 (Ok (e ∷ [])) (with_marks s k)
  popped e k l x m =
      let rest = released 1 l in
      let long = length-queue in
      let oldest = read_at s.marks.consumer e in
      let is = x e in
      let first = take_more (queue s) 0 e (omega arith) in
      let split = take-append-drop 1 (queue s) in
      subst (λ (k : Numbers). Takes s 1 (Ok (e ∷ [])) (with_marks s k)) (sym m)
      (λ _ few. omega (arith, few.1), (refl, record { moves = refl; memory = refl; waits = grind arith; drafts = refl }))

  -- where none waits, none leaves
  pub none_popped : waiting s.marks ≡ 0 → Pops s None s × Takes s 1 (Err OutsideSpan) s
  none_popped z =
      ((nil_from_length (queue s) (omega (arith, length-queue)), refl), (((refl, omega arith), λ m x. omega (arith, x.0)), refl))
