-- A ring as lists of entries, and what each call does: to the marks and counts, to the slots, and to the lists.
use Rattle.std.specs.Prelude.{◌≡◌, ℕ, ◌+◌, ◌-◌, ◌%◌, ◌<◌, ◌≤◌, List, [], ◌∷◌, ◌++◌, length, take, drop, Some, None, Ok, Err, Option, Result, OnErr, slice_index_or, slice_set}
use Rattle.umem.specs.declared.refusal.Refusal.{Refusal}
use Rattle.umem.specs.declared.refusal.Refusal.TheVariants.{OutsideSpan}
use Rattle.umem.specs.Refusing.{Answers}
use Rattle.ring.specs.Wrap.{past, ahead}
use Rattle.ring.specs.Spans.{span}
use Rattle.ring.specs.Sizes.{SizeFor}
use Rattle.ring.specs.Marks.{Numbers, SoundMarks, fresh_numbers, waiting, with_reserved, with_peeked, produced, consumed, Outside, Reserves, Peeks}

pub record State (E : Type 0) : Type 0 where
  pub marks : Numbers
  pub slots : List E

-- what holds of every ring
pub record Sound {E : Type 0} (s : State E) : Type 0 where
  pub marks : SoundMarks s.marks
  pub room : s.marks.size ≤ length s.slots

-- what holds of every ring held before a call, and holds after it
abbrev pub StaysSound : {E : Type 0} → State E → State E → Type 0
StaysSound s t = Sound s × Sound t

-- the entries that wait, oldest first
abbrev pub queue : {E : Type 0} → State E → List E
queue s = span s.marks.size s.marks.consumer (waiting s.marks) s.slots

-- what the reserved slots hold, oldest first
abbrev pub draft : {E : Type 0} → State E → List E
draft s = span s.marks.size s.marks.producer s.marks.reserved s.slots

-- each slot has a waiting entry or is reserved
abbrev pub Full : {E : Type 0} → State E → Type 0
Full s = length (queue s) + length (draft s) ≡ s.marks.size

-- a new ring over the slots: it is empty, and both marks stand at the start
pub record Made {E : Type 0} (slots : List E) (start : ℕ) (s : State E) : Type 0 where
  pub size : SizeFor (length slots) s.marks.size
  pub fresh : s.marks ≡ fresh_numbers s.marks.size start
  pub memory : s.slots ≡ slots
  pub waits : queue s ≡ []
  pub drafts : draft s ≡ []

-- reserve n: the draft grows by what the slots hold
pub record Reserved {E : Type 0} (s : State E) (n : ℕ) (r : ℕ × ℕ) (t : State E) : Type 0 where
  pub moves : Reserves s.marks n r t.marks
  pub memory : t.slots ≡ s.slots
  pub waits : queue t ≡ queue s
  pub drafts : draft t ≡ draft s ++ span s.marks.size r.1 r.0 s.slots

-- put: one entry of the draft changes, and nothing else
pub record Written {E : Type 0} (s : State E) (mark : ℕ) (e : E) (t : State E) : Type 0 where
  pub moves : t.marks ≡ s.marks
  pub memory : t.slots ≡ slice_set s.slots (mark % s.marks.size) e
  pub waits : queue t ≡ queue s
  pub drafts : draft t ≡ slice_set (draft s) (ahead mark s.marks.producer) e

abbrev pub Puts : {E : Type 0} → State E → ℕ → E → Result (Unit {0}) Refusal → State E → Type 0
Puts s mark e r t = Answers (Outside (s.marks.reserved ≤ ahead mark s.marks.producer)) (λ _. Written s mark e t) (t ≡ s) r

-- submit n: the first n of the draft join those that wait
pub record Submitted {E : Type 0} (s : State E) (n : ℕ) (t : State E) : Type 0 where
  pub moves : t.marks ≡ produced s.marks n
  pub memory : t.slots ≡ s.slots
  pub waits : queue t ≡ queue s ++ take n (draft s)
  pub drafts : draft t ≡ drop n (draft s)

abbrev pub RingSubmits : {E : Type 0} → State E → ℕ → Result (Unit {0}) Refusal → State E → Type 0
RingSubmits s n r t = Answers (Outside (s.marks.reserved < n)) (λ _. Submitted s n t) (t ≡ s) r

-- withdraw n: the draft loses its last n
pub record Withdrawn {E : Type 0} (s : State E) (n : ℕ) (t : State E) : Type 0 where
  pub moves : t.marks ≡ with_reserved s.marks (s.marks.reserved - n)
  pub memory : t.slots ≡ s.slots
  pub waits : queue t ≡ queue s
  pub drafts : draft t ≡ take (s.marks.reserved - n) (draft s)

abbrev pub RingWithdraws : {E : Type 0} → State E → ℕ → Result (Unit {0}) Refusal → State E → Type 0
RingWithdraws s n r t = Answers (Outside (s.marks.reserved < n)) (λ _. Withdrawn s n t) (t ≡ s) r

-- peek n: only the count of peeked entries changes
pub record Peeked {E : Type 0} (s : State E) (n : ℕ) (r : ℕ × ℕ) (t : State E) : Type 0 where
  pub moves : Peeks s.marks n r t.marks
  pub memory : t.slots ≡ s.slots
  pub waits : queue t ≡ queue s
  pub drafts : draft t ≡ draft s

-- peek until n entries are peeked, those that were before among them, or all that wait
abbrev pub PeekedTo : {E : Type 0} → State E → ℕ → ℕ → State E → Type 0
PeekedTo s n count t = Peeked s (n - s.marks.peeked) (count, past s.marks.consumer s.marks.peeked) t

-- get: the entry at a peeked mark
pub record Read {E : Type 0} (s : State E) (mark : ℕ) (e : E) : Type 0 where
  pub memory : (d : E) → e ≡ slice_index_or s.slots (mark % s.marks.size) d
  pub waits : (d : E) → e ≡ slice_index_or (queue s) (ahead mark s.marks.consumer) d

abbrev pub Gets : {E : Type 0} → State E → ℕ → Result E Refusal → Type 0
Gets s mark r = Answers (Outside (s.marks.peeked ≤ ahead mark s.marks.consumer)) (Read s mark) (Unit {0}) r

-- cancel n: only the count of peeked entries changes
pub record Cancelled {E : Type 0} (s : State E) (n : ℕ) (t : State E) : Type 0 where
  pub moves : t.marks ≡ with_peeked s.marks (s.marks.peeked - n)
  pub memory : t.slots ≡ s.slots
  pub waits : queue t ≡ queue s
  pub drafts : draft t ≡ draft s

abbrev pub RingCancels : {E : Type 0} → State E → ℕ → Result (Unit {0}) Refusal → State E → Type 0
RingCancels s n r t = Answers (Outside (s.marks.peeked < n)) (λ _. Cancelled s n t) (t ≡ s) r

-- release n: the first n that wait are gone
pub record Released {E : Type 0} (s : State E) (n : ℕ) (t : State E) : Type 0 where
  pub moves : t.marks ≡ consumed s.marks n
  pub memory : t.slots ≡ s.slots
  pub waits : queue t ≡ drop n (queue s)
  pub drafts : draft t ≡ draft s

abbrev pub RingReleases : {E : Type 0} → State E → ℕ → Result (Unit {0}) Refusal → State E → Type 0
RingReleases s n r t = Answers (Outside (s.marks.peeked < n)) (λ _. Released s n t) (t ≡ s) r

-- one entry more may be pushed: no slot is reserved, which it would have to pass, and one is free
abbrev pub Room : Numbers → Type 0
Room m = (m.reserved ≡ 0) × (waiting m < m.size)

pub record Pushed {E : Type 0} (s : State E) (e : E) (t : State E) : Type 0 where
  pub moves : t.marks ≡ produced s.marks 1
  pub memory : t.slots ≡ slice_set s.slots (s.marks.producer % s.marks.size) e
  pub waits : queue t ≡ queue s ++ e ∷ []
  pub drafts : draft t ≡ draft s

abbrev pub Pushes : {E : Type 0} → State E → E → Result (Unit {0}) Refusal → State E → Type 0
Pushes s e r t = Answers (Outside (¬ (Room s.marks))) (λ _. Pushed s e t) (t ≡ s) r

-- the oldest entries leave, peeked or not: xs are these, in their order
pub record Taken {E : Type 0} (s : State E) (xs : List E) (t : State E) : Type 0 where
  pub moves : t.marks ≡ consumed s.marks (length xs)
  pub memory : t.slots ≡ s.slots
  pub waits : queue s ≡ xs ++ queue t
  pub drafts : draft t ≡ draft s

-- pop: none exactly when none waits
abbrev pub Pops : {E : Type 0} → State E → Option E → State E → Type 0
Pops s (Some e) t = Taken s (e ∷ []) t
Pops s None t = (queue s ≡ []) × (t ≡ s)

-- the one entry that was popped as a list, and nothing popped as a refusal
abbrev pub one_of : {E : Type 0} → Option E → Result (List E) Refusal
one_of (Some e) = Ok (e ∷ [])
one_of None = Err OutsideSpan

-- the n oldest leave together, or none does where fewer wait
abbrev pub Takes : {E : Type 0} → State E → ℕ → Result (List E) Refusal → State E → Type 0
Takes s n r t = Answers (Outside (waiting s.marks < n)) (λ xs. (length xs ≡ n) × Taken s xs t) (t ≡ s) r

-- the same answer, with what was served as a list
abbrev pub listed : {A E : Type 0} → (A → List E) → Result A Refusal → Result (List E) Refusal
listed f (Ok a) = Ok (f a)
listed f (Err e) = Err e

-- two entries, the older first
abbrev pub pair_of : {E : Type 0} → E × E → List E
pair_of p = p.0 ∷ p.1 ∷ []

-- as many as a slice takes, into it: xs is the slice then, and a refusal leaves it
abbrev pub TakesInto : {E : Type 0} → State E → List E → Result (Unit {0}) Refusal → List E → State E → Type 0
TakesInto s out r xs t = Takes s (length out) (listed (λ _. xs) r) t × OnErr r (xs ≡ out)
