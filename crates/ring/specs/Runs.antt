-- Whole runs of a ring: what was submitted, what left, and that the two agree, first in, first out.
use Rattle.std.specs.Prelude.{◌≡◌, ℕ, ◌+◌, ◌-◌, ◌%◌, ◌^◌, ◌<◌, ◌≤◌, List, [], ◌∷◌, ◌++◌, length, take, drop, Ok, Err, Result, slice_index_or, slice_set}
use Rattle.umem.specs.declared.refusal.Refusal.{Refusal}
use Rattle.ring.specs.Wrap.{past, ahead}
use Rattle.ring.specs.Spans.{span}
use Rattle.ring.specs.Sizes.{SizeFor}
use Rattle.ring.specs.Rings.{State, queue, draft, Made, Reserved, Puts, RingSubmits, RingWithdraws, Peeked, Gets, RingCancels, RingReleases, Pushes, Takes}

-- a call with its arguments and its answer; taking n entries is what pop does for one, and the calls for several for more
pub data Event (E : Type 0) : Type 0 where
  Reserve : ℕ → ℕ × ℕ → Event E
  Put : ℕ → E → Result (Unit {0}) Refusal → Event E
  Submit : ℕ → Result (Unit {0}) Refusal → Event E
  Withdraw : ℕ → Result (Unit {0}) Refusal → Event E
  Peek : ℕ → ℕ × ℕ → Event E
  Get : ℕ → Result E Refusal → Event E
  Cancel : ℕ → Result (Unit {0}) Refusal → Event E
  Release : ℕ → Result (Unit {0}) Refusal → Event E
  Push : E → Result (Unit {0}) Refusal → Event E
  Take : ℕ → Result (List E) Refusal → Event E

-- what the calls promise
abbrev pub Step : {E : Type 0} → State E → Event E → State E → Type 0
Step s (Reserve n r) t = Reserved s n r t
Step s (Put mark e r) t = Puts s mark e r t
Step s (Submit n r) t = RingSubmits s n r t
Step s (Withdraw n r) t = RingWithdraws s n r t
Step s (Peek n r) t = Peeked s n r t
Step s (Get mark r) t = Gets s mark r × (t ≡ s)
Step s (Cancel n r) t = RingCancels s n r t
Step s (Release n r) t = RingReleases s n r t
Step s (Push e r) t = Pushes s e r t
Step s (Take n r) t = Takes s n r t

-- a ring of z slots, made over these slots at this start mark, came to a state by these events, the latest first
pub data Past {E : Type 0} (z start : ℕ) (slots : List E) : List (Event E) → State E → Type 0 where
  new : {s : State E} → Made slots start s → s.marks.size ≡ z → start < 2 ^ 32 → Past z start slots [] s
  more : {es : List (Event E)} {s : State E} {t : State E} (e : Event E) → Past z start slots es s → Step s e t → Past z start slots (e ∷ es) t

-- what the events alone say: every entry submitted so far, oldest first; how many of them have left; the entries reserved
-- and not submitted; and what each slot held last
pub record History (E : Type 0) : Type 0 where
  pub submitted : List E
  pub left : ℕ
  pub drafted : List E
  pub slots : List E

abbrev pub with_draft : {E : Type 0} → History E → List E → List E → History E
with_draft h d xs = record { submitted = h.submitted; left = h.left; drafted = d; slots = xs }

abbrev pub with_left : {E : Type 0} → History E → ℕ → History E
with_left h n = record { submitted = h.submitted; left = n; drafted = h.drafted; slots = h.slots }

-- the marks follow from how many entries came and left
abbrev pub producer_at : {E : Type 0} → ℕ → History E → ℕ
producer_at start h = past start (length h.submitted)

abbrev pub consumer_at : {E : Type 0} → ℕ → History E → ℕ
consumer_at start h = past start h.left

abbrev pub after : {E : Type 0} → ℕ → ℕ → Event E → History E → History E
after z start (Reserve n r) h = with_draft h (h.drafted ++ span z r.1 r.0 h.slots) h.slots
after z start (Put mark e (Ok _)) h = with_draft h (slice_set h.drafted (ahead mark (producer_at start h)) e) (slice_set h.slots (mark % z) e)
after z start (Put mark e (Err _)) h = h
after z start (Submit n (Ok _)) h = record {
  submitted = h.submitted ++ take n h.drafted;
  left = h.left;
  drafted = drop n h.drafted;
  slots = h.slots;
}
after z start (Submit n (Err _)) h = h
after z start (Withdraw n (Ok _)) h = with_draft h (take (length h.drafted - n) h.drafted) h.slots
after z start (Withdraw n (Err _)) h = h
after z start (Peek n r) h = h
after z start (Get mark r) h = h
after z start (Cancel n r) h = h
after z start (Release n (Ok _)) h = with_left h (h.left + n)
after z start (Release n (Err _)) h = h
after z start (Push e (Ok _)) h = record {
  submitted = h.submitted ++ e ∷ [];
  left = h.left;
  drafted = h.drafted;
  slots = slice_set h.slots (producer_at start h % z) e;
}
after z start (Push e (Err _)) h = h
after z start (Take n (Ok xs)) h = with_left h (h.left + n)
after z start (Take n (Err _)) h = h

abbrev pub history : {E : Type 0} → ℕ → ℕ → List E → List (Event E) → History E
history z start slots [] = record { submitted = []; left = 0; drafted = []; slots = slots }
history z start slots (e ∷ es) = after z start e (history z start slots es)

-- first in, first out: what left and then what waits is what was submitted, in its order, none lost and none twice
pub record Fifo {E : Type 0} (z start : ℕ) (h : History E) (s : State E) : Type 0 where
  pub size : s.marks.size ≡ z
  pub order : h.submitted ≡ take h.left h.submitted ++ queue s
  pub counted : h.left + length (queue s) ≡ length h.submitted
  pub bounded : length (queue s) ≤ z
  pub drafts : draft s ≡ h.drafted
  pub memory : s.slots ≡ h.slots
  pub producer : s.marks.producer ≡ producer_at start h
  pub consumer : s.marks.consumer ≡ consumer_at start h

-- an entry read or taken is the one submitted at its place, unaltered: a mark n places past the consumer's is n behind
-- those that have left
abbrev pub Answered : {E : Type 0} → ℕ → History E → Event E → Type 0
Answered start h (Reserve n r) = Unit {0}
Answered start h (Put mark e r) = Unit {0}
Answered start h (Submit n r) = Unit {0}
Answered start h (Withdraw n r) = Unit {0}
Answered start h (Peek n r) = Unit {0}
Answered {E} start h (Get mark (Ok e)) =
    (h.left + ahead mark (consumer_at start h) < length h.submitted) × ((d : E) → e ≡ slice_index_or h.submitted (h.left + ahead mark (consumer_at start h)) d)
Answered start h (Get mark (Err _)) = Unit {0}
Answered start h (Cancel n r) = Unit {0}
Answered start h (Release n r) = Unit {0}
Answered start h (Push e r) = Unit {0}
Answered start h (Take n (Ok xs)) = xs ≡ take n (drop h.left h.submitted)
Answered start h (Take n (Err _)) = Unit {0}

abbrev pub AllAnswered : {E : Type 0} → ℕ → ℕ → List E → List (Event E) → Type 0
AllAnswered z start slots [] = Unit {0}
AllAnswered z start slots (e ∷ es) = Answered start (history z start slots es) e × AllAnswered z start slots es

-- the law over every run that leads to a state
abbrev pub EveryRun : {E : Type 0} → State E → Type 0
EveryRun {E} s =
    (z start : ℕ) (slots : List E) (es : List (Event E)) →
    Past z start slots es s →
    SizeFor (length slots) z × Fifo z start (history z start slots es) s × AllAnswered z start slots es
