-- Calls as values, and lists of them.
use Rattle.std.specs.Prelude.{◌≡◌, ℕ, List, [], ◌∷◌, ◌++◌, reverse, length, Some, None, Ok, Err, Option, Result}
use Rattle.std.specs.Result.{result_and, result_map_both}
use Rattle.umem.specs.declared.refusal.Refusal.{Refusal}
use Rattle.ring_scripts.specs.declared.Call.{Call}
use Rattle.ring_scripts.specs.declared.Call.TheVariants as call
use Rattle.ring_scripts.specs.declared.Answer.{Answer}
use Rattle.ring_scripts.specs.declared.Answer.TheVariants.{Span, Done, Entry, Popped}
use Rattle.ring.specs.Rings.{State, queue}
use Rattle.ring.specs.Runs.{Event, Reserve, Put, Submit, Withdraw, Peek, Get, Cancel, Release, Push, Take, Step, Past, history, Fifo, AllAnswered}

-- the event is an answer to the call
abbrev pub Of : {E : Type 0} → Call E → Event E → Type 0
Of (call.Reserve n) e = (r : ℕ × ℕ) × (e ≡ Reserve n r)
Of (call.Put mark x) e = (r : Result (Unit {0}) Refusal) × (e ≡ Put mark x r)
Of (call.Submit n) e = (r : Result (Unit {0}) Refusal) × (e ≡ Submit n r)
Of (call.Withdraw n) e = (r : Result (Unit {0}) Refusal) × (e ≡ Withdraw n r)
Of (call.Peek n) e = (r : ℕ × ℕ) × (e ≡ Peek n r)
Of {E} (call.Get mark) e = (r : Result E Refusal) × (e ≡ Get mark r)
Of (call.Cancel n) e = (r : Result (Unit {0}) Refusal) × (e ≡ Cancel n r)
Of (call.Release n) e = (r : Result (Unit {0}) Refusal) × (e ≡ Release n r)
Of (call.Push x) e = (r : Result (Unit {0}) Refusal) × (e ≡ Push x r)
Of {E} call.Pop e = (r : Result (List E) Refusal) × (e ≡ Take 1 r)

-- how many, and the mark of the first
abbrev pub span_told : {E : Type 0} → ℕ × ℕ → Answer E
span_told r = Span r.0 r.1

-- the oldest entry taken, or none
abbrev pub popped : {E : Type 0} → Result (List E) Refusal → Option E
popped (Ok []) = None
popped (Ok (e ∷ es)) = Some e
popped (Err x) = None

-- the answer that an event has: what was served, or the refusal
abbrev pub answer_of : {E : Type 0} → Event E → Result (Answer E) Refusal
answer_of (Reserve n r) = Ok (span_told r)
answer_of (Put mark e r) = result_and r (Ok Done)
answer_of (Submit n r) = result_and r (Ok Done)
answer_of (Withdraw n r) = result_and r (Ok Done)
answer_of (Peek n r) = Ok (span_told r)
answer_of (Get mark r) = result_map_both Entry (λ x. x) r
answer_of (Cancel n r) = result_and r (Ok Done)
answer_of (Release n r) = result_and r (Ok Done)
answer_of (Push e r) = result_and r (Ok Done)
answer_of (Take n r) = Ok (Popped (popped r))

-- a call is made: the step is that of some event of this call with this answer
abbrev pub Performs : {E : Type 0} → State E → Call E → Result (Answer E) Refusal → State E → Type 0
Performs {E} s c a t = (e : Event E) × Step s e t × Of c e × (answer_of e ≡ a)

-- the events are answers to these calls, one to each
abbrev pub EachOf : {E : Type 0} → List (Call E) → List (Event E) → Type 0
EachOf [] [] = Unit {0}
EachOf [] (e ∷ es) = ⊥
EachOf (c ∷ cs) [] = ⊥
EachOf (c ∷ cs) (e ∷ es) = Of c e × EachOf cs es

-- each past of s goes on, by these calls in their order, to a past of t
abbrev pub Continues : {E : Type 0} → State E → List (Call E) → State E → Type 0
Continues {E} s calls t =
    (z start : ℕ) (slots : List E) (es : List (Event E)) →
    Past z start slots es s →
    (fresh : List (Event E)) × Past z start slots (fresh ++ es) t × EachOf (reverse calls) fresh

-- a new ring over the slots, after these calls: what holds of some events of just these calls, and how many entries wait
pub record Session {E : Type 0} (slots : List E) (start : ℕ) (calls : List (Call E)) (waits : ℕ) : Type 0 where
  pub size : ℕ
  pub events : List (Event E)
  pub state : State E
  pub made : EachOf (reverse calls) events
  pub past : Past size start slots events state
  pub fifo : Fifo size start (history size start slots events) state
  pub answered : AllAnswered size start slots events
  pub waiting : waits ≡ length (queue state)
