-- A call that was made, under another name for the call or the answer.
use Rattle.std.proofs.Common.{◌≡◌, ℕ, ◌+◌, ◌^◌, ◌<◌, List, [], ◌∷◌, ◌++◌, reverse, length, get_or, take, Some, None, Ok, Err, Option, Result, sym, refl, ap, ◌∙◌, subst}
use Rattle.std.specs.Result.{MatchResult, IsOkAnd, result_map_both}
use Rattle.std.proofs.lemmas.List.{append-nil, take_more, reverse-append}
use Rattle.umem.specs.declared.refusal.Refusal.{Refusal}
use Rattle.ring_scripts.specs.declared.Call.{Call}
use Rattle.ring_scripts.specs.declared.Answer.{Answer}
use Rattle.ring.specs.Rings.{State, queue, Made, one_of}
use Rattle.ring.specs.Runs.{Event, Step, Past, new, more}
use Rattle.ring_scripts.specs.Scripts.{Of, answer_of, popped, Performs, EachOf, Continues, Session}
use Rattle.ring.proofs.Theorem.{every_run}

pub performs :
    {E : Type 0} (s t : State E) (c d : Call E) (a : Result (Answer E) Refusal) (e : Event E) → c ≡ d → Step s e t → Of d e → a ≡ answer_of e → Performs s c a t
performs s t c d a e is step of told = (e, step, subst (λ (x : Call _). Of x e) (sym is) of, sym told)

-- what `map` answers
pub mapped :
    {A B X : Type 0} (f : A → B) (r : Result A X) (s : Result B X) →
    MatchResult r (λ x. IsOkAnd s (λ b. b ≡ f x)) (λ e. s ≡ Err e) →
    s ≡ result_map_both f (λ x. x) r
mapped f (Ok x) (Ok b) h = ap Ok h
mapped f (Ok x) (Err e) h = absurd h
mapped f (Err e) s h = h

-- what a pop tells, read back from the taking of one
pub popped_one : {E : Type 0} (o : Option E) → popped (one_of o) ≡ o
popped_one (Some e) = refl
popped_one None = refl

-- one call more of a run
pub continues_more :
    {E : Type 0} (s t u : State E) (calls : List (Call E)) (i : ℕ) (c : Call E) (a : Result (Answer E) Refusal) → i < length calls → c ≡ get_or calls i c
    → Continues s (take i calls) t → Performs t c a u → Continues s (take (i + 1) calls) u
continues_more s t u calls i c a l at h made z start slots es p =
    let before = h z start slots es p in
    let longer : c ∷ reverse (take i calls) ≡ reverse (take (i + 1) calls) =
    sym (ap reverse (take_more calls i c l ∙ ap (λ (x : Call _). take i calls ++ x ∷ []) (sym at)) ∙ reverse-append (take i calls) (c ∷ [])) in (
      made.0 ∷ before.0,
      more made.0 before.1 made.1,
      subst (λ (cs : List (Call _)). EachOf cs (made.0 ∷ before.0)) longer (made.2, before.2),
    )

-- a new ring has a past, and so have the calls that follow
pub session_of :
    {E : Type 0} (slots : List E) (start : ℕ) (calls : List (Call E)) (s t : State E) → Made slots start s → start < 2 ^ 32 → Continues s calls t
    → Session slots start calls (length (queue t))
session_of slots start calls s t m l h =
    let z = s.marks.size in
    let run = h z start slots [] (new m refl l) in
    let es = append-nil run.0 in
    let p = subst (λ (xs : List (Event _)). Past z start slots xs t) es run.1 in
    let all = every_run t z start slots run.0 p in
    record { size = z; events = run.0; state = t; made = run.2; past = p; fifo = all.1; answered = all.2; waiting = refl }
