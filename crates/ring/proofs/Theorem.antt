-- First in, first out, over every run: by induction on the past, a step at a time.
use Rattle.std.proofs.Common.{◌≡◌, ℕ, ◌+◌, ◌-◌, ◌%◌, ◌^◌, ◌<◌, ◌≤◌, List, [], ◌∷◌, ◌++◌, length, take, drop, set, Ok, Err, sym, refl, ap, ◌∙◌, subst, arith}
use Rattle.std.proofs.lemmas.List.{take-append-drop, take_at, drop_at, drop-drop, drop-append-le, get_or-drop, length-append, length-drop, length-take-le}
use Rattle.ring.specs.Wrap.{past, ahead}
use Rattle.ring.specs.Spans.{span}
use Rattle.ring.specs.Sizes.{SizeFor}
use Rattle.ring.specs.Marks.{Numbers, waiting, consumed}
use Rattle.ring.specs.Rings.{State, Sound, queue, draft, Made}
use Rattle.ring.specs.Runs.{Event, Reserve, Put, Submit, Withdraw, Peek, Get, Cancel, Release, Push, Take, Step, Past, new, more, History, history, after, producer_at, consumer_at, Fifo, Answered, AllAnswered, EveryRun}
use Rattle.ring.proofs.Inside.{inside_count, inside_mark}
use Rattle.ring.proofs.Kept.{sound_new, sound_step}
use Rattle.ring.proofs.Steps.{length-queue, length-draft, granted}

-- the state is what the history says
record Agrees {E : Type 0} (z start : ℕ) (h : History E) (s : State E) : Type 0 where
  size : s.marks.size ≡ z
  rest : queue s ≡ drop h.left h.submitted
  within : h.left ≤ length h.submitted
  drafts : draft s ≡ h.drafted
  memory : s.slots ≡ h.slots
  producer : s.marks.producer ≡ producer_at start h
  consumer : s.marks.consumer ≡ consumer_at start h

module _ {E : Type 0} (z start : ℕ) (h : History E) (s t : State E) (ok : Sound s) (a : Agrees z start h s) where
  waits_on : h.left + waiting s.marks ≡ length h.submitted
  waits_on =
      let w = a.within in
      omega (arith, length-queue s ok, ap length a.rest, length-drop h.left h.submitted)

  agrees_same : t ≡ s → Agrees z start h t
  agrees_same e = subst (λ (u : State E). Agrees z start h u) (sym e) a

  -- n entries have left
  agrees_left :
      (n : ℕ) → n ≤ waiting s.marks → t.marks ≡ consumed s.marks n → t.slots ≡ s.slots → queue t ≡ drop n (queue s) → draft t ≡ draft s
      → Agrees z start (record { submitted = h.submitted; left = h.left + n; drafted = h.drafted; slots = h.slots }) t
  agrees_left n l m x q d =
      let w = waits_on in
      let c = a.consumer in
      record {
        size = cc;
        rest = let e = drop-drop n h.left h.submitted in cc;
        within = omega arith;
        drafts = cc;
        memory = cc;
        producer = cc;
        consumer = grind arith;
      }

  -- entries xs have come, n of them
  agrees_come :
      (n : ℕ) (xs d ys : List E) {m : Numbers} → length xs ≡ n → t.marks ≡ m → m.size ≡ s.marks.size → m.producer ≡ past s.marks.producer n
      → m.consumer ≡ s.marks.consumer → queue t ≡ queue s ++ xs → draft t ≡ d → t.slots ≡ ys
      → Agrees z start (record { submitted = h.submitted ++ xs; left = h.left; drafted = d; slots = ys }) t
  agrees_come n xs d ys long m same_size p c q e x =
      let w = a.within in
      let b = a.producer in
      let len = length-append h.submitted xs in
      record {
        size = cc;
        rest = let e = drop-append-le h.left h.submitted xs w in cc;
        within = omega arith;
        drafts = e;
        memory = x;
        producer = grind arith;
        consumer = cc;
      }

  -- neither came nor left
  agrees_still :
      (d ys : List E) {m : Numbers} → t.marks ≡ m → m.size ≡ s.marks.size → m.producer ≡ s.marks.producer → m.consumer ≡ s.marks.consumer
      → queue t ≡ queue s → draft t ≡ d → t.slots ≡ ys
      → Agrees z start (record { submitted = h.submitted; left = h.left; drafted = d; slots = ys }) t
  agrees_still d ys m same_size p c q e x =
      record {
        size = cc;
        rest = cc;
        within = a.within;
        drafts = e;
        memory = x;
        producer = cc;
        consumer = cc;
      }

  agrees_step : (e : Event E) → Step s e t → Agrees z start (after z start e h) t
  agrees_step (Reserve n r) w =
      let m = (granted s ok n r t.marks w.moves).1 in
      agrees_still (h.drafted ++ span z r.1 r.0 h.slots) h.slots m refl refl refl
      w.waits (cc) (cc)
  agrees_step (Put mark e (Ok _)) w =
      let m = w.1.moves in
      agrees_still (set h.drafted (ahead mark (producer_at start h)) e) (set h.slots (mark % z) e) m refl refl refl
      w.1.waits
      (cc) (cc)
  agrees_step (Put mark e (Err _)) w = agrees_same w.1
  agrees_step (Submit n (Ok _)) w =
      let l = inside_count s.marks.reserved n w.0 in
      let m = w.1.moves in
      let long : length (take n h.drafted) ≡ n = length-take-le n h.drafted (omega (arith, length-draft s ok, ap length a.drafts)) in
      agrees_come n (take n h.drafted) (drop n h.drafted) h.slots long m refl refl refl
      (cc) (cc) (cc)
  agrees_step (Submit n (Err _)) w = agrees_same w.1
  agrees_step (Withdraw n (Ok _)) w =
      let m = w.1.moves in
      let long : s.marks.reserved ≡ length h.drafted = sym (length-draft s ok) ∙ ap length a.drafts in
      agrees_still (take (length h.drafted - n) h.drafted) h.slots m refl refl refl
      w.1.waits (cc) (cc)
  agrees_step (Withdraw n (Err _)) w = agrees_same w.1
  agrees_step (Peek n r) w =
      let m = w.moves.moved in
      agrees_still h.drafted h.slots m refl refl refl
      w.waits (cc) (cc)
  agrees_step (Get mark r) w = agrees_same w.1
  agrees_step (Cancel n (Ok _)) w =
      let m = w.1.moves in
      agrees_still h.drafted h.slots m refl refl refl
      w.1.waits (cc) (cc)
  agrees_step (Cancel n (Err _)) w = agrees_same w.1
  agrees_step (Release n (Ok _)) w =
      let l = inside_count s.marks.peeked n w.0 in
      agrees_left n (omega arith) w.1.moves w.1.memory w.1.waits w.1.drafts
  agrees_step (Release n (Err _)) w = agrees_same w.1
  agrees_step (Push e (Ok _)) w =
      let m = w.1.moves in
      agrees_come 1 (e ∷ []) h.drafted (set h.slots (producer_at start h % z) e) refl m refl refl refl
      w.1.waits (cc) (cc)
  agrees_step (Push e (Err _)) w = agrees_same w.1
  agrees_step (Take n (Ok xs)) w =
      let l = inside_count (waiting s.marks) n w.0 in
      let rest = drop_at xs (queue t) n w.1.0 in
      agrees_left n (omega arith) (cc) w.1.1.memory (cc) w.1.1.drafts
  agrees_step (Take n (Err _)) w = agrees_same w.1

  answered : (e : Event E) → Step s e t → Answered start h e
  answered (Reserve n r) w = tt
  answered (Put mark e r) w = tt
  answered (Submit n r) w = tt
  answered (Withdraw n r) w = tt
  answered (Peek n r) w = tt
  answered (Get mark (Ok e)) w =
      let l = inside_mark s.marks.peeked (ahead mark s.marks.consumer) w.0.0 in
      let on = waits_on in
      let there : ahead mark s.marks.consumer ≡ ahead mark (consumer_at start h) = ap (ahead mark) a.consumer in
      (omega arith, λ d. let is = w.0.1.waits d in let same = get_or-drop h.left h.submitted (ahead mark (consumer_at start h)) d in cc)
  answered (Get mark (Err _)) w = tt
  answered (Cancel n r) w = tt
  answered (Release n r) w = tt
  answered (Push e r) w = tt
  answered (Take n (Ok xs)) w =
      let first = take_at xs (queue t) n w.1.0 in cc
  answered (Take n (Err _)) w = tt

  fifo : Fifo z start h s
  fifo =
      let q = length-queue s ok in
      let w = waits_on in
      record {
        size = a.size;
        order = let all = take-append-drop h.left h.submitted in cc;
        counted = omega arith;
        bounded = omega arith;
        drafts = a.drafts;
        memory = a.memory;
        producer = a.producer;
        consumer = a.consumer;
      }

module _ {E : Type 0} (z start : ℕ) (slots : List E) where
  agrees_new : (s : State E) → Made slots start s → s.marks.size ≡ z → start < 2 ^ 32 → Agrees z start (history z start slots []) s
  agrees_new s m e l =
      let p = ap (λ (k : Numbers). k.producer) m.fresh in
      let c = ap (λ (k : Numbers). k.consumer) m.fresh in
      record {
        size = e;
        rest = m.waits;
        within = omega arith;
        drafts = m.drafts;
        memory = m.memory;
        producer = omega arith;
        consumer = omega arith;
      }

  run : {es : List (Event E)} {s : State E} → Past z start slots es s → Sound s × Agrees z start (history z start slots es) s × AllAnswered z start slots es
  run (new {s = s} m e l) = let ok = sound_new slots start s m l in (ok, agrees_new s m e l, tt)
  run (more {es = es} {s = s} {t = t} e p h) =
      let before = run p in
      let g = history z start slots es in (
        sound_step s t before.0 e h,
        agrees_step z start g s t before.0 before.1 e h,
        (answered z start g s t before.0 before.1 e h, before.2),
      )

  sized : {es : List (Event E)} {s : State E} → Past z start slots es s → SizeFor (length slots) z
  sized (new m e l) = subst (λ (n : ℕ). SizeFor (length slots) n) e m.size
  sized (more e p h) = sized p

pub every_run : {E : Type 0} (s : State E) → EveryRun s
every_run s z start slots es p =
    let r = run z start slots p in
    (sized z start slots p, fifo z start (history z start slots es) s s r.0 r.1, r.2)
