-- What holds of every ring, kept by every step.
use Rattle.std.proofs.Common.{◌≡◌, ℕ, ◌+◌, ◌-◌, ◌%◌, ◌^◌, ◌<◌, ◌≤◌, ◌⊎◌, List, length, Ok, Err, sym, ap, ◌∙◌, subst, inl, inr, arith}
use Rattle.std.proofs.lemmas.List.{length-set}
use Rattle.ring.specs.Marks.{SoundMarks, waiting, with_reserved, with_peeked, produced, consumed}
use Rattle.ring.specs.Rings.{State, Sound, Made}
use Rattle.ring.specs.Runs.{Event, Reserve, Put, Submit, Withdraw, Peek, Get, Cancel, Release, Push, Take, Step}
use Rattle.ring.proofs.Inside.{inside_count, inside_room}
use Rattle.ring.proofs.Powers.{sound_fresh}
use Rattle.ring.proofs.Steps.{granted}

pub sound_new : {E : Type 0} (slots : List E) (start : ℕ) (s : State E) → Made slots start s → start < 2 ^ 32 → Sound s
sound_new slots start s m l =
    let size = m.size in
    record {
      marks = subst SoundMarks (sym m.fresh) (sound_fresh (length slots) s.marks.size start m.size l);
      room = omega (arith, ap length m.memory, size.held);
    }

module _ {E : Type 0} (s t : State E) (ok : Sound s) where
  -- other marks and slots, at the same size
  sound_at :
      t.marks.size ≡ s.marks.size → length t.slots ≡ length s.slots → waiting t.marks + t.marks.reserved ≤ t.marks.size
      → t.marks.peeked ≤ waiting t.marks → t.marks.producer < 2 ^ 32 → t.marks.consumer < 2 ^ 32 → Sound t
  sound_at z x fits seen pbits cbits = record {
    marks = record {
      fits = fits;
      seen = seen;
      small = omega arith;
      whole = rw z ok.marks.whole;
      masked = rw z ok.marks.masked;
      pbits = pbits;
      cbits = cbits;
    };
    room = omega arith;
  }

  sound_produced :
      (n : ℕ) → n + waiting s.marks ≤ s.marks.size → n ≤ s.marks.reserved ⊎ (s.marks.reserved ≡ 0) → t.marks ≡ produced s.marks n
      → length t.slots ≡ length s.slots → Sound t
  sound_produced n l r m x = sound_at (cc) x (grind arith) (grind arith) (grind arith) (grind arith)

  sound_consumed : (n : ℕ) → n ≤ waiting s.marks → t.marks ≡ consumed s.marks n → t.slots ≡ s.slots → Sound t
  sound_consumed n l m x = sound_at (cc) (ap length x) (grind arith) (grind arith) (grind arith) (grind arith)

  sound_reserved : (n : ℕ) → waiting s.marks + n ≤ s.marks.size → t.marks ≡ with_reserved s.marks n → t.slots ≡ s.slots → Sound t
  sound_reserved n l m x = sound_at (cc) (ap length x) (grind arith) (grind arith) (grind arith) (grind arith)

  sound_peeked : (n : ℕ) → n ≤ waiting s.marks → t.marks ≡ with_peeked s.marks n → t.slots ≡ s.slots → Sound t
  sound_peeked n l m x = sound_at (cc) (ap length x) (grind arith) (grind arith) (grind arith) (grind arith)

  sound_written : t.marks ≡ s.marks → length t.slots ≡ length s.slots → Sound t
  sound_written m x = sound_at (cc) x (grind arith) (grind arith) (grind arith) (grind arith)

  sound_same : t ≡ s → Sound t
  sound_same e = subst (λ (u : State E). Sound u) (sym e) ok

  pub sound_step : (e : Event E) → Step s e t → Sound t
  sound_step (Reserve n r) h =
      let a = granted s ok n r t.marks h.moves in
      sound_reserved (s.marks.reserved + r.0) (omega arith) a.1 h.memory
  sound_step (Put mark e (Ok _)) h = sound_written h.1.moves (ap length h.1.memory ∙ length-set s.slots (mark % s.marks.size) e)
  sound_step (Put mark e (Err _)) h = sound_same h.1
  sound_step (Submit n (Ok _)) h =
      let l = inside_count s.marks.reserved n h.0 in
      sound_produced n (omega arith) (inl l) h.1.moves (ap length h.1.memory)
  sound_step (Submit n (Err _)) h = sound_same h.1
  sound_step (Withdraw n (Ok _)) h = sound_reserved (s.marks.reserved - n) (omega arith) h.1.moves h.1.memory
  sound_step (Withdraw n (Err _)) h = sound_same h.1
  sound_step (Peek n r) h =
      let c = h.moves.count in
      sound_peeked (s.marks.peeked + r.0) (omega arith) h.moves.moved h.memory
  sound_step (Get mark r) h = sound_same h.1
  sound_step (Cancel n (Ok _)) h = sound_peeked (s.marks.peeked - n) (omega arith) h.1.moves h.1.memory
  sound_step (Cancel n (Err _)) h = sound_same h.1
  sound_step (Release n (Ok _)) h =
      let l = inside_count s.marks.peeked n h.0 in
      sound_consumed n (omega arith) h.1.moves h.1.memory
  sound_step (Release n (Err _)) h = sound_same h.1
  sound_step (Push e (Ok _)) h =
      let r = inside_room s.marks h.0 in
      sound_produced 1 (omega (arith, r)) (inr r.0) h.1.moves (ap length h.1.memory ∙ length-set s.slots (s.marks.producer % s.marks.size) e)
  sound_step (Push e (Err _)) h = sound_same h.1
  sound_step (Take n (Ok xs)) h =
      let l = inside_count (waiting s.marks) n h.0 in
      let k = h.1.0 in
      sound_consumed (length xs) (omega arith) h.1.1.moves h.1.1.memory
  sound_step (Take n (Err _)) h = sound_same h.1
