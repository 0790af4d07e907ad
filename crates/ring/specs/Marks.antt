-- The marks and counts of a ring, and what each call does to them.
use Rattle.std.specs.Prelude.{◌≡◌, ℕ, ◌+◌, ◌-◌, ◌%◌, ◌^◌, ◌<◌, ◌≤◌, min, bit_and, Some, None, Option, Result}
use Rattle.umem.specs.declared.refusal.Refusal.{Refusal}
use Rattle.umem.specs.declared.refusal.Refusal.TheVariants.{OutsideSpan}
use Rattle.umem.specs.Refusals.{number}
use Rattle.umem.specs.Refusing.{Answers}
use Rattle.ring.specs.Wrap.{past, ahead}

-- the size, the producer's and the consumer's mark, and how many slots are reserved and how many entries peeked
pub record Numbers : Type 0 where
  pub size : ℕ
  pub producer : ℕ
  pub consumer : ℕ
  pub reserved : ℕ
  pub peeked : ℕ

-- a new ring: nothing waits, and both marks stand at the start
abbrev pub fresh_numbers : ℕ → ℕ → Numbers
fresh_numbers size start = record { size = size; producer = start; consumer = start; reserved = 0; peeked = 0 }

-- how many entries wait
abbrev pub waiting : Numbers → ℕ
waiting s = ahead s.producer s.consumer

-- how many slots may still be reserved
abbrev pub free : Numbers → ℕ
free s = s.size - waiting s - s.reserved

-- what holds of the marks and counts of every ring
pub record SoundMarks (s : Numbers) : Type 0 where
  pub fits : waiting s + s.reserved ≤ s.size
  pub seen : s.peeked ≤ waiting s
  pub small : s.size ≤ 256
  pub whole : 0 < s.size → 2 ^ 32 % s.size ≡ 0
  pub masked : 0 < s.size → (n : ℕ) → bit_and n (s.size - 1) ≡ n % s.size
  pub pbits : s.producer < 2 ^ 32
  pub cbits : s.consumer < 2 ^ 32

-- the same but for the count of reserved slots, or of peeked entries
abbrev pub with_reserved : Numbers → ℕ → Numbers
with_reserved s r = record { size = s.size; producer = s.producer; consumer = s.consumer; reserved = r; peeked = s.peeked }

abbrev pub with_peeked : Numbers → ℕ → Numbers
with_peeked s k = record { size = s.size; producer = s.producer; consumer = s.consumer; reserved = s.reserved; peeked = k }

-- the producer's mark goes on by n, over slots that were reserved
abbrev pub produced : Numbers → ℕ → Numbers
produced s n = record {
  size = s.size;
  producer = past s.producer n;
  consumer = s.consumer;
  reserved = s.reserved - n;
  peeked = s.peeked;
}

-- the consumer's mark goes on by n, over entries of which peeked ones count no longer
abbrev pub consumed : Numbers → ℕ → Numbers
consumed s n = record {
  size = s.size;
  producer = s.producer;
  consumer = past s.consumer n;
  reserved = s.reserved;
  peeked = s.peeked - n;
}

-- 16 applies exactly where P holds
abbrev pub Outside : Type 0 → ℕ → Type 0
Outside P k = (k ≡ number OutsideSpan) × P

-- the slot of a mark inside the span of `count` marks from `first` on
abbrev pub Finds : Numbers → ℕ → ℕ → ℕ → Result ℕ Refusal → Type 0
Finds s mark first count r = Answers (Outside (count ≤ ahead mark first)) (λ slot. (slot ≡ mark % s.size) × (slot < s.size)) (Unit {0}) r

-- the slot of the oldest entry that waits, and none exactly where none does
abbrev pub FindsOldest : Numbers → Option ℕ → Type 0
FindsOldest s (Some slot) = (slot ≡ s.consumer % s.size) × (slot < s.size) × (0 < waiting s)
FindsOldest s None = waiting s ≡ 0

-- reserve n: all or none, and the mark of the first
pub record Reserves (s : Numbers) (n : ℕ) (r : ℕ × ℕ) (t : Numbers) : Type 0 where
  pub first : r.1 ≡ past s.producer s.reserved
  pub all : n ≤ free s → (r.0 ≡ n) × (t ≡ with_reserved s (s.reserved + n))
  pub none : free s < n → (r.0 ≡ 0) × (t ≡ s)

abbrev pub Withdraws : Numbers → ℕ → Result (Unit {0}) Refusal → Numbers → Type 0
Withdraws s n r t = Answers (Outside (s.reserved < n)) (λ _. t ≡ with_reserved s (s.reserved - n)) (t ≡ s) r

abbrev pub Submits : Numbers → ℕ → Result (Unit {0}) Refusal → Numbers → Type 0
Submits s n r t = Answers (Outside (s.reserved < n)) (λ _. t ≡ produced s n) (t ≡ s) r

-- peek n: as many as wait and were not peeked, up to n, and the mark of the first
pub record Peeks (s : Numbers) (n : ℕ) (r : ℕ × ℕ) (t : Numbers) : Type 0 where
  pub first : r.1 ≡ past s.consumer s.peeked
  pub count : r.0 ≡ min n (waiting s - s.peeked)
  pub moved : t ≡ with_peeked s (s.peeked + r.0)

abbrev pub Cancels : Numbers → ℕ → Result (Unit {0}) Refusal → Numbers → Type 0
Cancels s n r t = Answers (Outside (s.peeked < n)) (λ _. t ≡ with_peeked s (s.peeked - n)) (t ≡ s) r

abbrev pub Releases : Numbers → ℕ → Result (Unit {0}) Refusal → Numbers → Type 0
Releases s n r t = Answers (Outside (s.peeked < n)) (λ _. t ≡ consumed s n) (t ≡ s) r

-- the n oldest leave, peeked or not
abbrev pub Consumes : Numbers → ℕ → Result (Unit {0}) Refusal → Numbers → Type 0
Consumes s n r t = Answers (Outside (waiting s < n)) (λ _. t ≡ consumed s n) (t ≡ s) r
