-- The records that a recording holds, and what is added to them.
use Rattle.std.specs.Prelude.{◌≡◌, ℕ, ◌+◌, ◌<◌, ◌≤◌, ◌⊎◌, List, [], ◌∷◌, ◌++◌, length, take, Result, slice_set}
use Rattle.umem.specs.declared.refusal.Refusal.{Refusal}
use Rattle.umem.specs.declared.refusal.Refusal.TheVariants.{LogFull}
use Rattle.umem.specs.Frames.{written, LengthApplies}
use Rattle.umem.specs.Refusals.{number}
use Rattle.umem.specs.Refusing.{Answers}
use Rattle.model.specs.Traces.{Record, laid, longest_record}
use Rattle.trace.specs.declared.pairs.Pair.{Pair}
use Rattle.trace.specs.declared.recording.Recording.{Recording}
use Rattle.trace.specs.Pairs.{cut_records}

-- the pairs in use
abbrev pub pairs : Recording → List Pair
pairs s = take s.count s.table.now

-- the records, oldest first
abbrev pub held_records : Recording → List Record
held_records s = cut_records s.area.now (pairs s)

-- there is a pair for one more record, and bytes for the longest
pub record Room (s : Recording) : Type 0 where
  pub few : s.count < 1024
  pub listed : s.count < length s.table.now
  pub bytes : s.used + longest_record ≤ length s.area.now

-- 3 applies to adding a record with a packet of a wrong length, 13 where there is no room
abbrev pub AddApplies : Recording → Record → ℕ → Type 0
AddApplies s r n = LengthApplies (length r.packet) n ⊎ ((n ≡ number LogFull) × ¬ (Room s))

-- nothing changed
pub record Same (s t : Recording) : Type 0 where
  pub count : t.count ≡ s.count
  pub used : t.used ≡ s.used
  pub table : t.table.now ≡ s.table.now
  pub area : t.area.now ≡ s.area.now

-- one record was added behind the others, also in the table and the bytes, where nothing else changed
pub record Added (s t : Recording) (r : Record) : Type 0 where
  pub count : t.count ≡ s.count + 1
  pub used : t.used ≡ s.used + length (laid r)
  pub table : t.table.now ≡ slice_set s.table.now s.count (record { offset = s.used; length = length (laid r) })
  pub area : t.area.now ≡ written s.area.now s.used (laid r)
  pub records : held_records t ≡ held_records s ++ r ∷ []

abbrev pub RecordsAdded : Recording → Recording → Record → Result (Unit {0}) Refusal → Type 0
RecordsAdded s t r a = Answers (AddApplies s r) (λ _. Added s t r) (Same s t) a
