-- What writing a trace file promises, and how it goes with reading.
use Rattle.std.specs.Prelude.{◌≡◌, ℕ, ◌<◌, List, length, take, Ok, Err, Result, MatchResult}
use Rattle.umem.specs.declared.refusal.Refusal.{Refusal}
use Rattle.umem.specs.declared.refusal.Refusal.TheVariants.{ShortBuffer}
use Rattle.umem.specs.Frames.{written}
use Rattle.umem.specs.Refusals.{number}
use Rattle.umem.specs.Refusing.{Answers}
use Rattle.model.specs.Traces.{Record, file}
use Rattle.trace.specs.declared.traces.Trace.{Trace}
use Rattle.trace.specs.Meanings.{records_of}
use Rattle.trace.specs.Reading.{Reads}

-- 20 applies to writing where the buffer is shorter than the file
abbrev pub WriteApplies : List Record → ℕ → ℕ → Type 0
WriteApplies rs room n = (n ≡ number ShortBuffer) × (room < length (file rs))

-- writing puts the file of the records at the buffer's start, leaves the buffer's rest, and answers the file's length
abbrev pub Writes : List Record → List ℕ → List ℕ → Result ℕ Refusal → Type 0
Writes rs before after r =
    Answers (WriteApplies rs (length before)) (λ n. (n ≡ length (file rs)) × (after ≡ written before 0 (file rs))) (after ≡ before) r

-- what is written reads back as its records: whatever reading answers of it, it answers these
abbrev pub ReadsBack : List Record → List ℕ → Result ℕ Refusal → Type 0
ReadsBack rs after (Ok n) = (r : Result Trace Refusal) → Reads (take n after) r → MatchResult r (λ t. records_of t ≡ rs) (λ _. ⊥)
ReadsBack rs after (Err _) = Unit {0}

-- an accepted file is what writing makes of its records, in any buffer that takes it
abbrev pub Rewrites : List ℕ → Result Trace Refusal → Type 0
Rewrites bytes (Ok t) = (before after : List ℕ) (n : ℕ) → Writes (records_of t) before after (Ok n) → take n after ≡ bytes
Rewrites bytes (Err _) = Unit {0}
