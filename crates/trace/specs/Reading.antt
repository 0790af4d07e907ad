-- What reading a trace file promises.
use Rattle.std.specs.Prelude.{◌≡◌, ℕ, List, Result}
use Rattle.umem.specs.declared.refusal.Refusal.{Refusal}
use Rattle.umem.specs.declared.refusal.Refusal.TheVariants.{NotATrace}
use Rattle.umem.specs.Refusals.{number}
use Rattle.umem.specs.Refusing.{Answers}
use Rattle.trace.specs.declared.traces.Trace.{Trace}
use Rattle.trace.specs.Files.{NoRecords}
use Rattle.trace.specs.Meanings.{Accepted}

-- 17 applies to reading where the bytes are the file of no records
abbrev pub ReadApplies : List ℕ → ℕ → Type 0
ReadApplies bytes n = (n ≡ number NotATrace) × NoRecords bytes

-- reading answers a trace over these bytes, with the records whose file they are
abbrev pub Reads : List ℕ → Result Trace Refusal → Type 0
Reads bytes r = Answers (ReadApplies bytes) (λ t. Accepted t × (t.file.now ≡ bytes)) (Unit {0}) r
