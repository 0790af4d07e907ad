-- What the bytes of a trace file say.
use Rattle.std.specs.Prelude.{◌≡◌, ◌≢◌, ℕ, ◌+◌, ◌*◌, ◌≤◌, List, map, length, take, drop}
use Rattle.std.specs.Simd.{first_chunks}
use Rattle.umem.specs.declared.refusal.Refusal.{Refusal}
use Rattle.umem.specs.declared.refusal.Refusal.TheVariants.{NotATrace}
use Rattle.model.specs.Traces.{Record, Traceable, RecordLength, file, word, parts_in, record_of}
use Rattle.trace.specs.declared.pairs.Pair.{Pair}
use Rattle.trace.specs.Pairs.{pair_in, row_of, Gapless, Sized}

-- the first n records of a file, in their order
abbrev pub records_in : List ℕ → ℕ → List Record
records_in bytes n = map record_of (parts_in bytes n)

-- the bytes are a trace of n records: a trace can have these, and the bytes are their file
pub record IsTrace (bytes : List ℕ) (n : ℕ) : Type 0 where
  pub fits : Traceable (records_in bytes n)
  pub exact : file (records_in bytes n) ≡ bytes

-- the bytes are the file of no list of records
abbrev pub NoRecords : List ℕ → Type 0
NoRecords bytes = (rs : List Record) → Traceable rs → file rs ≢ bytes

-- STEPS OF READING

-- a step found that the bytes are no trace
abbrev pub FoundNoTrace : List ℕ → Refusal → Type 0
FoundNoTrace bytes e = (e ≡ NotATrace) × NoRecords bytes

-- the first four bytes are a count that a trace can have, the table lies in the file, and these are its rows
pub record Headed (bytes : List ℕ) (rows : List (List ℕ)) : Type 0 where
  pub few : length rows ≤ 1024
  pub bytes_of : word (length rows) ≡ take 4 bytes
  pub long : 4 + 8 * length rows ≤ length bytes
  pub listed : rows ≡ first_chunks 8 (length rows) (drop 4 bytes)

-- no end is such, so the bytes are no trace
abbrev pub NoEnd : (ℕ → Type 0) → Refusal → Type 0
NoEnd IsEnd e = (e ≡ NotATrace) × ((end : ℕ) → ¬ (IsEnd end))

-- such an end, no further than the bytes of a file
abbrev pub Within : ℕ → (ℕ → Type 0) → ℕ → Type 0
Within size IsEnd end = IsEnd end × (end ≤ size)

-- the record of a pair begins at a place, is as long as a record is, and so ends there
pub record Follows (p : Pair) (place end : ℕ) : Type 0 where
  pub begins : p.offset ≡ place
  pub sized : RecordLength p.length
  pub ends : end ≡ place + p.length

-- rows say pairs that follow one another from a place to an end, each as long as a record is
pub record StandFrom (place : ℕ) (rows : List (List ℕ)) (end : ℕ) : Type 0 where
  pub said : map row_of (map pair_in rows) ≡ rows
  pub sized : Sized (map pair_in rows)
  pub gapless : Gapless place (map pair_in rows) end

-- the rows of a table do so from the table's end on
abbrev pub Stand : List (List ℕ) → ℕ → Type 0
Stand rows end = StandFrom (4 + 8 * length rows) rows end
