-- Reading and writing undo each other.
use Rattle.std.proofs.Common.{◌≡◌, ℕ, List, take, Ok, Err, Result, sym, ap, ◌∙◌, arith}
use Rattle.umem.specs.declared.refusal.Refusal.{Refusal}
use Rattle.umem.specs.Refusals.{number}
use Rattle.umem.specs.Refusing.{Smallest}
use Rattle.umem.proofs.Written.{front_written}
use Rattle.model.specs.Traces.{Record, Traceable, file}
use Rattle.model.proofs.Packing.{files_tell}
use Rattle.trace.specs.Meanings.{records_of}
use Rattle.trace.specs.Files.{FoundNoTrace}
use Rattle.trace.specs.Reading.{ReadApplies}
use Rattle.trace.specs.Writing.{Writes, ReadsBack}

-- WHAT READING ANSWERS

pub refused : (bytes : List ℕ) (e : Refusal) → FoundNoTrace bytes e → Smallest (ReadApplies bytes) (number e)
refused bytes e (is, none) = ((ap number is, none), λ m a. let p = ap number is in let q = a.0 in omega arith)

-- THERE AND BACK

-- the file stands at the front of the buffer that it was written to
written_file : (rs : List Record) (before after : List ℕ) (n : ℕ) → Writes rs before after (Ok n) → take n after ≡ file rs
written_file rs before after n (_, (e, w)) = ap (take n) w ∙ front_written before (file rs) 0 n (omega arith) (omega arith)

pub reads_back_of : (rs : List Record) (before after : List ℕ) (r : Result ℕ Refusal) → Traceable rs → Writes rs before after r → ReadsBack rs after r
reads_back_of rs before after (Err e) h w = tt
reads_back_of rs before after (Ok n) h w = go
  where
    go : ReadsBack rs after (Ok n)
    go (Ok t) (_, (whole, same)) = files_tell (records_of t) rs whole.fits h (whole.exact ∙ same ∙ written_file rs before after n w)
    go (Err d) (((_, none), _), _) = none rs h (sym (written_file rs before after n w))
