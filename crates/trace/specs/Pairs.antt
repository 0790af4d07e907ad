-- What a table of pairs cuts out of bytes.
use Rattle.std.specs.Prelude.{◌≡◌, ℕ, ◌+◌, ◌≤◌, List, [], ◌∷◌, ◌++◌, map, length, take, drop}
use Rattle.std.specs.List.{All, flat_map}
use Rattle.model.specs.Traces.{Record, record_of, word, word_at, RecordLength}
use Rattle.trace.specs.declared.pairs.Pair.{Pair}

-- the bytes that a pair names
abbrev pub cut : List ℕ → Pair → List ℕ
cut area p = take p.length (drop p.offset area)

-- the records that pairs name
abbrev pub cut_records : List ℕ → List Pair → List Record
cut_records area ps = map record_of (map (cut area) ps)

abbrev pub offset_of : Pair → ℕ
offset_of p = p.offset

abbrev pub length_of : Pair → ℕ
length_of p = p.length

-- where parts of these lengths begin, the first at a place, and where the last one ends
abbrev pub offsets : ℕ → List ℕ → List ℕ
offsets place [] = place ∷ []
offsets place (n ∷ ns) = place ∷ offsets (place + n) ns

-- the pairs follow one another from a place to an end, with no gap
abbrev pub Gapless : ℕ → List Pair → ℕ → Type 0
Gapless place ps end = map offset_of ps ++ end ∷ [] ≡ offsets place (map length_of ps)

-- each pair is as long as a record is
abbrev pub Sized : List Pair → Type 0
Sized ps = All (λ p. RecordLength p.length) ps

-- a pair as a row of a table: its two numbers
abbrev pub row_of : Pair → List ℕ
row_of p = word p.offset ++ word p.length

-- the pair that a row says
abbrev pub pair_in : List ℕ → Pair
pair_in row = record { offset = word_at row 0; length = word_at row 4 }

-- a row and a pair say the same
pub record IsRow (row : List ℕ) (p : Pair) : Type 0 where
  pub read : pair_in row ≡ p
  pub written : row_of p ≡ row

-- the table of a trace file, whose records begin at a place
abbrev pub rows : ℕ → List Pair → List ℕ
rows place ps = flat_map (λ p. word (place + p.offset) ++ word p.length) ps

-- pairs that name all of these bytes, as records that a trace can have
pub record Listed (ps : List Pair) (area : List ℕ) : Type 0 where
  pub few : length ps ≤ 1024
  pub sized : Sized ps
  pub gapless : Gapless 0 ps (length area)
