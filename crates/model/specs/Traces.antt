-- A trace file: what it is of a list of records.
use Rattle.std.specs.Prelude.{◌≡◌, ℕ, zero, suc, ◌+◌, ◌*◌, ◌/◌, ◌%◌, ◌≤◌, List, [], ◌∷◌, ◌++◌, map, length, take, drop, slice_index}
use Rattle.std.specs.List.{All, range_with_len, flat_map}
use Rattle.umem.specs.Frames.{PacketLength}

-- what a trace tells of one packet: the port where it came or left, and its bytes
pub record Record : Type 0 where
  pub port : ℕ
  pub packet : List ℕ

-- how a record is laid out: one byte for the port, then the packet. Only `record_of`, which reads it back, and the two
-- lengths below hang on it
abbrev pub laid : Record → List ℕ
laid r = r.port ∷ r.packet

-- the record that is laid out as these bytes
abbrev pub record_of : List ℕ → Record
record_of bytes = record { port = slice_index bytes 0; packet = drop 1 bytes }

-- a record has 15 to 1,793 bytes
abbrev pub shortest_record : ℕ
shortest_record = 15

abbrev pub longest_record : ℕ
longest_record = 1793

abbrev pub RecordLength : ℕ → Type 0
RecordLength n = (shortest_record ≤ n) × (n ≤ longest_record)

-- the records that a trace can have: at most 1,024, each with a packet of 14 to 1,792 bytes
pub record Traceable (rs : List Record) : Type 0 where
  pub few : length rs ≤ 1024
  pub sized : All (λ r. PacketLength (length r.packet)) rs

-- a number in k bytes, low byte first
abbrev pub low_first : ℕ → ℕ → List ℕ
low_first zero n = []
low_first (suc k) n = n % 256 ∷ low_first k (n / 256)

-- a number of 32 bits
abbrev pub word : ℕ → List ℕ
word n = low_first 4 n

-- the offset and the length of each part, where the parts stand one behind another from a place on
abbrev pub table : ℕ → List (List ℕ) → List ℕ
table place [] = []
table place (p ∷ ps) = word place ++ (word (length p) ++ table (place + length p) ps)

-- how many parts there are, the table of their offsets and lengths, then the parts
unfoldable pub packed : List (List ℕ) → List ℕ
packed ps = word (length ps) ++ (table (4 + 8 * length ps) ps ++ flat_map (λ p. p) ps)

-- the trace file of a list of records
abbrev pub file : List Record → List ℕ
file rs = packed (map laid rs)

-- READING

-- the number that bytes write, low byte first
abbrev pub value : List ℕ → ℕ
value [] = 0
value (b ∷ bs) = b + 256 * value bs

-- the number in the four bytes from a place on
abbrev pub word_at : List ℕ → ℕ → ℕ
word_at bytes i = value (take 4 (drop i bytes))

-- part i of a file: as many bytes as the second number of pair i says, from the offset on that the first says
abbrev pub part_at : List ℕ → ℕ → List ℕ
part_at bytes i = take (word_at bytes (8 + 8 * i)) (drop (word_at bytes (4 + 8 * i)) bytes)

-- the first n parts of a file
abbrev pub parts_in : List ℕ → ℕ → List (List ℕ)
parts_in bytes n = map (part_at bytes) (range_with_len 0 n)

-- two lists of records that a trace can have are the same where their files are
abbrev pub FilesTell : Type 0
FilesTell = (rs ss : List Record) → Traceable rs → Traceable ss → file rs ≡ file ss → rs ≡ ss
