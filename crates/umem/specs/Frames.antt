-- The frame memory: frames of 2,048 bytes, and the packets that they hold.
use Rattle.std.specs.Prelude.{◌≡◌, ℕ, ◌+◌, ◌*◌, ◌/◌, ◌%◌, ◌≤◌, List, length}
use Rattle.std.proofs.Math.Seq.{paste}
use Rattle.umem.specs.declared.refusal.Refusal.TheVariants.{WrongPacketLength}
use Rattle.umem.specs.Refusals.{number}

-- the bytes of one frame
abbrev pub frame_size : ℕ
frame_size = 2048

-- the address of a place in a frame: frame f begins at f × 2,048
abbrev pub address : ℕ → ℕ → ℕ
address f offset = f * frame_size + offset

-- the frame that an address names, and the place of the address in it
abbrev pub frame_named : ℕ → ℕ
frame_named a = a / frame_size

abbrev pub place_named : ℕ → ℕ
place_named a = a % frame_size

-- bytes with a part written over them from a place on, and each other byte as it was
abbrev pub written : List ℕ → ℕ → List ℕ → List ℕ
written bytes place part = paste bytes place part (length part)

-- a switch has 1 to 256 frames
abbrev pub FrameCount : ℕ → Type 0
FrameCount n = (1 ≤ n) × (n ≤ 256)

-- a packet has 14 to 1,792 bytes
abbrev pub PacketLength : ℕ → Type 0
PacketLength n = (14 ≤ n) × (n ≤ 1792)

-- a packet of another length is refused
abbrev pub LengthApplies : ℕ → ℕ → Type 0
LengthApplies len n = (n ≡ number WrongPacketLength) × ¬ (PacketLength len)
