-- The number of each refusal. Every contract that speaks of a refusal goes through `number`.
use Rattle.std.specs.Prelude.{ℕ, List, codes}
use Rattle.umem.specs.declared.refusal.Refusal.{Refusal}
use Rattle.umem.specs.declared.refusal.Refusal.TheVariants.{NoSuchPort, WrongMemorySize, WrongPacketLength, HandleNotOut, UnfitSetup, PortNotFresh, PoolEmpty, FillFull, SendFull, NothingReceived, NothingToSend, NothingCompleted, LogFull, Stuck, CompletionFull, OutsideSpan, NotATrace, UnfitEntry, ShortBuffer}

abbrev pub number : Refusal → ℕ
number NoSuchPort = 1
number WrongMemorySize = 2
number WrongPacketLength = 3
number HandleNotOut = 4
number UnfitSetup = 5
number PortNotFresh = 6
number PoolEmpty = 7
number FillFull = 8
number SendFull = 9
number NothingReceived = 10
number NothingToSend = 11
number NothingCompleted = 12
number LogFull = 13
number Stuck = 14
number CompletionFull = 15
number OutsideSpan = 16
number NotATrace = 17
number UnfitEntry = 19
number ShortBuffer = 20

-- what is printed of a refusal
abbrev pub refusal_words : Refusal → List ℕ
refusal_words NoSuchPort = codes "there is no such port"
refusal_words WrongMemorySize = codes "the frame memory is not 2048 bytes for each frame"
refusal_words WrongPacketLength = codes "a packet has 14 to 1792 bytes"
refusal_words HandleNotOut = codes "the switch has no such handle out"
refusal_words UnfitSetup = codes "the number of frames, the number of ports or a port's number of frames does not fit"
refusal_words PortNotFresh = codes "a port holds something or has a ring of size 0"
refusal_words PoolEmpty = codes "the pool has no frame"
refusal_words FillFull = codes "the fill ring is full"
refusal_words SendFull = codes "the send ring is full"
refusal_words NothingReceived = codes "nothing was received"
refusal_words NothingToSend = codes "there is nothing to send"
refusal_words NothingCompleted = codes "no frame has completed"
refusal_words LogFull = codes "the log has no room for another record"
refusal_words Stuck = codes "the device is stuck"
refusal_words CompletionFull = codes "the completion ring is full"
refusal_words OutsideSpan = codes "the mark or count lies outside its span"
refusal_words NotATrace = codes "this is not a trace file"
refusal_words UnfitEntry = codes "the frame, offset or length does not fit the frame memory"
refusal_words ShortBuffer = codes "the buffer is too short"
