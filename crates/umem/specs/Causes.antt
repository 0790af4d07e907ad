-- The number of each cause of a loss. Every contract that speaks of a cause goes through `cause_number`.
use Rattle.std.specs.Prelude.{ℕ, List, codes}
use Rattle.umem.specs.declared.cause.Cause.{Cause}
use Rattle.umem.specs.declared.cause.Cause.TheVariants.{DeviceDeaf, NoFillFrame, ReceiveFull, ReservedDestination, OwnPort, NoCopyFrame, SendRingFull}

abbrev pub cause_number : Cause → ℕ
cause_number DeviceDeaf = 1
cause_number NoFillFrame = 2
cause_number ReceiveFull = 3
cause_number ReservedDestination = 4
cause_number OwnPort = 5
cause_number NoCopyFrame = 6
cause_number SendRingFull = 7

-- what is printed of a cause
abbrev pub cause_words : Cause → List ℕ
cause_words DeviceDeaf = codes "lost by the device"
cause_words NoFillFrame = codes "the fill ring had no frame"
cause_words ReceiveFull = codes "the receive ring was full"
cause_words ReservedDestination = codes "the destination is reserved"
cause_words OwnPort = codes "the destination is at the port of arrival"
cause_words NoCopyFrame = codes "the pool had no frame for a copy"
cause_words SendRingFull = codes "the send ring was full"
