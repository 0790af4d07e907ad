use Rattle.std.proofs.Common.{◌≡◌, ◌+◌, ◌*◌, length, take}
use Rattle.umem.specs.Frames.{written}
use Rattle.trace.specs.Pairs.{rows}
use Rattle.trace.proofs.writing.put_table.Given as goal

abbrev pub invariant-loop-i : goal.invariant-loop-i
invariant-loop-i l = l.buffer ≡ written l.initial.buffer 4 (rows (4 + 8 * length l.pairs) (take l.i l.pairs))
