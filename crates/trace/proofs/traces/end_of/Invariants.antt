use Rattle.std.proofs.Common.{◌+◌, ◌*◌, length, take}
use Rattle.trace.specs.Files.{StandFrom}
use Rattle.trace.proofs.traces.end_of.Given as goal

abbrev pub invariant-loop-row : goal.invariant-loop-row
invariant-loop-row l = StandFrom (4 + 8 * length l.rows) (take l.row-index l.rows) l.end
