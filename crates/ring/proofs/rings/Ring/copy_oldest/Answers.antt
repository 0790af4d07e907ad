use Rattle.std.proofs.Common.{◌≡◌, ◌-◌, length, sym, arith}
use Rattle.ring.proofs.Parts.{take_parts}
use Rattle.ring.proofs.rings.Ring.copy_oldest.Goals as goal

pub returns-then-not-is_empty : goal.returns-then-not-is_empty
returns-then-not-is_empty g c =
    let n = length c.args.out.now in
    let front = c.waiting_parts.result.0.now in
    let k = c.min.result in
    let tail : length c.split_at_mut-head.result.1.now ≡ n - k = omega arith in
    rw (c.copy_from_slice.ensures.after, c.copy_from_slice-then-not-is_empty.ensures.after, c.split_at_mut-head.ensures.front_len, tail, c.waiting_parts.ensures.parts)
    (sym (take_parts n k front _ (omega arith)))
