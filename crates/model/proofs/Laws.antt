-- The law of refusing leaves one answer, whatever says which refusals apply.
use Rattle.std.proofs.Common.{◌≡◌, ℕ, ◌≤◌, arith}
use Rattle.umem.specs.Refusing.{Smallest}

pub same_smallest : (applies : ℕ → Type 0) (m n : ℕ) → Smallest applies m → Smallest applies n → m ≡ n
same_smallest applies m n h k =
    let p : m ≤ n = h.1 n k.0 in
    let q : n ≤ m = k.1 m h.0 in
    omega arith
