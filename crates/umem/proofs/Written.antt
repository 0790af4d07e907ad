-- A part written over bytes: what the library says of `paste`, for `written`.
use Rattle.std.proofs.Common.{◌≡◌, ℕ, ◌+◌, ◌≤◌, List, ◌++◌, length, take, drop, refl, sym, ap, ◌∙◌, arith}
use Rattle.std.proofs.Math.Seq.{paste}
use Rattle.std.proofs.lemmas.List.{append_assoc, take_all, length-append}
use Rattle.std.proofs.lemmas.List.Edits.{take-paste, paste-paste, paste_all}
use Rattle.umem.specs.Frames.{written}

-- in three parts: what stands before, the part, and what stands behind
pub written_parts : (bytes part : List ℕ) (i : ℕ) → written bytes i part ≡ (take i bytes ++ part) ++ drop (i + length part) bytes
written_parts bytes part i = paste_all bytes i part (length part) refl ∙ sym (append_assoc (take i bytes) part (drop (i + length part) bytes))

-- what stands before the part, and the part
pub front_written : (bytes part : List ℕ) (i n : ℕ) → i ≤ length bytes → n ≡ i + length part → take n (written bytes i part) ≡ take i bytes ++ part
front_written bytes part i n h e =
    ap (λ (k : ℕ). take k (written bytes i part)) e
    ∙ take-paste bytes i part (length part) h (omega arith)
    ∙ ap (λ (xs : List ℕ). take i bytes ++ xs) (take_all (length part) part (omega arith))

-- two parts written one behind the other are one part
pub written_more : (bytes xs ys : List ℕ) (i n : ℕ) → i ≤ length bytes → n ≡ i + length xs → written (written bytes i xs) n ys ≡ written bytes i (xs ++ ys)
written_more bytes xs ys i n h e =
    ap (λ (k : ℕ). written (written bytes i xs) k ys) e
    ∙ paste-paste bytes i xs ys (length xs) (length ys) refl refl h
    ∙ ap (paste bytes i (xs ++ ys)) (sym (length-append xs ys))
