-- Powers of two, and the size of a ring.
use Rattle.std.proofs.Common.{◌≡◌, ℕ, ◌+◌, ◌-◌, ◌*◌, ◌%◌, ◌^◌, ◌<◌, ◌≤◌, min, sym, refl, ap, ◌∙◌, ⊎_elim, arith, pow_mono}
use native.Mathlib.Nat.{mul-mod_left}
use lib.Bits.{bit_and}
use Rattle.std.proofs.lemmas.Nat.{pow-add, and_mask, one_shl}
use Rattle.std.proofs.lemmas.Bool.{cases_lt}
use Rattle.ring.specs.Marks.{SoundMarks, fresh_numbers}
use Rattle.ring.specs.Sizes.{SizeFor}

-- exponents are in the order of their powers
exponents : (i j : ℕ) → 2 ^ i < 2 * 2 ^ j → i ≤ j
exponents i j h = grind (arith, pow_mono {i = j + 1} {j = i}, pow-add 2 j 1)

pub size_none : (n : ℕ) → min n 256 < 2 → SizeFor n 0
size_none n h = record {
  none = λ _. refl;
  power = λ l. absurd (omega arith);
  held = omega arith;
  largest = λ k l m p. let q = pow_mono l in absurd (omega arith);
}

pub size_some : (n j s : ℕ) → 2 ≤ min n 256 → 2 ^ j ≤ min n 256 → min n 256 < 2 * 2 ^ j → s ≡ 1 * 2 ^ j % 2 ^ 32 → SizeFor n s
size_some n j s h low high e =
    let small : j ≤ 8 = exponents j 8 (omega arith) in
    let is : s ≡ 2 ^ j = e ∙ one_shl j 32 (omega arith) in
    record {
      none = λ l. absurd (omega arith);
      power = λ _. (j, exponents 1 j (omega arith), small, is);
      held = omega arith;
      largest = λ k l m p. let q = pow_mono m in let r = pow_mono (exponents k j (omega arith)) in omega arith;
    }

-- a size divides the numbers of 32 bits
pub size_whole : (n s : ℕ) → SizeFor n s → 0 < s → 2 ^ 32 % s ≡ 0
size_whole n s z l =
    let two : 2 ≤ n = ⊎_elim (λ few. let e = z.none few in absurd (omega arith)) (λ h. h) (cases_lt n 2) in
    let p = z.power two in
    let sum : 32 ≡ (32 - p.0) + p.0 = omega arith in
    let split : 2 ^ 32 ≡ 2 ^ (32 - p.0) * 2 ^ p.0 = ap (λ (k : ℕ). 2 ^ k) sum ∙ pow-add 2 (32 - p.0) p.0 in
    ap (λ (k : ℕ). 2 ^ 32 % k) p.3 ∙ ap (λ (k : ℕ). k % 2 ^ p.0) split ∙ mul-mod_left (2 ^ (32 - p.0)) (2 ^ p.0)

-- the slot of a mark by a mask
pub size_masked : (n s : ℕ) → SizeFor n s → 0 < s → (m : ℕ) → bit_and m (s - 1) ≡ m % s
size_masked n s z l m =
    let two : 2 ≤ n = ⊎_elim (λ few. let e = z.none few in absurd (omega arith)) (λ h. h) (cases_lt n 2) in
    let p = z.power two in
    ap (λ (k : ℕ). bit_and m (k - 1)) p.3 ∙ and_mask m p.0 ∙ sym (ap (λ (k : ℕ). m % k) p.3)

pub size_small : (n s : ℕ) → SizeFor n s → s ≤ 256
size_small n s z =
    ⊎_elim (λ few. omega (arith, z.none few)) (λ h. let p = z.power h in omega (arith, pow_mono p.2)) (cases_lt n 2)

pub sound_fresh : (n s start : ℕ) → SizeFor n s → start < 2 ^ 32 → SoundMarks (fresh_numbers s start)
sound_fresh n s start z l = record {
  fits = omega arith;
  seen = omega arith;
  small = size_small n s z;
  whole = size_whole n s z;
  masked = size_masked n s z;
  pbits = l;
  cbits = l;
}
