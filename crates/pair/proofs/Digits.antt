-- The digits of a number, k bits each, taken from the top.
use mathlib.Core.Path.{◌≡◌, sym, ap, ◌∙◌}
use Prim.Native.Nat.{ℕ, ◌+◌, ◌-◌, ◌*◌, ◌/◌, ◌%◌, ◌^◌, ◌≤◌, ◌<◌}
use native.Mathlib.Nat.{lt_of_le_of_lt, lt_of_lt_of_le, div-eq_of_lt, div-add-mod'}
use native.Mathlib.Omega.{arith}
use lib.Count.{count_leading_zeros, leading_le, leading_length}
use lib.Pow.{pow_mono, shr-shr}

-- above the leading zeros of n nothing is taken in, of n and of any number that is no larger
pub nothing_above : (m n at : ℕ) → m ≤ n → n < 2 ^ 64 → 64 ≤ count_leading_zeros 64 n + at → m / 2 ^ at ≡ 0
nothing_above m n at g h k =
    let l = leading_length 64 n h in
    div-eq_of_lt (lt_of_le_of_lt g (lt_of_lt_of_le l.2 (pow_mono (omega (arith, l.1)))))

-- nor above the first digits of two or three bits
pub none_above : (m n : ℕ) → m ≤ n → n < 2 ^ 64 → (m / 2 ^ ((65 - count_leading_zeros 64 n) / 2 * 2) ≡ 0) × (m / 2 ^ ((66 - count_leading_zeros 64 n) / 3 * 3) ≡ 0)
none_above m n g h =
    let l = leading_le 64 n in
    (nothing_above m n ((65 - count_leading_zeros 64 n) / 2 * 2) g h (omega (arith, l)), nothing_above m n ((66 - count_leading_zeros 64 n) / 3 * 3) g h (omega (arith, l)))

-- one digit more
pub next_digit : (n at k : ℕ) → 0 < at → n / 2 ^ (at * k) * 2 ^ k + n / 2 ^ ((at - 1) * k) % 2 ^ k ≡ n / 2 ^ ((at - 1) * k)
next_digit n at k h =
    ap (λ (x : ℕ). x * 2 ^ k + n / 2 ^ ((at - 1) * k) % 2 ^ k) (ap (λ (i : ℕ). n / 2 ^ i) split ∙ sym (shr-shr n ((at - 1) * k) k))
    ∙ div-add-mod' (n / 2 ^ ((at - 1) * k)) (2 ^ k)
  where
    split : at * k ≡ (at - 1) * k + k
    split = let whole : at - 1 + 1 ≡ at = omega (arith, h) in sym (ap (λ (x : ℕ). x * k) whole) ∙ omega arith
