-- Long division by words: 32 bits of the quotient at a time.
use mathlib.Core.Path.{◌≡◌, refl, sym, ap, ◌∙◌}
use Prim.Native.Nat.{ℕ, ◌+◌, ◌-◌, ◌*◌, ◌/◌, ◌%◌, ◌^◌, ◌≤◌, ◌<◌, min}
use native.Mathlib.Nat.{le_of_eq, le_of_lt, le_trans, lt_of_lt_of_le, mul-le-mul_right, mul-le-mul_left, div-mul-le_self, div-lt_iff_lt-mul, lt-div-mul-add, div-add-mod', mod-lt, div-one, mul-add-div_right}
use native.Mathlib.Decide.{dec_le}
use native.Mathlib.Omega.{arith}
use Rattle.std.proofs.Common.{pow-add}
use lib.Count.{count_leading_zeros, leading_top}
use lib.Pow.{pow_mono, pow_pos}
use Rattle.pair.proofs.Quotients.{by_rest, le_floor}

-- as many last bits of the divisor d are cut, 32 less m, as leave 32 of it, or none
module _ (d m : ℕ) (e : m ≡ min (count_leading_zeros 64 d) 32) (p : 0 < d) (h : d < 2 ^ 64) where
  cut_below : d < 2 ^ (32 - m) * 2 ^ 32
  cut_below = let top = leading_top 64 d p h in lt_of_lt_of_le top.3 (le_trans (pow_mono (omega (arith, top.1, e))) (le_of_eq (pow-add 2 (32 - m) 32)))

  pub cut_leaves : 0 < d / 2 ^ (32 - m)
  cut_leaves =
      let top = leading_top 64 d p h in
      let some : 2 ^ (32 - m) ≤ d = le_trans (pow_mono (omega (arith, top.1, e))) top.2 in
      le_floor {n = d} {d = 2 ^ (32 - m)} {x = 1} (pow_pos (32 - m)) (omega (arith, some))

  pub cut_fits : (n : ℕ) → n < d * 2 ^ 32 → n / 2 ^ (32 - m) < 2 ^ 64
  cut_fits n k = (div-lt_iff_lt-mul {k = 2 ^ (32 - m)} {x = n} {y = 2 ^ 64} (pow_pos (32 - m))).1 (omega (arith, k, cut_below))

-- the estimate from n and d without their last bits, which t counts, is not too small

reaches : (n d t : ℕ) → 0 < t → 0 < d / t → n < (n / t / (d / t) + 1) * d
reaches n d t p l =
    let above : n / t + 1 ≤ (n / t / (d / t) + 1) * (d / t) = omega (arith, lt-div-mul-add {a = n / t} {b = d / t} l) in
    omega (arith, lt-div-mul-add {a = n} {b = t} p, mul-le-mul_right t above, mul-le-mul_left (n / t / (d / t) + 1) (div-mul-le_self d t))

pub estimate_enough : (n d k : ℕ) → 0 < d → 0 < d / 2 ^ k → n / d ≤ n / 2 ^ k / (d / 2 ^ k)
estimate_enough n d k p l =
    omega (arith, (div-lt_iff_lt-mul {k = d} {x = n} {y = n / 2 ^ k / (d / 2 ^ k) + 1} p).1 (reaches n d (2 ^ k) (pow_pos k) l))

-- nor too large by more than 2, where 31 bits of d are left, or all

near : (n d t : ℕ) → 0 < t → 0 < d → 2 ^ 31 ≤ d / t → n < d * 2 ^ 32 → n / t / (d / t) ≤ n / d + 2
near n d t p l h k =
    let q = n / t / (d / t) in
    let within : q * (d / t) * t ≤ n = le_trans (mul-le-mul_right t (div-mul-le_self (n / t) (d / t))) (div-mul-le_self n t) in
    let more : q * d ≤ 2 * d + n = omega (arith, within, k, mul-le-mul_left (q * t) h, mul-le-mul_left q (le_of_lt (lt-div-mul-add {a = d} {b = t} p))) in
    omega (arith, le_floor {n = 2 * d + n} l more, mul-add-div_right l 2 n)

pub estimate_near : (n d m : ℕ) → m ≡ min (count_leading_zeros 64 d) 32 → 0 < d → d < 2 ^ 64 → n < d * 2 ^ 32 → n / 2 ^ (32 - m) / (d / 2 ^ (32 - m)) ≤ n / d + 2
estimate_near n d m e p h l = by_length (dec_le 32 m)
  where
    by_length : Dec (32 ≤ m) → n / 2 ^ (32 - m) / (d / 2 ^ (32 - m)) ≤ n / d + 2
    by_length (yes k) =
        let none : 32 - m ≡ 0 = omega (arith, k) in
        let whole : 2 ^ (32 - m) ≡ 1 = ap (λ (i : ℕ). 2 ^ i) none in
        rw (whole, div-one n, div-one d) (omega arith)
    by_length (no f) =
        let top = leading_top 64 d p h in
        let long : 2 ^ 31 * 2 ^ (32 - m) ≤ d = le_trans (le_of_eq (sym (pow-add 2 31 (32 - m)))) (le_trans (pow_mono (omega (arith, top.1, e, f))) top.2) in
        near n d (2 ^ (32 - m)) (pow_pos (32 - m)) p (le_floor {n = d} {d = 2 ^ (32 - m)} {x = 2 ^ 31} (pow_pos (32 - m)) long) l

pub ruleset estimates = (cut_leaves, cut_fits, estimate_enough, estimate_near)

pub too_large : (n q d : ℕ) → 0 < d → n < q * d → n / d < q
too_large n q d p h = (div-lt_iff_lt-mul {k = d} {x = n} {y = q} p).1 h

pub not_too_large : (n q d : ℕ) → 0 < d → q * d ≤ n → q ≤ n / d
not_too_large n q d p h = le_floor p h

pub ruleset lowers = (too_large, not_too_large)

-- the digits above the last 32 bits, of which there are two
upper_digits : (n : ℕ) → n / 2 ^ 64 * 2 ^ 32 + n / 2 ^ 32 % 2 ^ 32 ≡ n / 2 ^ 32
upper_digits n = omega arith

-- a quotient by its two digits: q is the upper one, and r what it leaves
both_digits : (n d q r : ℕ) → 0 < d → q ≡ n / 2 ^ 32 / d → r ≡ n / 2 ^ 32 % d → (q * 2 ^ 32 + (r * 2 ^ 32 + n % 2 ^ 32) / d ≡ n / d) × ((r * 2 ^ 32 + n % 2 ^ 32) % d ≡ n % d)
both_digits n d q r p e f =
    let part = r * 2 ^ 32 + n % 2 ^ 32 in
    let above : q * d + r ≡ n / 2 ^ 32 = rw (e, f) (div-add-mod' (n / 2 ^ 32) d) in
    by_rest (q * 2 ^ 32 + part / d) (part % d) {n = n} {d = d} (omega (arith, div-add-mod' part d, above)) (mod-lt part p)

module _ (n d r : ℕ) (p : 0 < d) (f : r ≡ (n / 2 ^ 64 * 2 ^ 32 + n / 2 ^ 32 % 2 ^ 32) % d) where
  left : r ≡ n / 2 ^ 32 % d
  left = f ∙ ap (λ (x : ℕ). x % d) (upper_digits n)

  pub whole_digits : (q : ℕ) → q ≡ (n / 2 ^ 64 * 2 ^ 32 + n / 2 ^ 32 % 2 ^ 32) / d → q * 2 ^ 32 + (r * 2 ^ 32 + n % 2 ^ 32) / d ≡ n / d
  whole_digits q e = (both_digits n d q r p (e ∙ ap (λ (x : ℕ). x / d) (upper_digits n)) left).0

  pub rest_digits : (r * 2 ^ 32 + n % 2 ^ 32) % d ≡ n % d
  rest_digits = (both_digits n d (n / 2 ^ 32 / d) r p refl left).1

pub ruleset digits = (whole_digits, rest_digits)
