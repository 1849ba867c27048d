-- Powers, and whole roots: the root rounded down is the largest number whose power is not above the argument,
-- and rounded up the least whose power is not below it.
use mathlib.Core.Path.{◌≡◌, refl, ap, ◌∙◌, subst}
use mathlib.Core.Bool.{Bool, true, false, cond}
use Prim.Native.Nat.{ℕ, zero, suc, ◌+◌, ◌*◌, ◌/◌, ◌^◌, ◌≤◌, ◌<◌}
use native.Mathlib.Nat.{le_refl, le_antisymm, le_trans, le_of_lt, lt_of_lt_of_le, lt_of_le_of_lt, le_of_suc-le-suc, lt_of_not-le, not-le_of_lt, mul-le-mul_left, mul-le-mul_right, mul-zero, one-mul, pow-zero, pow-suc, pow-le-pow_left, pow-le-pow_right, one-le-pow, pow-lt-pow_left, suc-ne-zero, mul-div-le, lt-mul-div-succ, div-lt_self}
use native.Mathlib.Numerals.{add-one}
use native.Mathlib.Omega.{arith}
use Rattle.std.proofs.lemmas.Nat.{mul-pow}
use lib.Dec.{leb}
use lib.Pow.{pow_pos}
use borrow.Author.Tests.{leb-true, leb-false}
use Rattle.pair.specs.Rounding.{next_root, root_in, root_down, root_up}

pub pow-one : (r : ℕ) → r ^ 1 ≡ r
pow-one r = pow-suc r 0 ∙ cc (pow-zero r, one-mul r)

pub pow_two : (r : ℕ) → r ^ 2 ≡ r * r
pow_two r = pow-suc r 1 ∙ ap (λ (x : ℕ). x * r) (pow-one r)

pub pow_three : (r : ℕ) → r ^ 3 ≡ r * r * r
pow_three r = pow-suc r 2 ∙ ap (λ (x : ℕ). x * r) (pow_two r)

-- a smaller power has a smaller base
pub base_lt : (e : ℕ) {a b : ℕ} → a ^ e < b ^ e → a < b
base_lt e {a} {b} h = lt_of_not-le (λ g. not-le_of_lt h (pow-le-pow_left g e))

pub base_le : (j : ℕ) {a b : ℕ} → a ^ suc j ≤ b ^ suc j → a ≤ b
base_le j {a} {b} h =
    omega (arith, base_lt (suc j) {a = a} {b = b + 1} (lt_of_le_of_lt h (pow-lt-pow_left {a = b} {b = b + 1} (omega arith) (suc-ne-zero j))))

-- r is the e-th root of n, rounded down
pub record IsRoot (e n r : ℕ) : Type 0 where
  pub low : r ^ e ≤ n
  pub high : n < (r + 1) ^ e

next_root_lem : (e n r : ℕ) → r ^ e ≤ n → n < (r + 1 + 1) ^ e → IsRoot e n (next_root e n r)
unfolding next_root
next_root_lem e n r lo hi = by_test (leb ((r + 1) ^ e) n) refl
  where
    by_test : (t : Bool) → leb ((r + 1) ^ e) n ≡ t → IsRoot e n (cond t (r + 1) r)
    by_test true h = record { low = leb-true _ _ h; high = hi }
    by_test false h = record { low = lo; high = leb-false _ _ h }

zero_root : (j : ℕ) → IsRoot (suc j) 0 0
zero_root j = record { low = rw (pow-suc, mul-zero) (le_refl 0); high = one-le-pow (suc j) 1 (omega arith) }

in_root : (steps j n : ℕ) → n ≤ steps → IsRoot (suc j) n (root_in steps (suc j) n)
unfolding root_in
in_root zero j zero h = zero_root j
in_root zero j (suc n) h = absurd (omega arith)
in_root (suc steps) j zero h = zero_root j
in_root (suc steps) j (suc n) h =
    let e : ℕ = suc j in
    let m : ℕ = suc n / 2 ^ e in
    let r : ℕ = root_in steps e m in
    let two : 2 ≤ 2 ^ e = pow-le-pow_right {n = 2} (omega arith) {i = 1} {j = e} (omega arith) in
    let i : IsRoot e m r = in_root steps j m (le_of_suc-le-suc (lt_of_lt_of_le (div-lt_self {n = suc n} {k = 2 ^ e} (omega arith) two) h)) in
    let twice : 2 * (r + 1) ≡ 2 * r + 1 + 1 = omega arith in
    next_root_lem e (suc n) (2 * r)
    (rw mul-pow (le_trans (mul-le-mul_left (2 ^ e) i.low) (mul-div-le (suc n) (2 ^ e))))
    (subst (λ (x : ℕ). suc n < x ^ e) twice
    (lt_of_lt_of_le (lt-mul-div-succ (suc n) {b = 2 ^ e} (pow_pos e)) (rw (mul-pow 2 (r + 1) e) (mul-le-mul_left (2 ^ e) (rw add-one i.high)))))

-- the definition of specs/Rounding is the root, for every argument
pub down_is_root : (j n : ℕ) → IsRoot (suc j) n (root_down (suc j) n)
unfolding root_down
down_is_root j n = in_root n j n (le_refl n)

pub le_down : (j : ℕ) {n x : ℕ} → x ^ suc j ≤ n → x ≤ root_down (suc j) n
le_down j {n} {x} h = omega (arith, base_lt (suc j) {a = x} {b = root_down (suc j) n + 1} (lt_of_le_of_lt h (down_is_root j n).high))

-- there is one root only
pub root_is : (j : ℕ) {n r : ℕ} → IsRoot (suc j) n r → r ≡ root_down (suc j) n
root_is j {n} {r} i =
    omega (arith, le_down j i.low, base_lt (suc j) {a = root_down (suc j) n} {b = r + 1} (lt_of_le_of_lt (down_is_root j n).low i.high))

pub le_up : (j n : ℕ) → n ≤ root_up (suc j) n ^ suc j
unfolding root_up
le_up j n = by_test (leb n (root_down (suc j) n ^ suc j)) refl
  where
    by_test : (t : Bool) → leb n (root_down (suc j) n ^ suc j) ≡ t → n ≤ cond t (root_down (suc j) n) (root_down (suc j) n + 1) ^ suc j
    by_test true h = leb-true _ _ h
    by_test false h = le_of_lt (down_is_root j n).high

pub up_le : (j : ℕ) {n x : ℕ} → n ≤ x ^ suc j → root_up (suc j) n ≤ x
unfolding root_up
up_le j {n} {x} g = by_test (leb n (root_down (suc j) n ^ suc j)) refl
  where
    by_test : (t : Bool) → leb n (root_down (suc j) n ^ suc j) ≡ t → cond t (root_down (suc j) n) (root_down (suc j) n + 1) ≤ x
    by_test true h = base_le j (le_trans (down_is_root j n).low g)
    by_test false h = omega (arith, base_lt (suc j) {a = root_down (suc j) n} {b = x} (lt_of_lt_of_le (leb-false _ _ h) g))

-- the root rounded up is r where n is the power of r, and r + 1 where n lies above that and not above the next
pub up_at : (j : ℕ) {n r : ℕ} → r ^ suc j ≡ n → r ≡ root_up (suc j) n
up_at j {n} {r} e = le_antisymm (base_le j (omega (arith, le_up j n))) (up_le j (omega arith))

pub up_past : (j r : ℕ) {n : ℕ} → r ^ suc j < n → n ≤ (r + 1) ^ suc j → r + 1 ≡ root_up (suc j) n
up_past j r {n} lo hi =
    let below : r < root_up (suc j) n = base_lt (suc j) (lt_of_lt_of_le lo (le_up j n)) in
    let above : root_up (suc j) n ≤ r + 1 = up_le j hi in
    omega arith

-- roots at two scales, from the arguments
pub cross_root_down : (j n N m : ℕ) → n * m ^ suc j ≤ N → root_down (suc j) n * m ≤ root_down (suc j) N
cross_root_down j n N m h = le_down j (rw mul-pow (le_trans (mul-le-mul_right (m ^ suc j) (down_is_root j n).low) h))

pub cross_root_up : (j n N m : ℕ) → N ≤ n * m ^ suc j → root_up (suc j) N ≤ root_up (suc j) n * m
cross_root_up j n N m h = up_le j (rw mul-pow (le_trans h (mul-le-mul_right (m ^ suc j) (le_up j n))))

pub cross_root_mid : (j : ℕ) {n N : ℕ} → n ≤ N → root_down (suc j) n ≤ root_up (suc j) N
cross_root_mid j {n} {N} h = base_le j (le_trans (down_is_root j n).low (le_trans h (le_up j N)))
