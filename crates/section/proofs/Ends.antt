-- A fineness n and a finer one m × n: their scales, an exact value at both, and the smaller and the larger of two numbers at both.
use Prim.Native.Nat.{ℕ, min, max, ◌*◌, ◌%◌, ◌^◌, ◌≤◌, ◌<◌, ◌∣◌}
use mathlib.Core.Path.{◌≡◌, refl, sym, ap, ◌∙◌}
use mathlib.Core.Bool.{true}
use native.Mathlib.Nat.{mul_comm, mul-pos, mul-le-mul_left, mul-le-mul_right, min-le_left, min-le_right, le-max_left, le-max_right}
use native.Mathlib.Nat.{mul-div_assoc, div-mul_cancel, dvd_of_mod-eq-zero, mod-eq-zero_of_dvd, dvd-mul_left_of_dvd}
use native.Mathlib.Omega.{arith}
use lib.Dec.{lit<, lit≤}
use Rattle.pair.specs.Pairs.{◌to◌, exact, ratio}
use Rattle.pair.specs.Fits.{exact_ratio}
use Rattle.pair.specs.Enclosure.{Finer, Inside}
use Rattle.pair.specs.declared.Pair.{Pair}
use Rattle.pair.proofs.Laws.{same_scale, ratio-exact, ratio-Inside, exact_ratio_lem, ratio_box}
use Rattle.pair.proofs.Numbers.{min_down, min_up}
use Rattle.section.specs.Working.{scale_of, constant, whole, units}
use Rattle.section.specs.Constants.{Exact, ConstantsExact}
use Rattle.section.specs.declared.scale.Scale.{Scale}
use Rattle.section.specs.Parts.{Fine}

pub scale_positive : {n : ℕ} → 0 < n → 0 < n * 1000000
scale_positive h = mul-pos h (lit< tt)

-- fineness m × n is m times as fine as fineness n
pub finer : {m n : ℕ} → 0 < m → 0 < n → Finer m (n * 1000000) (m * n * 1000000)
finer m⁺ n⁺ = record { many = m⁺; some = scale_positive n⁺; scale = omega arith }

-- the scale 1,000,000
pub scale-Fine : (s : Scale) → Fine s.fineness
scale-Fine s = record { some = s.some; most = s.most }

pub one-Fine : Fine 1
one-Fine = record { some = lit< tt; most = lit≤ tt }

-- the scale of n is n times that
pub scale : {n : ℕ} → Fine n → Finer n 1000000 (scale_of n)
scale f = record { many = f.some; some = lit< tt; scale = refl }

-- and at most ten times that
pub scale_most : {n : ℕ} → Fine n → scale_of n ≤ 10000000
scale_most f = omega (arith, f.most)

-- so a number in millionths up to this one is a word in units of 1/S
pub word_at : {n : ℕ} (b : ℕ) → Fine n → b ≤ 1844674407370955161 → b * n < 2 ^ 64
word_at {n} b f h = omega (arith, mul-le-mul_left {m = n} {n = 10} b f.most)

-- both ends of an exact value are its number
pub exact_ends : (v : ℕ) → exact v ≡ (v to v)
exact_ends v =
    let as_ratio : Inside 1 (ratio 1 v 1) (v to v) = ratio_box v 1 v (same_scale (lit< tt)) (lit< tt) refl in
    let box : Inside 1 (exact v) (v to v) = rw (ratio-exact 1 v 1 v (lit< tt) refl) at as_ratio in
    let low : (exact v).lo ≡ v = omega (arith, box.low, box.mid, box.high) in
    let high : (exact v).hi ≡ v = omega (arith, box.low, box.mid, box.high) in
    λ i. low i to high i

-- and 1 is S units
pub one_exact : (n : ℕ) {u : ℕ} {p : Pair} → u ≡ scale_of n → p ≡ exact u → p ≡ whole n 1
one_exact n e h = h ∙ ap exact e ∙ sym (ratio-exact (scale_of n) 1 1 (scale_of n) (lit< tt) (omega arith))

-- b divides a × S at every fineness where it divides 1,000,000
scale_divided : (n a b : ℕ) → 1000000 % b ≡ 0 → b ∣ a * (n * 1000000)
scale_divided n a b e = dvd-mul_left_of_dvd b (dvd-mul_left_of_dvd b (dvd_of_mod-eq-zero b e) n) a

-- so a ÷ b is a whole number of units
pub constant_exact : {n : ℕ} (a b : ℕ) → 0 < n → 0 < b → 1000000 % b ≡ 0 → exact_ratio (n * 1000000) a b ≡ true
constant_exact {n} a b n⁺ b⁺ e =
    exact_ratio_lem _ a b (scale_positive n⁺) b⁺ (mod-eq-zero_of_dvd b (scale_divided n a b e))

-- so it is the same value at m × n, and m times as many units
pub constant-Inside : {n m : ℕ} → 0 < n → 0 < m → (a b : ℕ) → 0 < b → 1000000 % b ≡ 0 → Inside m (constant (m * n) a b) (constant n a b)
constant-Inside n⁺ m⁺ a b b⁺ e = ratio-Inside a b (finer m⁺ n⁺) (constant_exact a b n⁺ b⁺ e)

pub units_finer : (m n a b : ℕ) → 1000000 % b ≡ 0 → units (m * n) a b ≡ units n a b * m
units_finer m n a b e =
    let swap : a * (m * n * 1000000) ≡ m * (a * (n * 1000000)) = omega arith in
    rw (swap, mul-div_assoc b m (scale_divided n a b e)) (mul_comm m _)

-- a ÷ b exactly: both ends of a constant, and a limit
ends_exact : {n : ℕ} (a b : ℕ) → 0 < n → 0 < b → 1000000 % b ≡ 0 → Exact n a b
ends_exact {n} a b n⁺ b⁺ e =
    let limit : units n a b * b ≡ a * scale_of n = div-mul_cancel b (scale_divided n a b e) in
    let box = ratio_box a b (units n a b) (same_scale (scale_positive n⁺)) b⁺ limit in
    let low : (constant n a b).lo ≡ units n a b = omega (arith, box.low, box.mid, box.high) in
    let high : (constant n a b).hi ≡ units n a b = omega (arith, box.low, box.mid, box.high) in
    record { low = rw low limit; high = rw high limit; limit = limit }

pub every_constant_exact : {n : ℕ} → 0 < n → ConstantsExact n
every_constant_exact n⁺ = record {
  wholes = λ a. ends_exact a 1 n⁺ (lit< tt) refl;
  halves = λ a. ends_exact a 2 n⁺ (lit< tt) refl;
  tenths = λ a. ends_exact a 10 n⁺ (lit< tt) refl;
  hundredths = λ a. ends_exact a 100 n⁺ (lit< tt) refl;
  thousandths = λ a. ends_exact a 1000 n⁺ (lit< tt) refl;
  hundred_thousandths = λ a. ends_exact a 100000 n⁺ (lit< tt) refl;
}

-- the smaller of a fixed number and a quotient
pub fixed_min_down : (s q Q m : ℕ) → q * m ≤ Q → min s q * m ≤ min (m * s) Q
fixed_min_down s q Q m h = min_down s q (m * s) Q m (omega arith) h

pub fixed_min_up : (s q Q m : ℕ) → Q ≤ q * m → min (m * s) Q ≤ min s q * m
fixed_min_up s q Q m h = min_up s q (m * s) Q m (omega arith) h

pub min_left : (x y m : ℕ) → min x y * m ≤ x * m
min_left x y m = mul-le-mul_right m (min-le_left x y)

pub min_right : (x y m : ℕ) → min x y * m ≤ y * m
min_right x y m = mul-le-mul_right m (min-le_right x y)

pub max_left : (x y m : ℕ) → x * m ≤ max x y * m
max_left x y m = mul-le-mul_right m (le-max_left x y)

pub max_right : (x y m : ℕ) → y * m ≤ max x y * m
max_right x y m = mul-le-mul_right m (le-max_right x y)
