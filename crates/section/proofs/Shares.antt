-- ρ, the part of a width that counts: it falls, a finer ρ lies inside a coarser one, it is at most 1, and its least values.
use Prim.Native.Nat.{ℕ, min, ◌+◌, ◌-◌, ◌*◌, ◌/◌, ◌≤◌, ◌<◌}
use mathlib.Core.Path.{◌≡◌, refl}
use mathlib.Core.Bool.{Bool, true, false, cond}
use native.Mathlib.Nat.{le_dest, mul_assoc, mul-one, mul-pos, mul-le-mul_right, min-le_left}
use native.Mathlib.Omega.{arith}
use borrow.Author.Tests.{leb-true, leb-false}
use lib.Dec.{leb, lit<, lit≤}
use Rattle.pair.specs.Rounding.{ceil_div}
use Rattle.pair.specs.Pairs.{◌to◌}
use Rattle.pair.specs.Enclosure.{Inside, AtMost}
use Rattle.pair.specs.declared.Pair.{Pair}
use Rattle.pair.proofs.Numbers.{cross_down, cross_up, cross_mid, sub-mul, pos_left}
use Rattle.pair.proofs.Laws.{box_wider}
use Rattle.section.specs.Working.{scale_of, ρ, ρ_at, ρ_plane, ρ_lip}
use Rattle.section.proofs.Ends.{units_finer, fixed_min_down, fixed_min_up}

-- (u − c) ÷ u² falls from 2 c on: with v = 2 c + h and u = v + d, by multiplying out
falls_at : (c h d : ℕ) → (c + h + d) * ((2 * c + h) * (2 * c + h)) ≤ (c + h) * ((2 * c + h + d) * (2 * c + h + d))
falls_at c h d = omega arith

falls_by : (c h d v u : ℕ) → 2 * c + h ≡ v → v + d ≡ u → (u - c) * (v * v) ≤ (v - c) * (u * u)
falls_by c h d v u e f =
    let g : v - c ≡ c + h = omega arith in
    let k : u - c ≡ c + h + d = omega arith in
    rw (g, k, ← f, ← e) (falls_at c h d)

falls : (c v u : ℕ) → 2 * c ≤ v → v ≤ u → (u - c) * (v * v) ≤ (v - c) * (u * u)
falls c v u p q = falls_by c (le_dest p).0 (le_dest q).0 v u (le_dest p).1 (le_dest q).1

-- ρ at two scales: one law over its limit and over what it takes off, at most half the limit
module _ (limit less : ℕ) (limit⁺ : 0 < limit) (half : 2 * less ≤ limit) (n : ℕ) (n⁺ : 0 < n) (m : ℕ) (m⁺ : 0 < m) where
  -- the formula past the limit, s being the coarser scale
  past_down : (s b B : ℕ) → limit * m < B → B ≤ b * m → (b - less) * (s * s) / (b * b) * m ≤ (B - less * m) * (m * s * (m * s)) / (B * B)
  past_down s b B h k =
      let b⁺ : 0 < b = pos_left b m (omega arith) in
      let B⁺ : 0 < B = omega arith in
      let f : (b * m - less * m) * (B * B) ≤ (B - less * m) * (b * m * (b * m)) = falls (less * m) B (b * m) (omega (arith, mul-le-mul_right m half)) k in
      let g : (b - less) * m * (B * B) ≤ (B - less * m) * (b * m * (b * m)) = rw (sub-mul b less m) f in
      cross_down ((b - less) * (s * s)) (b * b) ((B - less * m) * (m * s * (m * s))) (B * B) m (mul-pos b⁺ b⁺) (mul-pos B⁺ B⁺) (omega (arith, mul-le-mul_right (s * s) g))

  past_up : (s a A : ℕ) → limit < a → a * m ≤ A → ceil_div ((A - less * m) * (m * s * (m * s))) (A * A) ≤ ceil_div ((a - less) * (s * s)) (a * a) * m
  past_up s a A h k =
      let a⁺ : 0 < a = omega arith in
      let A⁺ : 0 < A = omega (arith, mul-pos a⁺ m⁺) in
      let f : (A - less * m) * (a * m * (a * m)) ≤ (a * m - less * m) * (A * A) = falls (less * m) (a * m) A (omega (arith, mul-le-mul_right m half, mul-le-mul_right m h)) k in
      let g : (A - less * m) * (a * m * (a * m)) ≤ (a - less) * m * (A * A) = rw (sub-mul a less m) f in
      cross_up ((a - less) * (s * s)) (a * a) ((A - less * m) * (m * s * (m * s))) (A * A) m (mul-pos a⁺ a⁺) (mul-pos A⁺ A⁺) (omega (arith, mul-le-mul_right (s * s) g))

  past_mid : (s A B : ℕ) → limit * m < A → A ≤ B → (B - less * m) * (s * s) / (B * B) ≤ ceil_div ((A - less * m) * (s * s)) (A * A)
  past_mid s A B h k =
      let A⁺ : 0 < A = omega arith in
      let B⁺ : 0 < B = omega arith in
      cross_mid _ _ _ _ (mul-pos B⁺ B⁺) (mul-pos A⁺ A⁺) (omega (arith, mul-le-mul_right (s * s) (falls (less * m) A B (omega (arith, mul-le-mul_right m half)) k)))

  down_low : (b B : ℕ) → B ≤ b * m → ρ_at n ◌/◌ limit less b * m ≤ ρ_at (m * n) ◌/◌ (limit * m) (less * m) B
  unfolding ρ_at
  down_low b B k = by_outcome (leb b limit) (leb B (limit * m)) refl refl
    where
      by_outcome : (p q : Bool) → leb b limit ≡ p → leb B (limit * m) ≡ q
          → cond p (scale_of n) (min (scale_of n) ((b - less) * (scale_of n * scale_of n) / (b * b))) * m
          ≤ cond q (scale_of (m * n)) (min (scale_of (m * n)) ((B - less * m) * (scale_of (m * n) * scale_of (m * n)) / (B * B)))
      by_outcome true true e f = omega arith
      by_outcome true false e f = absurd (omega (arith, leb-false B (limit * m) f, mul-le-mul_right m (leb-true b limit e)))
      by_outcome false true e f = omega (arith, mul-le-mul_right m (min-le_left (scale_of n) ((b - less) * (scale_of n * scale_of n) / (b * b))))
      by_outcome false false e f = rw (mul_assoc m n 1000000) (fixed_min_down (scale_of n) _ _ m (past_down (scale_of n) b B (leb-false B (limit * m) f) k))

  up_high : (a A : ℕ) → a * m ≤ A → ρ_at (m * n) ceil_div (limit * m) (less * m) A ≤ ρ_at n ceil_div limit less a * m
  unfolding ρ_at
  up_high a A k = by_outcome (leb a limit) (leb A (limit * m)) refl refl
    where
      by_outcome : (p q : Bool) → leb a limit ≡ p → leb A (limit * m) ≡ q
          → cond q (scale_of (m * n)) (min (scale_of (m * n)) (ceil_div ((A - less * m) * (scale_of (m * n) * scale_of (m * n))) (A * A)))
          ≤ cond p (scale_of n) (min (scale_of n) (ceil_div ((a - less) * (scale_of n * scale_of n)) (a * a))) * m
      by_outcome true true e f = omega arith
      by_outcome true false e f = omega arith
      by_outcome false true e f = absurd (omega (arith, leb-true A (limit * m) f, mul-le-mul_right m (leb-false a limit e)))
      by_outcome false false e f = rw (mul_assoc m n 1000000) (fixed_min_up (scale_of n) _ _ m (past_up (scale_of n) a A (leb-false a limit e) k))

  ends_mid : (A B : ℕ) → A ≤ B → ρ_at (m * n) ◌/◌ (limit * m) (less * m) B ≤ ρ_at (m * n) ceil_div (limit * m) (less * m) A
  unfolding ρ_at
  ends_mid A B k = by_outcome (leb A (limit * m)) (leb B (limit * m)) refl refl
    where
      by_outcome : (p q : Bool) → leb A (limit * m) ≡ p → leb B (limit * m) ≡ q
          → cond q (scale_of (m * n)) (min (scale_of (m * n)) ((B - less * m) * (scale_of (m * n) * scale_of (m * n)) / (B * B)))
          ≤ cond p (scale_of (m * n)) (min (scale_of (m * n)) (ceil_div ((A - less * m) * (scale_of (m * n) * scale_of (m * n))) (A * A)))
      by_outcome true true e f = omega arith
      by_outcome true false e f = omega arith
      by_outcome false true e f = absurd (omega (arith, leb-false A (limit * m) e, leb-true B (limit * m) f))
      by_outcome false false e f = omega (arith, past_mid (scale_of (m * n)) A B (leb-false A (limit * m) e) k)

  pub ρ-Inside : {U u : Pair} → Inside m U u → Inside m (ρ (m * n) (limit * m) (less * m) U) (ρ n limit less u)
  unfolding ρ
  ρ-Inside {U} {u} i = record { low = down_low u.hi U.hi i.high; mid = ends_mid U.lo U.hi i.mid; high = up_high u.lo U.lo i.low }

pub ρ_plane-Inside : {n m : ℕ} {U u : Pair} → 0 < n → 0 < m → Inside m U u → Inside m (ρ_plane (m * n) U) (ρ_plane n u)
unfolding ρ_plane
ρ_plane-Inside {n} {m} n⁺ m⁺ i = rw (units_finer m n 673 1000 refl, units_finer m n 22 100 refl) (ρ-Inside _ _ (omega arith) (omega arith) n n⁺ m m⁺ i)

pub ρ_lip-Inside : {n m : ℕ} {U u : Pair} → 0 < n → 0 < m → Inside m U u → Inside m (ρ_lip (m * n) U) (ρ_lip n u)
unfolding ρ_lip
ρ_lip-Inside {n} {m} n⁺ m⁺ i = rw (units_finer m n 748 1000 refl, units_finer m n 188 1000 refl) (ρ-Inside _ _ (omega arith) (omega arith) n n⁺ m m⁺ i)

-- ρ is at most 1

ρ_most : (n limit less : ℕ) (u : Pair) → AtMost (n * 1000000) (ρ n limit less u)
unfolding ρ ρ_at
ρ_most n limit less u = record { high = by_outcome (leb u.lo limit) }
  where
    by_outcome : (p : Bool) → cond p (scale_of n) (min (scale_of n) (ceil_div ((u.lo - less) * (scale_of n * scale_of n)) (u.lo * u.lo))) ≤ scale_of n
    by_outcome true = omega arith
    by_outcome false = min-le_left _ _

ρ_plane_most : (n : ℕ) (u : Pair) → AtMost (n * 1000000) (ρ_plane n u)
unfolding ρ_plane
ρ_plane_most n u = ρ_most n _ _ u

ρ_lip_most : (n : ℕ) (u : Pair) → AtMost (n * 1000000) (ρ_lip n u)
unfolding ρ_lip
ρ_lip_most n u = ρ_most n _ _ u

-- boxes, in millionths: ρ of a slenderness up to b is at least e, ρ at b

plane_box : {n a b : ℕ} {U : Pair} (e : ℕ) → 0 < n → e ≤ ρ_at 1 ◌/◌ 673000 220000 b → Inside n U (a to b) → Inside n (ρ_plane n U) (e to 1000000)
unfolding ρ_plane ρ
plane_box {n} {a} {b} e n⁺ h i =
    box_wider e 1000000 (rw (mul-one n) at (ρ_plane-Inside {n = 1} (lit< tt) n⁺ i)) (record { low = h }) (ρ_plane_most 1 (a to b))

lip_box : {n a b : ℕ} {U : Pair} (e : ℕ) → 0 < n → e ≤ ρ_at 1 ◌/◌ 748000 188000 b → Inside n U (a to b) → Inside n (ρ_lip n U) (e to 1000000)
unfolding ρ_lip ρ
lip_box {n} {a} {b} e n⁺ h i =
    box_wider e 1000000 (rw (mul-one n) at (ρ_lip-Inside {n = 1} (lit< tt) n⁺ i)) (record { low = h }) (ρ_lip_most 1 (a to b))

-- flanges: ρ is at least 0.48 up to 1.8235
pub ρ_flange_box : {n a : ℕ} {U : Pair} → 0 < n → Inside n U (a to 1823500) → Inside n (ρ_plane n U) (480000 to 1000000)
unfolding ρ_at
ρ_flange_box n⁺ i = plane_box 480000 n⁺ (lit≤ tt) i

-- web: at least 0.06 up to 15.2
pub ρ_web_box : {n a : ℕ} {U : Pair} → 0 < n → Inside n U (a to 15200000) → Inside n (ρ_plane n U) (60000 to 1000000)
unfolding ρ_at
ρ_web_box n⁺ i = plane_box 60000 n⁺ (lit≤ tt) i

-- lips: at least 0.3 up to 3.0952
pub ρ_lip_box : {n a : ℕ} {U : Pair} → 0 < n → Inside n U (a to 3095200) → Inside n (ρ_lip n U) (300000 to 1000000)
unfolding ρ_at
ρ_lip_box n⁺ i = lip_box 300000 n⁺ (lit≤ tt) i
