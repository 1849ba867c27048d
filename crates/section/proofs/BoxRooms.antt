-- Boxes, in millionths: of constants, of halves, and wider ones; and the room of one operation from a box of its result.
use Prim.Native.Nat.{ℕ, ◌+◌, ◌*◌, ◌%◌, ◌≤◌, ◌<◌}
use mathlib.Core.Path.{◌≡◌, refl}
use mathlib.Core.Bool.{true}
use native.Mathlib.Nat.{le_refl, le_trans, mul-le-mul, mul-le-mul_right, lt_of_le_of_lt, max-le}
use native.Mathlib.Omega.{arith}
use lib.Dec.{lit<}
use Rattle.pair.specs.Pairs.{◌to◌, plus, times, over}
use Rattle.pair.specs.SignedPairs.{SignedPair, signed, difference, signed_plus}
use Rattle.pair.specs.Fits.{ratio_fits, plus_fits, times_fits, over_fits, times_ratio_fits, over_ratio_fits, root_fits, signed_plus_fits}
use Rattle.pair.specs.Enclosure.{Inside, Positive, Reaches}
use Rattle.pair.specs.declared.Pair.{Pair}
use Rattle.pair.proofs.Laws.{times_comm, fine_positive, Inside-Ordered, Positive-Inside, ratio-Positive, ratio-Ordered, ratio_box, ratio_fits_lem, plus_fits_lem, times_fits_lem, over_fits_lem, over_box, times_ratio_fits_lem, over_ratio_fits_lem, root_fits_lem, box_wider, signed-Reaches, difference-Reaches, signed_plus-Reaches, signed_plus_fits_lem}
use Rattle.section.specs.Working.{scale_of, constant, mm, whole}
use Rattle.section.specs.Parts.{Fine}
use Rattle.section.specs.Room.{Slim, Factor}
use Rattle.section.proofs.Ends.{constant_exact, scale, scale_most, word_at}

-- a box inside a wider one
pub wider : {n a b : ℕ} {p : Pair} (a' b' : ℕ) → a' ≤ a → b ≤ b' → Inside n p (a to b) → Inside n p (a' to b')
wider a' b' h k i = box_wider a' b' i (record { low = h }) (record { high = k })

module _ {n : ℕ} (f : Fine n) where
  pub box_positive : {a b : ℕ} {p : Pair} → 0 < a → Inside n p (a to b) → Positive p
  box_positive h i = Positive-Inside f.some i (record { low = h })

  pub Factor-box : {x : Pair} → Factor n x → Inside n x (0 to 1000000)
  Factor-box {x} h = record { low = omega arith; mid = h.order; high = omega (arith, h.most) }

  pub box_factor : {x : Pair} → Inside n x (0 to 1000000) → Factor n x
  box_factor {x} i = record { order = i.mid; most = omega (arith, i.high) }

  pub box_slim : {a b : ℕ} {u : Pair} → Inside n u (a to b) → b ≤ 40000000 → Slim n u
  box_slim i h = record { order = i.mid; most = le_trans i.high (mul-le-mul_right n h) }

  -- sheet numbers and written constants

  pub constant_box : (a b v : ℕ) → 0 < b → v * b ≡ a * 1000000 → Inside n (constant n a b) (v to v)
  constant_box a b v b⁺ e = ratio_box a b v (scale f) b⁺ e

  pub mm_box : (v : ℕ) → Inside n (mm n v) (10000 * v to 10000 * v)
  mm_box v = constant_box v 100 (10000 * v) (lit< tt) (omega arith)

  pub whole_box : (v : ℕ) → Inside n (whole n v) (1000000 * v to 1000000 * v)
  whole_box v = constant_box v 1 (1000000 * v) (lit< tt) (omega arith)

  pub one_box : Inside n (whole n 1) (0 to 1000000)
  one_box = wider 0 1000000 (omega arith) (omega arith) (whole_box 1)

  pub ratio_room : (a b : ℕ) → 0 < b → a ≤ 1000000 → ratio_fits (scale_of n) a b ≡ true
  ratio_room a b b⁺ h = ratio_fits_lem (scale_of n) a b b⁺ (lt_of_le_of_lt (mul-le-mul h (scale_most f)) (lit< tt))

  -- operations

  pub plus_room : (p q : Pair) {a b : ℕ} → Inside n (plus p q) (a to b) → b ≤ 1844674407370955161 → plus_fits p q ≡ true
  plus_room p q {b = b} i h = plus_fits_lem p q i (word_at b f h)

  pub times_room : (p q : Pair) {a b : ℕ} → Inside n (times (scale_of n) p q) (a to b) → b ≤ 1844674407370955161 → times_fits (scale_of n) p q ≡ true
  times_room p q {b = b} i h = times_fits_lem (scale_of n) p q (fine_positive (scale f)) i (word_at b f h)

  pub over_room : (p q : Pair) {a b c d : ℕ} → 0 < c → Inside n q (c to d) → Inside n (over (scale_of n) p q) (a to b) → b ≤ 1844674407370955161 → over_fits (scale_of n) p q ≡ true
  over_room p q {b = b} h j i k = over_fits_lem (scale_of n) p q (box_positive h j) (Inside-Ordered j) i (word_at b f k)

  pub root_room : {p : Pair} {a b : ℕ} → Inside n p (a to b) → b ≤ 10000000000000 → root_fits (scale_of n) p ≡ true
  root_room i h = root_fits_lem (scale_of n) (omega arith) i (lt_of_le_of_lt (mul-le-mul (mul-le-mul h f.most) (scale_most f)) (lit< tt))

  -- with a constant a ÷ b, as second factor, as first factor and as divisor

  pub times_by : (p : Pair) (a b : ℕ) {v w : ℕ} → 0 < b → 1000000 % b ≡ 0 → Inside n (times (scale_of n) p (constant n a b)) (v to w) → w ≤ 1844674407370955161
      → times_ratio_fits (scale_of n) p a b ≡ true
  times_by p a b b⁺ e i h = times_ratio_fits_lem (scale_of n) p a b (constant_exact a b f.some b⁺ e) (times_room p _ i h)

  pub by_times : (p : Pair) (a b : ℕ) {v w : ℕ} → 0 < b → 1000000 % b ≡ 0 → Inside n (times (scale_of n) (constant n a b) p) (v to w) → w ≤ 1844674407370955161
      → times_ratio_fits (scale_of n) p a b ≡ true
  by_times p a b b⁺ e i h = times_by p a b b⁺ e (rw (times_comm (scale_of n) (constant n a b) p) at i) h

  pub over_by : (p : Pair) (a b : ℕ) {v w : ℕ} → 0 < a → 0 < b → 1000000 % b ≡ 0 → Inside n (over (scale_of n) p (constant n a b)) (v to w) → w ≤ 1844674407370955161
      → over_ratio_fits (scale_of n) p a b ≡ true
  over_by p a b {w = w} a⁺ b⁺ e i h =
      let x = constant_exact a b f.some b⁺ e in
      over_ratio_fits_lem (scale_of n) p a b x (over_fits_lem (scale_of n) p _ (ratio-Positive (scale_of n) a b a⁺ x) (ratio-Ordered (scale_of n) a b) i (word_at w f h))

  -- half of a value

  pub half_box : (e g : ℕ) {a b : ℕ} {p : Pair} → Inside n p (a to b) → 2 * e ≤ a → b ≤ 2 * g → Inside n (over (scale_of n) p (whole n 2)) (e to g)
  half_box e g i l h = over_box e g (scale f) (lit< tt) (lit< tt) i (whole_box 2) (omega arith) (omega arith)

  pub over_two : (p : Pair) {a b : ℕ} → Inside n p (a to b) → b ≤ 1844674407370955161 → over_ratio_fits (scale_of n) p 2 1 ≡ true
  over_two p {b = b} i h = over_by p 2 1 (lit< tt) (lit< tt) refl (half_box 0 b i (omega arith) (omega arith)) h

  -- how far a value none of which lies below zero reaches, a difference, which may lie below, and a sum; and the room of a sum

  pub signed_reach : {a b : ℕ} {p : Pair} → Inside n p (a to b) → Reaches (b * n) (signed p)
  signed_reach i = signed-Reaches (Inside-Ordered i) (record { high = i.high })

  pub difference_reach : {a b c : ℕ} {p q : Pair} → Inside n p (a to b) → Inside n q (c to b) → Reaches (b * n) (difference p q)
  difference_reach {b = b} i j =
      let reach = difference-Reaches {a = b * n} {b = b * n} (Inside-Ordered i) (Inside-Ordered j) (record { high = i.high }) (record { high = j.high }) in
      record { size = le_trans reach.size (max-le (le_refl (b * n)) (le_refl (b * n))) }

  pub signed_plus_reach : (a b : ℕ) {x y : SignedPair} → Reaches (a * n) x → Reaches (b * n) y → Reaches ((a + b) * n) (signed_plus x y)
  signed_plus_reach a b r t = record { size = le_trans (signed_plus-Reaches r t).size (omega arith) }

  pub signed_plus_room : (a b : ℕ) {x y : SignedPair} → Reaches (a * n) x → Reaches (b * n) y → a + b ≤ 1844674407370955161 → signed_plus_fits x y ≡ true
  signed_plus_room a b r t h = signed_plus_fits_lem r t (omega (arith, word_at (a + b) f h))
