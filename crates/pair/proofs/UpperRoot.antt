-- The upper end of a root from the lower end's: sizes, and the step of one division.
use mathlib.Core.Path.{◌≡◌, ap, ◌∙◌}
use Prim.Native.Nat.{ℕ, ◌+◌, ◌-◌, ◌*◌, ◌/◌, ◌^◌, ◌≤◌, ◌<◌}
use native.Mathlib.Nat.{lt_of_le_of_lt, mul-le-mul, mul-le-mul_right, lt-div-mul-add}
use native.Mathlib.Omega.{arith}
use Rattle.pair.specs.Remainders.{SquareRooted, CubeRooted}
use Rattle.pair.specs.Rounding.{root_up}
use Rattle.pair.proofs.Quotients.{sub-mul}
use Rattle.pair.proofs.Extraction.{square_lt, square_restated, square_up_at, square_up_by, cube_lt, cube_restated, cube_up_at, cube_up_by}

-- a quotient rounded up covers what it divides
covers : (n k : ℕ) → n ≤ (n + k) / (k + 1) * (k + 1)
covers n k = omega (arith, lt-div-mul-add {a = n + k} {b = k + 1} (omega arith))

covered : (n k : ℕ) {d : ℕ} → d ≡ (n + k) / (k + 1) → n ≤ d * (k + 1)
covered n k e = omega (arith, covers n k, ap (λ (x : ℕ). x * (k + 1)) e)

parts : {lo hi : ℕ} (s : ℕ) → lo ≤ hi → lo * s + (hi - lo) * s ≡ hi * s
parts {lo} {hi} s o = omega (arith, sub-mul hi lo s, mul-le-mul_right s o)

pub square_fits : {n r l : ℕ} → n < 2 ^ 70 → SquareRooted n r l → r < 2 ^ 35
square_fits h i = square_lt (2 ^ 35) h i

module _ (s : ℕ) {lo hi r l : ℕ} (o : lo ≤ hi) (small : hi * s < 2 ^ 70) (i : SquareRooted (lo * s) r l) where
  pub lower_square_fits : r < 2 ^ 35
  lower_square_fits = square_fits (lt_of_le_of_lt (mul-le-mul_right s o) small) i

  pub square_step_fits : (d : ℕ) → d < 2 ^ 20 → (d - 1) * (r * 2 + (d - 1)) < 2 ^ 62
  square_step_fits d h =
      omega (arith, mul-le-mul {n₁ = d - 1} {m₁ = r * 2 + (d - 1)} {n₂ = 2 ^ 20} {m₂ = 2 ^ 37} (omega arith) (omega (arith, lower_square_fits)))

  pub square_nothing_left : 0 ≡ ((hi - lo) * s + l + r * 2) / (r * 2 + 1) → r ≡ root_up 2 (hi * s)
  square_nothing_left e =
      let none : (hi - lo) * s + l ≡ 0 = omega (arith, covered ((hi - lo) * s + l) (r * 2) e) in
      square_up_at {l = l} (square_restated (omega (arith, parts s o)) i) (omega arith)

  pub square_stepped : (d : ℕ) → d ≡ ((hi - lo) * s + l + r * 2) / (r * 2 + 1) → (d ≡ 0 → ⊥) → (d - 1) * (r * 2 + (d - 1)) < (hi - lo) * s + l → r + d ≡ root_up 2 (hi * s)
  square_stepped d e p short =
      square_up_by d ((hi - lo) * s) i (omega arith) short (covered ((hi - lo) * s + l) (r * 2) e) ∙ ap (λ (x : ℕ). root_up 2 x) (parts s o)

pub cube_fits : {n r w l : ℕ} → n < 2 ^ 78 → CubeRooted n r w l → r < 2 ^ 26
cube_fits h i = cube_lt (2 ^ 26) h i

module _ (s : ℕ) {lo hi r w l : ℕ} (o : lo ≤ hi) (small : hi * (s * s) < 2 ^ 76) (i : CubeRooted (lo * (s * s)) r w l) where
  pub lower_cube_fits : (r < 2 ^ 26) × (w ≤ 3 * 2 ^ 52)
  lower_cube_fits =
      let root : r < 2 ^ 26 = cube_fits (omega (arith, mul-le-mul_right (s * s) o)) i in
      (root, omega (arith, i.triple, mul-le-mul {n₁ = r} {m₁ = r} {n₂ = 2 ^ 26} {m₂ = 2 ^ 26} (omega arith) (omega arith)))

  pub scale_fits : s < 2 ^ 24 → s * s ≤ 2 ^ 48
  scale_fits k = omega (arith, mul-le-mul {n₁ = s} {m₁ = s} {n₂ = 2 ^ 24} {m₂ = 2 ^ 24} (omega arith) (omega arith))

  pub cube_left_fits : hi - lo < 2 ^ 14 → s < 2 ^ 24 → (hi - lo) * (s * s) + l + (w + r * 3) < 2 ^ 63
  cube_left_fits h k =
      omega (arith, mul-le-mul {n₁ = hi - lo} {m₁ = s * s} {n₂ = 2 ^ 14} {m₂ = 2 ^ 48} (omega arith) (scale_fits k), i.small, lower_cube_fits)

  cube_inner : (e : ℕ) → e < 2 ^ 10 → w + e * (r * 3 + e) ≤ 13 * 2 ^ 50
  cube_inner e h =
      omega (arith, mul-le-mul {n₁ = e} {m₁ = r * 3 + e} {n₂ = 2 ^ 10} {m₂ = 2 ^ 29} (omega arith) (omega (arith, lower_cube_fits)), lower_cube_fits)

  pub cube_first_fits : (e : ℕ) → e < 2 ^ 10 → e * (r * 3 + e) < 2 ^ 64
  cube_first_fits e h = omega (arith, cube_inner e h)

  pub cube_inner_fits : (e : ℕ) → e < 2 ^ 10 → w + e * (r * 3 + e) < 2 ^ 64
  cube_inner_fits e h = omega (arith, cube_inner e h)

  pub cube_step_fits : (e : ℕ) → e < 2 ^ 10 → e * (w + e * (r * 3 + e)) < 2 ^ 64
  cube_step_fits e h =
      lt_of_le_of_lt (mul-le-mul {n₁ = e} {m₁ = w + e * (r * 3 + e)} {n₂ = 2 ^ 10} {m₂ = 13 * 2 ^ 50} (omega arith) (cube_inner e h)) (omega arith)

  pub cube_nothing_left : 0 ≡ ((hi - lo) * (s * s) + l + (w + r * 3)) / (w + r * 3 + 1) → r ≡ root_up 3 (hi * (s * s))
  cube_nothing_left e =
      let none : (hi - lo) * (s * s) + l ≡ 0 = omega (arith, covered ((hi - lo) * (s * s) + l) (w + r * 3) e) in
      let same : lo * (s * s) ≡ hi * (s * s) = omega (arith, parts (s * s) o) in
      cube_up_at {l = l} (cube_restated same i) (omega arith)

  pub cube_stepped : (d : ℕ) → d ≡ ((hi - lo) * (s * s) + l + (w + r * 3)) / (w + r * 3 + 1) → (d ≡ 0 → ⊥) → (d - 1) * (w + (d - 1) * (r * 3 + (d - 1))) < (hi - lo) * (s * s) + l → r + d ≡ root_up 3 (hi * (s * s))
  cube_stepped d e p short =
      cube_up_by d ((hi - lo) * (s * s)) i (omega arith) short (covered ((hi - lo) * (s * s) + l) (w + r * 3) e) ∙ ap (λ (x : ℕ). root_up 3 x) (parts (s * s) o)
