-- Roots of v × s and of v × s × s, which pass a word: s is a multiple of 64, and the last digits are 0.
use mathlib.Core.Path.{◌≡◌, refl, ap}
use Prim.Native.Nat.{ℕ, zero, suc, ◌*◌, ◌/◌, ◌%◌, ◌^◌, ◌<◌}
use native.Mathlib.Nat.{mul-le-mul_left}
use native.Mathlib.Omega.{arith}
use Rattle.pair.specs.Roots.{cube_taken}
use Rattle.pair.specs.declared.roots.Cube.{Cube}
use Rattle.pair.proofs.Extraction.{cube_lt, cube_rooted}

multiple : (s : ℕ) → s % 64 ≡ 0 → s / 64 * 64 ≡ s
multiple s e = omega arith

pub by_64 : (v s : ℕ) → s % 64 ≡ 0 → v * (s / 64) * 64 ≡ v * s
by_64 v s e = omega (arith, ap (λ (x : ℕ). v * x) (multiple s e))

pub by_4096 : (v s : ℕ) → s % 64 ≡ 0 → v * (s / 64) * (s / 64) * 4096 ≡ v * (s * s)
by_4096 v s e = omega (arith, ap (λ (x : ℕ). v * (x * x)) (multiple s e))

-- a part of a product that fits
pub factor_fits : (v q : ℕ) {b : ℕ} → v * q * q < b → v * q < b
factor_fits v zero h = omega arith
factor_fits v (suc q) h = omega (arith, mul-le-mul_left {m = 1} {n = suc q} (v * suc q) (omega arith))

-- a step asks for a root below this
pub cube_room : (t : Cube) → cube_taken t < 2 ^ 78 → t.root < 2 ^ 28
cube_room t h = omega (arith, cube_lt (2 ^ 26) h (cube_rooted t refl))
