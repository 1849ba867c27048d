-- Whole numbers that may lie below zero: the integers, their order, and rounding toward minus and plus infinity, never toward zero.
use Rattle.std.specs.Prelude.{ℕ, suc, ◌+◌, ◌/◌, ◌≤◌, Bool, cond, leb, ℤ, pos, negsuc, neg_ℤ}
use Rattle.pair.specs.Rounding.{ceil_div}

-- what an integer is above zero, and what it is below: x is above x less below x
abbrev pub above : ℤ → ℕ
above (pos a) = a
above (negsuc a) = 0

abbrev pub below : ℤ → ℕ
below (pos a) = 0
below (negsuc a) = suc a

-- the integers' order
infix 4 ◌≼ℤ◌
pub record ◌≼ℤ◌ (x y : ℤ) : Type 0 where
  pub order : above x + below y ≤ above y + below x

unfoldable pub leb_ℤ : ℤ → ℤ → Bool
leb_ℤ x y = leb (above x + below y) (above y + below x)

unfoldable pub least : ℤ → ℤ → ℤ
least x y = cond (leb_ℤ x y) x y

unfoldable pub greatest : ℤ → ℤ → ℤ
greatest x y = cond (leb_ℤ x y) y x

-- x ÷ d rounded toward minus infinity
unfoldable pub floor_over : ℤ → ℕ → ℤ
floor_over (pos a) d = pos (a / d)
floor_over (negsuc a) d = neg_ℤ (pos (ceil_div (suc a) d))

-- x ÷ d rounded toward plus infinity
unfoldable pub ceil_over : ℤ → ℕ → ℤ
ceil_over (pos a) d = pos (ceil_div a d)
ceil_over (negsuc a) d = neg_ℤ (pos (suc a / d))
