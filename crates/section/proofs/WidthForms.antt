-- u² as the code works it.
use mathlib.Core.Path.{◌≡◌, refl}
use mathlib.Core.Bool.{true}
use Prim.Native.Nat.{ℕ, ◌<◌}
use lib.Dec.{lit<}
use Rattle.pair.specs.Fits.{over_fits, over_ratio_fits}
use Rattle.pair.specs.declared.Pair.{Pair}
use Rattle.pair.proofs.Laws.{over_ratio_fits_lem}
use Rattle.section.specs.Working.{scale_of, constant, whole, ◌⊗◌, ◌⊘◌, u²}
use Rattle.section.proofs.Ends.{constant_exact}

pub slenderness_is : (n : ℕ) (t fyb k w : Pair) → ◌⊘◌ n (◌⊘◌ n (◌⊗◌ n (◌⊗◌ n (◌⊘◌ n w t) (◌⊘◌ n w t)) fyb) (constant n 1895416 10)) k ≡ u² n t fyb k w
unfolding u²
slenderness_is n t fyb k w = refl

-- 4 is a whole number of units at every scale
pub four_divides : (n : ℕ) (x : Pair) → 0 < n → over_fits (scale_of n) x (whole n 4) ≡ true → over_ratio_fits (scale_of n) x 4 1 ≡ true
four_divides n x n⁺ h = over_ratio_fits_lem _ _ 4 1 (constant_exact 4 1 n⁺ (lit< tt) refl) h
