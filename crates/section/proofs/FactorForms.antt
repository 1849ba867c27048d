-- χ at the ends, as the code works it.
use mathlib.Core.Path.{◌≡◌, refl, ap, ◌∙◌}
use Prim.Native.Nat.{ℕ, ◌-◌, ◌*◌, ◌/◌, ◌≤◌, ◌<◌, min, max}
use native.Mathlib.Nat.{min_comm, max_comm}
use native.Mathlib.Omega.{arith}
use borrow.Author.Tests.{le-leb, lt-leb, lt-ltb, le-ltb}
use Rattle.pair.specs.Rounding.{ceil_div}
use Rattle.pair.specs.Pairs.{◌to◌}
use Rattle.pair.specs.declared.Pair.{Pair}
use Rattle.section.specs.Working.{scale_of, units, χ_before, χ_from, χ}

module _ (n u : ℕ) where
  -- rounded down or up
  module _ (quotient : ℕ → ℕ → ℕ) where
    pub before_full : u ≤ n * 650000 → scale_of n ≡ χ_before n quotient u
    unfolding χ_before
    before_full h = rw (le-leb u (units n 65 100) (omega arith))

    pub before_is : n * 650000 < u → min (scale_of n) (quotient (1470 * scale_of n - 723 * u) 1000) ≡ χ_before n quotient u
    unfolding χ_before
    before_is h = rw (lt-leb u (units n 65 100) (omega arith))

    pub past_is : quotient (66 * (scale_of n * scale_of n)) (100 * u) ≡ χ_from n quotient u
    unfolding χ_from
    past_is = refl

-- 0.47226, in units
pub units_47226 : (n : ℕ) → n * 472260 ≡ units n 47226 100000
units_47226 n = omega arith

module _ (n : ℕ) (u : Pair) where
  pub factor_below : u.hi < n * 1380000 → (χ_before n ◌/◌ u.hi to χ_before n ceil_div u.lo) ≡ χ n u
  unfolding χ
  factor_below h = rw (lt-ltb u.hi (units n 138 100) (omega arith))

  pub factor_beyond : n * 1380000 ≤ u.lo → u.lo ≤ u.hi → (χ_from n ◌/◌ u.hi to χ_from n ceil_div u.lo) ≡ χ n u
  unfolding χ
  factor_beyond h o = rw (le-ltb u.hi (units n 138 100) (omega arith), le-ltb u.lo (units n 138 100) (omega arith))

  pub factor_across : u.lo < n * 1380000 → n * 1380000 ≤ u.hi
      → (min (χ_from n ◌/◌ u.hi) (n * 472260) to max (χ_before n ceil_div u.lo) (ceil_div (66 * n * 1000000) 138)) ≡ χ n u
  unfolding χ
  factor_across h k =
      rw (le-ltb u.hi (units n 138 100) (omega arith), lt-ltb u.lo (units n 138 100) (omega arith))
      (λ i. (low i to high i))
    where
      low : min (χ_from n ◌/◌ u.hi) (n * 472260) ≡ min (units n 47226 100000) (χ_from n ◌/◌ u.hi)
      low = min_comm _ _ ∙ ap (λ (x : ℕ). min x (χ_from n ◌/◌ u.hi)) (units_47226 n)

      high : max (χ_before n ceil_div u.lo) (ceil_div (66 * n * 1000000) 138) ≡ max (ceil_div (66 * scale_of n) 138) (χ_before n ceil_div u.lo)
      high = let even : 66 * n * 1000000 ≡ 66 * scale_of n = omega arith in max_comm _ _ ∙ ap (λ (x : ℕ). max (ceil_div x 138) (χ_before n ceil_div u.lo)) even
