-- Products and quotients of a pair: the lower end times n ÷ d rounded down, and the upper end times N ÷ D rounded up. What the two roundings ask,
-- and that they are the result.
use mathlib.Core.Path.{◌≡◌, refl, ◌∙◌}
use mathlib.Core.Bool.{true}
use Prim.Native.Nat.{ℕ, ◌*◌, ◌/◌, ◌^◌, ◌<◌}
use native.Mathlib.Nat.{lt_of_le_of_lt, le_of_eq}
use Rattle.pair.specs.Rounding.{ceil_div}
use Rattle.pair.specs.Pairs.{times, over}
use Rattle.pair.specs.Fits.{times_fits, over_fits}
use Rattle.pair.specs.declared.Pair.{Pair}
use Rattle.pair.proofs.Fitting.{Words, times_out, over_out, times_some, over_some, over_some_above}

pub record Outward (p : Pair) (n d N D : ℕ) (r : Pair) : Type 0 where
  pub low⁺ : 0 < d
  pub high⁺ : 0 < D
  pub low : p.lo * n / d ≡ r.lo
  pub high : ceil_div (p.hi * N) D ≡ r.hi
  pub fits : Words r

module _ {p : Pair} {n d N D : ℕ} {r : Pair} (o : Outward p n d N D r) where
  pub floor_asked : (0 < d) × (p.lo * n / d < 2 ^ 64)
  floor_asked = (o.low⁺, lt_of_le_of_lt (le_of_eq o.low) o.fits.low)

  pub ceil_asked : (0 < D) × (ceil_div (p.hi * N) D < 2 ^ 64)
  ceil_asked = (o.high⁺, lt_of_le_of_lt (le_of_eq o.high) o.fits.high)

  pub outward_is : {x : Pair} → x.lo ≡ p.lo * n / d → x.hi ≡ ceil_div (p.hi * N) D → x ≡ r
  outward_is e f = λ i. record { lo = (e ∙ o.low) i; hi = (f ∙ o.high) i }

pub times_outward : (s : ℕ) (p q : Pair) → times_fits s p q ≡ true → Outward p q.lo s q.hi s (times s p q)
unfolding times
times_outward s p q e = let fit = times_out s p q e in record { low⁺ = fit.0; high⁺ = fit.0; low = refl; high = refl; fits = fit.1 }

pub over_outward : (s : ℕ) (p q : Pair) → over_fits s p q ≡ true → Outward p s q.hi s q.lo (over s p q)
unfolding over
over_outward s p q e = let fit = over_out s p q e in record { low⁺ = fit.1; high⁺ = fit.0; low = refl; high = refl; fits = fit.2 }

pub ruleset product_outward = (times_outward, outward_is, times_some)

pub ruleset quotient_outward = (over_outward, outward_is, over_some, over_some_above)
