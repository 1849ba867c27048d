-- What the tests of crate pair_checked show: what the operations ask for.
use mathlib.Core.Path.{◌≡◌}
use mathlib.Core.Bool.{true, ◌&&◌}
use Prim.Native.Nat.{ℕ, ◌+◌, ◌*◌, ◌%◌, ◌^◌, ◌<◌}
use native.Mathlib.Nat.{lt_of_le_of_lt}
use native.Mathlib.Omega.{arith}
use lib.Dec.{ltb}
use lib.IntN.{ℤ, nat_abs, ◌+ℤ◌}
use mir.Syntax.{w128}
use mir.Val.{SFits}
use Rattle.std.proofs.lemmas.Int.{to_z-of_z, fits_signed_from_abs}
use Rattle.pair.specs.Pairs.{exact}
use Rattle.pair.specs.Fits.{word, root_fits}
use Rattle.pair.proofs.Fitting.{root_out}
use Rattle.pair.proofs.Numbers.{plus_size}
use Rattle.pair_checked.proofs.Deciding.{quotient_out}

pub quotient_fits : (d x : ℕ) → (ltb 0 d && word x) ≡ true → x < 2 ^ 64
quotient_fits d x e = (quotient_out d x e).1

pub ruleset quotients = (quotient_fits)

pub root_scale : (s v : ℕ) → root_fits s (exact v) ≡ true → s % 64 ≡ 0
root_scale s v e = (root_out s (exact v) e).1

pub root_small : (s v : ℕ) → root_fits s (exact v) ≡ true → v * s < 2 ^ 70
unfolding exact
root_small s v e = (root_out s (exact v) e).2

pub ruleset roots = (root_scale, root_small)

pub sum_fits : (x y : ℤ) → word (nat_abs x + nat_abs y) ≡ true → SFits w128 (x +ℤ y)
sum_fits x y e =
    let small : nat_abs (x +ℤ y) < 2 ^ 64 = lt_of_le_of_lt (plus_size x y) (quotient_fits 1 (nat_abs x + nat_abs y) e) in
    fits_signed_from_abs w128 _ (omega (arith, small))

pub ruleset sums = (to_z-of_z, sum_fits)
