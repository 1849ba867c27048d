-- What each operation asks of its operands (specs/Fits), taken apart.
use mathlib.Core.Path.{◌≡◌}
use mathlib.Core.Bool.{true, ◌&&◌}
use Prim.Native.Nat.{ℕ, ◌*◌, ◌%◌, ◌^◌, ◌≤◌, ◌<◌}
use lib.Dec.{leb, ltb, eqb}
use borrow.Author.Tests.{leb-true, ltb-true, eqb-true}
use Rattle.pair.specs.Pairs.{plus, times, over, ratio}
use Rattle.pair.specs.Fits.{word, words, ordered, ratio_fits, plus_fits, minus_fits, times_fits, over_fits, exact_ratio, times_ratio_fits, over_ratio_fits, root_fits, cube_root_fits}
use Rattle.pair.specs.declared.Pair.{Pair}
use Rattle.std.proofs.lemmas.Bool.{and_parts}

pub record Words (p : Pair) : Type 0 where
  pub low : p.lo < 2 ^ 64
  pub high : p.hi < 2 ^ 64

pub words_out : (p : Pair) → words p ≡ true → Words p
unfolding words word
words_out p e = record { low = ltb-true _ _ (and_parts _ _ e).0; high = ltb-true _ _ (and_parts (ltb p.lo (2 ^ 64)) _ e).1 }

pub plus_out : (p q : Pair) → plus_fits p q ≡ true → Words (plus p q)
unfolding plus_fits
plus_out p q e = words_out _ e

pub minus_out : (p q : Pair) → minus_fits p q ≡ true → (q.hi ≤ p.lo) × (q.lo ≤ p.hi)
unfolding minus_fits
minus_out p q e = (leb-true _ _ (and_parts _ _ e).0, leb-true _ _ (and_parts (leb q.hi p.lo) _ e).1)

pub times_out : (s : ℕ) (p q : Pair) → times_fits s p q ≡ true → (0 < s) × Words (times s p q)
unfolding times_fits
times_out s p q e = (ltb-true _ _ (and_parts _ _ e).0, words_out _ (and_parts (ltb 0 s) _ e).1)

pub over_out : (s : ℕ) (p q : Pair) → over_fits s p q ≡ true → (0 < q.lo) × (0 < q.hi) × Words (over s p q)
unfolding over_fits
over_out s p q e =
    let both = (and_parts (ltb 0 q.lo && ltb 0 q.hi) _ e).0 in
    (ltb-true _ _ (and_parts _ _ both).0, ltb-true _ _ (and_parts (ltb 0 q.lo) _ both).1, words_out _ (and_parts (ltb 0 q.lo && ltb 0 q.hi) _ e).1)

pub over_some : (s : ℕ) (p q : Pair) → over_fits s p q ≡ true → 0 < q.lo
over_some s p q e = (over_out s p q e).0

pub over_some_above : (s : ℕ) (p q : Pair) → over_fits s p q ≡ true → 0 < q.hi
over_some_above s p q e = (over_out s p q e).1

pub times_some : (s : ℕ) (p q : Pair) → times_fits s p q ≡ true → 0 < s
times_some s p q e = (times_out s p q e).0

pub ratio_out : (s a b : ℕ) → exact_ratio s a b ≡ true → (0 < s) × (0 < b) × (a * s % b ≡ 0)
unfolding exact_ratio
ratio_out s a b e =
    let both = (and_parts (ltb 0 s && ltb 0 b) _ e).0 in
    (ltb-true _ _ (and_parts _ _ both).0, ltb-true _ _ (and_parts (ltb 0 s) _ both).1, eqb-true _ _ (and_parts (ltb 0 s && ltb 0 b) _ e).1)

pub exact_out : (s a b : ℕ) → ratio_fits s a b ≡ true → (0 < b) × (a * s < 2 ^ 64)
unfolding ratio_fits word
exact_out s a b e = (ltb-true _ _ (and_parts _ _ e).0, ltb-true _ _ (and_parts (ltb 0 b) _ e).1)

pub times_ratio_out : (s : ℕ) (p : Pair) (a b : ℕ) → times_ratio_fits s p a b ≡ true → (exact_ratio s a b ≡ true) × (times_fits s p (ratio s a b) ≡ true)
unfolding times_ratio_fits
times_ratio_out s p a b e = ((and_parts _ _ e).0, (and_parts (exact_ratio s a b) _ e).1)

pub over_ratio_out : (s : ℕ) (p : Pair) (a b : ℕ) → over_ratio_fits s p a b ≡ true → (exact_ratio s a b ≡ true) × (over_fits s p (ratio s a b) ≡ true)
unfolding over_ratio_fits
over_ratio_out s p a b e = ((and_parts _ _ e).0, (and_parts (exact_ratio s a b) _ e).1)

-- the ends are in order, 64 divides the scale, and the argument n of the upper end's root is below b
pub root_out : (s : ℕ) (p : Pair) → root_fits s p ≡ true → (p.lo ≤ p.hi) × (s % 64 ≡ 0) × (p.hi * s < 2 ^ 70)
unfolding root_fits ordered
root_out s p e =
    let both = (and_parts (leb p.lo p.hi && eqb (s % 64) 0) _ e).0 in
    (leb-true _ _ (and_parts _ _ both).0, eqb-true _ _ (and_parts (leb p.lo p.hi) _ both).1, ltb-true _ _ (and_parts (leb p.lo p.hi && eqb (s % 64) 0) _ e).1)

pub cube_root_out : (s : ℕ) (p : Pair) → cube_root_fits s p ≡ true → (p.lo ≤ p.hi) × (s % 64 ≡ 0) × (p.hi * (s * s) < 2 ^ 76)
unfolding cube_root_fits ordered
cube_root_out s p e =
    let both = (and_parts (leb p.lo p.hi && eqb (s % 64) 0) _ e).0 in
    (leb-true _ _ (and_parts _ _ both).0, eqb-true _ _ (and_parts (leb p.lo p.hi) _ both).1, ltb-true _ _ (and_parts (leb p.lo p.hi && eqb (s % 64) 0) _ e).1)
