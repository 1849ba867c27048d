-- The enclosure promises for pairs, at any scale and for any whole m from 1:
-- a finer pair inside a coarser one gives a finer result inside the coarser result, and ends stay in order.
use mathlib.Core.Path.{◌≡◌, refl, sym, ap, subst, ◌∙◌}
use mathlib.Core.Bool.{true}
use Prim.Native.Nat.{ℕ, ◌+◌, ◌*◌, ◌/◌, ◌<◌, min}
use native.Mathlib.Nat.{le_refl, le_trans, mul-le-mul, mul-le-mul_left, mul-le-mul_right, mul_comm, mul-pos}
use native.Mathlib.Omega.{arith}
use Rattle.pair.specs.Rounding.{ceil_div}
use Rattle.pair.specs.Pairs.{◌to◌, exact, ratio, plus, minus, times, over, root, cube_root, smaller}
use Rattle.pair.specs.Fits.{exact_ratio}
use Rattle.pair.specs.Enclosure.{Finer, Inside, Ordered, NotAbove, Positive}
use Rattle.pair.specs.declared.Pair.{Pair}
use Rattle.pair.proofs.Quotients.{cross_down, cross_up, cross_mid, sub-mul, pos_left, min_down, min_up}
use Rattle.pair.proofs.Powers.{pow_two, pow_three, cross_root_down, cross_root_up, cross_root_mid}
use Rattle.pair.proofs.Fitting.{ratio_out}
use Rattle.pair.proofs.Ratios.{ratio-exact, units}

-- a finer scale is above zero too
pub fine_positive : {m s s' : ℕ} → Finer m s s' → 0 < s'
fine_positive h = omega (arith, h.scale, mul-pos h.many h.some)

-- every scale is once itself
pub same_scale : {s : ℕ} → 0 < s → Finer 1 s s
same_scale {s} h = record { many = omega arith; some = h; scale = omega arith }

pub Finer-trans : {m k s s' s'' : ℕ} → Finer m s s' → Finer k s' s'' → Finer (k * m) s s''
Finer-trans {m} {k} {s} {s'} h l = record { many = mul-pos l.many h.many; some = h.some; scale = omega (arith, l.scale, ap (λ (x : ℕ). k * x) h.scale) }

pub Inside-Ordered : {m : ℕ} {P p : Pair} → Inside m P p → Ordered P
Inside-Ordered i = record { ends = i.mid }

pub Ordered-Inside : {p : Pair} → Ordered p → Inside 1 p p
Ordered-Inside o = record { low = omega arith; mid = o.ends; high = omega arith }

pub Inside-trans : {m k : ℕ} {Q P p : Pair} → Inside m P p → Inside k Q P → Inside (m * k) Q p
Inside-trans {m} {k} i j = record {
  low = omega (arith, mul-le-mul_right k i.low, j.low);
  mid = j.mid;
  high = omega (arith, mul-le-mul_right k i.high, j.high);
}

-- a divisor above zero is so at the finer scale
pub Positive-Inside : {m : ℕ} {P p : Pair} → 0 < m → Inside m P p → Positive p → Positive P
Positive-Inside h i p = record { low = le_trans (mul-pos p.low h) i.low }

pub exact-Inside : {m : ℕ} (v v' : ℕ) → v' ≡ v * m → Inside m (exact v') (exact v)
unfolding exact
exact-Inside v v' e = record { low = omega arith; mid = omega arith; high = omega arith }

pub exact-Positive : (v : ℕ) → 0 < v → Positive (exact v)
unfolding exact
exact-Positive v h = record { low = h }

pub plus-Inside : {m : ℕ} {P p Q q : Pair} → Inside m P p → Inside m Q q → Inside m (plus P Q) (plus p q)
unfolding plus
plus-Inside i j = omega arith

pub minus-Inside : {m : ℕ} {P p Q q : Pair} → Inside m P p → Inside m Q q → Inside m (minus P Q) (minus p q)
unfolding minus
minus-Inside i j = record { low = rw sub-mul (omega arith); mid = omega arith; high = rw sub-mul (omega arith) }

pub times-Inside : {m s s' : ℕ} {P p Q q : Pair} → Finer m s s' → Inside m P p → Inside m Q q → Inside m (times s' P Q) (times s p q)
unfolding times
times-Inside {m} {s} {s'} {P} {p} {Q} {q} h i j =
    let fine = fine_positive h in
    let scale : s' ≡ m * s = h.scale in
    record {
      low = cross_down (p.lo * q.lo) s (P.lo * Q.lo) s' m h.some fine
          (omega (arith, mul-le-mul_right s (mul-le-mul i.low j.low), ap (λ (x : ℕ). p.lo * q.lo * m * x) scale));
      mid = cross_mid (P.lo * Q.lo) s' (P.hi * Q.hi) s' fine fine (mul-le-mul_right s' (mul-le-mul i.mid j.mid));
      high = cross_up (p.hi * q.hi) s (P.hi * Q.hi) s' m h.some fine
          (omega (arith, mul-le-mul_right s (mul-le-mul i.high j.high), ap (λ (x : ℕ). p.hi * q.hi * m * x) scale));
    }

pub times_comm : (s : ℕ) (p q : Pair) → times s p q ≡ times s q p
unfolding times
times_comm s p q = λ i. (mul_comm p.lo q.lo i / s) to ceil_div (mul_comm p.hi q.hi i) s

-- the two terms of a sum may be exchanged, and the last two of three
pub plus_comm : (p q : Pair) → plus p q ≡ plus q p
unfolding plus
plus_comm p q =
    let low : p.lo + q.lo ≡ q.lo + p.lo = omega arith in
    let high : p.hi + q.hi ≡ q.hi + p.hi = omega arith in
    λ i. low i to high i

pub plus_right_comm : (p q r : Pair) → plus (plus p q) r ≡ plus (plus p r) q
unfolding plus
plus_right_comm p q r =
    let low : p.lo + q.lo + r.lo ≡ p.lo + r.lo + q.lo = omega arith in
    let high : p.hi + q.hi + r.hi ≡ p.hi + r.hi + q.hi = omega arith in
    λ i. low i to high i

-- where one divides, the coarser divisor's lower end is above zero
pub over-Inside : {m s s' : ℕ} {P p Q q : Pair} → Finer m s s' → Positive q → Inside m P p → Inside m Q q → Inside m (over s' P Q) (over s p q)
unfolding over
over-Inside {m} {s} {s'} {P} {p} {Q} {q} h z i j =
    let scale : s' ≡ m * s = h.scale in
    let Lo : 0 < Q.lo = (Positive-Inside h.many j z).low in
    let Hi : 0 < Q.hi = le_trans Lo j.mid in
    let hi : 0 < q.hi = pos_left q.hi m (le_trans Hi j.high) in
    record {
      low = cross_down (p.lo * s) q.hi (P.lo * s') Q.hi m hi Hi
          (omega (arith, mul-le-mul_right (m * s * q.hi) i.low, mul-le-mul_left (p.lo * m * s) j.high, ap (λ (x : ℕ). P.lo * x * q.hi) scale));
      mid = cross_mid (P.lo * s') Q.hi (P.hi * s') Q.lo Hi Lo (omega (arith, mul-le-mul_right s' (mul-le-mul i.mid j.mid)));
      high = cross_up (p.hi * s) q.lo (P.hi * s') Q.lo m z.low Lo
          (omega (arith, mul-le-mul_right (m * s * q.lo) i.high, mul-le-mul_left (p.hi * m * s) j.low, ap (λ (x : ℕ). P.hi * x * q.lo) scale));
    }

pub root-Inside : {m s s' : ℕ} {P p : Pair} → Finer m s s' → Inside m P p → Inside m (root s' P) (root s p)
unfolding root
root-Inside {m} {s} {s'} {P} {p} h i =
    let scale : s' ≡ m * s = h.scale in
    record {
      low = cross_root_down 1 (p.lo * s) (P.lo * s') m (rw (pow_two m) (omega (arith, mul-le-mul_right (m * s) i.low, ap (λ (x : ℕ). P.lo * x) scale)));
      mid = cross_root_mid 1 (mul-le-mul_right s' i.mid);
      high = cross_root_up 1 (p.hi * s) (P.hi * s') m (rw (pow_two m) (omega (arith, mul-le-mul_right (m * s) i.high, ap (λ (x : ℕ). P.hi * x) scale)));
    }

pub cube_root-Inside : {m s s' : ℕ} {P p : Pair} → Finer m s s' → Inside m P p → Inside m (cube_root s' P) (cube_root s p)
unfolding cube_root
cube_root-Inside {m} {s} {s'} {P} {p} h i =
    let scale : s' ≡ m * s = h.scale in
    record {
      low = cross_root_down 2 (p.lo * (s * s)) (P.lo * (s' * s')) m
          (rw (pow_three m) (omega (arith, mul-le-mul_right (m * s * (m * s)) i.low, ap (λ (x : ℕ). P.lo * (x * x)) scale)));
      mid = cross_root_mid 2 (mul-le-mul_right (s' * s') i.mid);
      high = cross_root_up 2 (p.hi * (s * s)) (P.hi * (s' * s')) m
          (rw (pow_three m) (omega (arith, mul-le-mul_right (m * s * (m * s)) i.high, ap (λ (x : ℕ). P.hi * (x * x)) scale)));
    }

pub smaller-Inside : {m : ℕ} {P p Q q : Pair} → Inside m P p → Inside m Q q → Inside m (smaller P Q) (smaller p q)
unfolding smaller
smaller-Inside {m} {P} {p} {Q} {q} i j = record {
  low = min_down p.lo q.lo P.lo Q.lo m i.low j.low;
  mid = omega (arith, i.mid, j.mid);
  high = min_up p.hi q.hi P.hi Q.hi m i.high j.high;
}

-- an exact value a ÷ b is the same at every finer scale
pub ratio-Inside : {m s s' : ℕ} (a b : ℕ) → Finer m s s' → exact_ratio s a b ≡ true → Inside m (ratio s' a b) (ratio s a b)
unfolding ratio
ratio-Inside {m} {s} {s'} a b h e =
    let whole = ratio_out s a b e in
    let more : ratio s' a b ≡ exact (a * s / b * m) =
    ratio-exact s' a b (a * s / b * m) whole.1 (omega (arith, ap (λ (x : ℕ). a * x) h.scale, ap (λ (x : ℕ). m * x) (units s a b whole.2))) in
    subst (λ (x : Pair). Inside m x (exact (a * s / b))) (sym more) (exact-Inside _ _ refl)

pub ratio-Positive : (s a b : ℕ) → 0 < a → exact_ratio s a b ≡ true → Positive (ratio s a b)
unfolding ratio
ratio-Positive s a b h e =
    let whole = ratio_out s a b e in
    exact-Positive _ (pos_left (a * s / b) b (omega (arith, mul-pos h whole.0, units s a b whole.2)))

-- ends stay in order

pub exact-Ordered : (v : ℕ) → Ordered (exact v)
unfolding exact
exact-Ordered v = record { ends = le_refl v }

pub ratio-Ordered : (s a b : ℕ) → Ordered (ratio s a b)
unfolding ratio
ratio-Ordered s a b = exact-Ordered _

pub plus-Ordered : {p q : Pair} → Ordered p → Ordered q → Ordered (plus p q)
plus-Ordered o k = Inside-Ordered (plus-Inside (Ordered-Inside o) (Ordered-Inside k))

pub minus-Ordered : {p q : Pair} → Ordered p → Ordered q → Ordered (minus p q)
minus-Ordered o k = Inside-Ordered (minus-Inside (Ordered-Inside o) (Ordered-Inside k))

pub times-Ordered : {s : ℕ} {p q : Pair} → 0 < s → Ordered p → Ordered q → Ordered (times s p q)
times-Ordered h o k = Inside-Ordered (times-Inside (same_scale h) (Ordered-Inside o) (Ordered-Inside k))

pub over-Ordered : {s : ℕ} {p q : Pair} → 0 < s → Positive q → Ordered p → Ordered q → Ordered (over s p q)
over-Ordered h z o k = Inside-Ordered (over-Inside (same_scale h) z (Ordered-Inside o) (Ordered-Inside k))

pub root-Ordered : {s : ℕ} {p : Pair} → 0 < s → Ordered p → Ordered (root s p)
root-Ordered h o = Inside-Ordered (root-Inside (same_scale h) (Ordered-Inside o))

pub cube_root-Ordered : {s : ℕ} {p : Pair} → 0 < s → Ordered p → Ordered (cube_root s p)
cube_root-Ordered h o = Inside-Ordered (cube_root-Inside (same_scale h) (Ordered-Inside o))

pub smaller-Ordered : {p q : Pair} → Ordered p → Ordered q → Ordered (smaller p q)
smaller-Ordered o k = Inside-Ordered (smaller-Inside (Ordered-Inside o) (Ordered-Inside k))

-- no end of the smaller of two values is above that of either, and it is the one that is not above the other
pub smaller-NotAbove : (p q : Pair) → NotAbove (smaller p q) p × NotAbove (smaller p q) q
unfolding smaller
smaller-NotAbove p q = (record { low = omega arith; high = omega arith }, record { low = omega arith; high = omega arith })

pub smaller_first : {p q : Pair} → NotAbove p q → smaller p q ≡ p
unfolding smaller
smaller_first {p} {q} h =
    let low : min p.lo q.lo ≡ p.lo = omega (arith, h.low) in
    let high : min p.hi q.hi ≡ p.hi = omega (arith, h.high) in
    λ i. low i to high i

pub smaller_comm : (p q : Pair) → smaller p q ≡ smaller q p
unfolding smaller
smaller_comm p q =
    let low : min p.lo q.lo ≡ min q.lo p.lo = omega arith in
    let high : min p.hi q.hi ≡ min q.hi p.hi = omega arith in
    λ i. low i to high i

pub smaller_second : {p q : Pair} → NotAbove q p → smaller p q ≡ q
smaller_second {p} {q} h = smaller_comm p q ∙ smaller_first h

pub NotAbove-refl : (p : Pair) → NotAbove p p
NotAbove-refl p = record { low = le_refl _; high = le_refl _ }

pub NotAbove-trans : {p q r : Pair} → NotAbove p q → NotAbove q r → NotAbove p r
NotAbove-trans h k = record { low = le_trans h.low k.low; high = le_trans h.high k.high }
