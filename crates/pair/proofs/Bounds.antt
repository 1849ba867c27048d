-- The enclosure promises for pairs, continued: bounds carry through every operation, and what each operation asks follows from bounds.
-- A numeral bound is a box: a pair a to b at a scale s, inside which the pair at m times that scale lies.
use mathlib.Core.Path.{◌≡◌, refl, ap}
use mathlib.Core.Bool.{true}
use Prim.Native.Nat.{ℕ, ◌+◌, ◌-◌, ◌*◌, ◌%◌, ◌^◌, ◌≤◌, ◌<◌, min}
use native.Mathlib.Nat.{le_refl, le_trans, lt_of_le_of_lt, mul_assoc, mul-pos, mul-le-mul, mul-le-mul_left, mul-le-mul_right, dvd_of_mod-eq-zero, mod-eq-zero_of_dvd, dvd-mul_left_of_dvd}
use native.Mathlib.Omega.{arith}
use borrow.Author.Tests.{le-leb, lt-ltb, eq-eqb}
use Rattle.pair.specs.Pairs.{◌to◌, exact, ratio, plus, minus, times, over, root, cube_root, smaller}
use Rattle.pair.specs.Fits.{word, words, ordered, ratio_fits, plus_fits, minus_fits, times_fits, over_fits, exact_ratio, times_ratio_fits, over_ratio_fits, root_fits, cube_root_fits}
use Rattle.pair.specs.Enclosure.{Finer, Inside, Ordered, Positive, AtLeast, AtMost}
use Rattle.pair.specs.declared.Pair.{Pair}
use Rattle.std.proofs.lemmas.Bool.{and_from}
use Rattle.pair.proofs.Quotients.{ceil_le, le_floor}
use Rattle.pair.proofs.Fitting.{ratio_out, over_ratio_out}
use Rattle.pair.proofs.Powers.{pow_two, pow_three, le_down, up_le}
use Rattle.pair.proofs.Ratios.{ratio-exact, over_by_ratio, over_twice}
use Rattle.pair.proofs.PairLaws.{ratio-Positive, ratio-Ordered, exact-Inside, minus-Inside, times-Inside, over-Inside, root-Inside, cube_root-Inside, smaller-Inside}

-- bounds of each end, in units of 1/s

pub AtLeast-Positive : {b : ℕ} {p : Pair} → 0 < b → AtLeast b p → Positive p
AtLeast-Positive h a = record { low = le_trans h a.low }

-- every pair's own ends bound it
pub own_least : (p : Pair) → AtLeast p.lo p
own_least p = record { low = le_refl p.lo }

pub own_most : (p : Pair) → AtMost p.hi p
own_most p = record { high = le_refl p.hi }

pub exact-AtLeast : (v : ℕ) → AtLeast v (exact v)
unfolding exact
exact-AtLeast v = record { low = le_refl v }

pub exact-AtMost : (v : ℕ) → AtMost v (exact v)
unfolding exact
exact-AtMost v = record { high = le_refl v }

pub plus-AtLeast : {a b : ℕ} {p q : Pair} → AtLeast a p → AtLeast b q → AtLeast (a + b) (plus p q)
unfolding plus
plus-AtLeast h k = omega arith

pub plus-AtMost : {a b : ℕ} {p q : Pair} → AtMost a p → AtMost b q → AtMost (a + b) (plus p q)
unfolding plus
plus-AtMost h k = omega arith

pub minus-AtLeast : {a b : ℕ} {p q : Pair} → AtLeast a p → AtMost b q → AtLeast (a - b) (minus p q)
unfolding minus
minus-AtLeast h k = omega arith

pub minus-AtMost : {a b : ℕ} {p q : Pair} → AtMost a p → AtLeast b q → AtMost (a - b) (minus p q)
unfolding minus
minus-AtMost h k = omega arith

pub times-AtLeast : (s c : ℕ) {a b : ℕ} {p q : Pair} → 0 < s → AtLeast a p → AtLeast b q → c * s ≤ a * b → AtLeast c (times s p q)
unfolding times
times-AtLeast s c h k l e = record { low = le_floor h (le_trans e (mul-le-mul k.low l.low)) }

pub times-AtMost : (s c : ℕ) {a b : ℕ} {p q : Pair} → 0 < s → AtMost a p → AtMost b q → a * b ≤ c * s → AtMost c (times s p q)
unfolding times
times-AtMost s c h k l e = record { high = ceil_le h (le_trans (mul-le-mul k.high l.high) e) }

pub over-AtLeast : (s c : ℕ) {a b : ℕ} {p q : Pair} → 0 < q.hi → AtLeast a p → AtMost b q → c * b ≤ a * s → AtLeast c (over s p q)
unfolding over
over-AtLeast s c h k l e = record { low = le_floor h (le_trans (mul-le-mul_left c l.high) (le_trans e (mul-le-mul_right s k.low))) }

pub over-AtMost : (s c : ℕ) {a b : ℕ} {p q : Pair} → Positive q → AtMost a p → AtLeast b q → a * s ≤ c * b → AtMost c (over s p q)
unfolding over
over-AtMost s c h k l e = record { high = ceil_le h.low (le_trans (mul-le-mul_right s k.high) (le_trans e (mul-le-mul_left c l.low))) }

pub root-AtLeast : (s c : ℕ) {a : ℕ} {p : Pair} → AtLeast a p → c * c ≤ a * s → AtLeast c (root s p)
unfolding root
root-AtLeast s c k e = record { low = le_down 1 (rw pow_two (le_trans e (mul-le-mul_right s k.low))) }

pub root-AtMost : (s c : ℕ) {a : ℕ} {p : Pair} → AtMost a p → a * s ≤ c * c → AtMost c (root s p)
unfolding root
root-AtMost s c k e = record { high = up_le 1 (rw pow_two (le_trans (mul-le-mul_right s k.high) e)) }

pub cube_root-AtLeast : (s c : ℕ) {a : ℕ} {p : Pair} → AtLeast a p → c * c * c ≤ a * (s * s) → AtLeast c (cube_root s p)
unfolding cube_root
cube_root-AtLeast s c k e = record { low = le_down 2 (rw pow_three (le_trans e (mul-le-mul_right (s * s) k.low))) }

pub cube_root-AtMost : (s c : ℕ) {a : ℕ} {p : Pair} → AtMost a p → a * (s * s) ≤ c * c * c → AtMost c (cube_root s p)
unfolding cube_root
cube_root-AtMost s c k e = record { high = up_le 2 (rw pow_three (le_trans (mul-le-mul_right (s * s) k.high) e)) }

-- boxes

-- a wider box
pub box_wider : {m : ℕ} {P p : Pair} (a b : ℕ) → Inside m P p → AtLeast a p → AtMost b p → Inside m P (a to b)
box_wider {m} a b i l h = record {
  low = le_trans (mul-le-mul_right m l.low) i.low;
  mid = i.mid;
  high = le_trans i.high (mul-le-mul_right m h.high);
}

pub exact_box : {m : ℕ} (v : ℕ) → Inside m (exact (v * m)) (v to v)
unfolding exact
exact_box v = exact-Inside v _ refl

-- a written constant or a number of the sheet: a ÷ b is v units at the scale s
pub ratio_box : {m s s' : ℕ} (a b v : ℕ) → Finer m s s' → 0 < b → v * b ≡ a * s → Inside m (ratio s' a b) (v to v)
ratio_box {m} {s} {s'} a b v h p e =
    let more : ratio s' a b ≡ exact (v * m) = ratio-exact s' a b (v * m) p (omega (arith, ap (λ (x : ℕ). x * m) e, ap (λ (x : ℕ). a * x) h.scale)) in
    rw more (exact_box v)

pub plus_box : {m a b c d : ℕ} {P Q : Pair} → Inside m P (a to b) → Inside m Q (c to d) → Inside m (plus P Q) ((a + c) to (b + d))
unfolding plus
plus_box i j = omega arith

pub minus_box : {m a b c d : ℕ} {P Q : Pair} → Inside m P (a to b) → Inside m Q (c to d) → Inside m (minus P Q) ((a - d) to (b - c))
unfolding minus
minus_box i j = minus-Inside i j

pub times_box : {m s s' a b c d : ℕ} {P Q : Pair} (e f : ℕ) → Finer m s s' → Inside m P (a to b) → Inside m Q (c to d) → e * s ≤ a * c → b * d ≤ f * s → Inside m (times s' P Q) (e to f)
times_box {s = s} e f h i j l k = box_wider e f (times-Inside h i j) (times-AtLeast s e h.some (own_least _) (own_least _) l) (times-AtMost s f h.some (own_most _) (own_most _) k)

pub over_box : {m s s' a b c d : ℕ} {P Q : Pair} (e f : ℕ) → Finer m s s' → 0 < c → 0 < d → Inside m P (a to b) → Inside m Q (c to d) → e * d ≤ a * s → b * s ≤ f * c → Inside m (over s' P Q) (e to f)
over_box {s = s} {c = c} {d = d} e f h z y i j l k =
    let pos : Positive (c to d) = record { low = z } in
    box_wider e f (over-Inside h pos i j) (over-AtLeast s e y (own_least _) (own_most _) l) (over-AtMost s f pos (own_most _) (own_least _) k)

pub root_box : {m s s' a b : ℕ} {P : Pair} (e f : ℕ) → Finer m s s' → Inside m P (a to b) → e * e ≤ a * s → b * s ≤ f * f → Inside m (root s' P) (e to f)
root_box {s = s} e f h i l k = box_wider e f (root-Inside h i) (root-AtLeast s e (own_least _) l) (root-AtMost s f (own_most _) k)

pub cube_root_box : {m s s' a b : ℕ} {P : Pair} (e f : ℕ) → Finer m s s' → Inside m P (a to b) → e * e * e ≤ a * (s * s) → b * (s * s) ≤ f * f * f → Inside m (cube_root s' P) (e to f)
cube_root_box {s = s} e f h i l k = box_wider e f (cube_root-Inside h i) (cube_root-AtLeast s e (own_least _) l) (cube_root-AtMost s f (own_most _) k)

pub smaller_box : {m a b c d : ℕ} {P Q : Pair} → Inside m P (a to b) → Inside m Q (c to d) → Inside m (smaller P Q) (min a c to min b d)
unfolding smaller
smaller_box i j = smaller-Inside i j

-- what each operation asks, from a box of its result

words_fit : {m : ℕ} {P p : Pair} → Inside m P p → p.hi * m < 2 ^ 64 → words P ≡ true
unfolding words word
words_fit i k = and_from _ _ (lt-ltb _ _ (lt_of_le_of_lt (le_trans i.mid i.high) k)) (lt-ltb _ _ (lt_of_le_of_lt i.high k))

pub plus_fits_lem : (P Q : Pair) {m : ℕ} {r : Pair} → Inside m (plus P Q) r → r.hi * m < 2 ^ 64 → plus_fits P Q ≡ true
unfolding plus_fits
plus_fits_lem P Q i k = words_fit i k

pub minus_fits_lem : {m : ℕ} {P p Q q : Pair} → Inside m P p → Inside m Q q → q.hi ≤ p.lo → minus_fits P Q ≡ true
unfolding minus_fits
minus_fits_lem {m} {P} {p} {Q} {q} i j e =
    let apart : Q.hi ≤ P.lo = le_trans j.high (le_trans (mul-le-mul_right m e) i.low) in
    and_from _ _ (le-leb Q.hi P.lo apart) (le-leb Q.lo P.hi (omega (arith, i.mid, j.mid)))

pub times_fits_lem : (s : ℕ) (P Q : Pair) {m : ℕ} {r : Pair} → 0 < s → Inside m (times s P Q) r → r.hi * m < 2 ^ 64 → times_fits s P Q ≡ true
unfolding times_fits
times_fits_lem s P Q h i k = and_from _ _ (lt-ltb _ _ h) (words_fit i k)

pub over_fits_lem : (s : ℕ) (P Q : Pair) {m : ℕ} {r : Pair} → Positive Q → Ordered Q → Inside m (over s P Q) r → r.hi * m < 2 ^ 64 → over_fits s P Q ≡ true
unfolding over_fits
over_fits_lem s P Q z o i k = and_from _ _ (and_from _ _ (lt-ltb _ _ z.low) (lt-ltb _ _ (le_trans z.low o.ends))) (words_fit i k)

pub ratio_fits_lem : (s a b : ℕ) → 0 < b → a * s < 2 ^ 64 → ratio_fits s a b ≡ true
unfolding ratio_fits word
ratio_fits_lem s a b h k = and_from _ _ (lt-ltb _ _ h) (lt-ltb _ _ k)

pub exact_ratio_lem : (s a b : ℕ) → 0 < s → 0 < b → a * s % b ≡ 0 → exact_ratio s a b ≡ true
unfolding exact_ratio
exact_ratio_lem s a b h k e = and_from _ _ (and_from _ _ (lt-ltb _ _ h) (lt-ltb _ _ k)) (eq-eqb _ _ e)

pub times_ratio_fits_lem : (s : ℕ) (p : Pair) (a b : ℕ) → exact_ratio s a b ≡ true → times_fits s p (ratio s a b) ≡ true → times_ratio_fits s p a b ≡ true
unfolding times_ratio_fits
times_ratio_fits_lem s p a b e h = and_from _ _ e h

pub over_ratio_fits_lem : (s : ℕ) (p : Pair) (a b : ℕ) → exact_ratio s a b ≡ true → over_fits s p (ratio s a b) ≡ true → over_ratio_fits s p a b ≡ true
unfolding over_ratio_fits
over_ratio_fits_lem s p a b e h = and_from _ _ e h

-- where dividing by a ÷ b and then by c has room, so has dividing once by c × a ÷ b
pub over_twice_fits : (s : ℕ) (p : Pair) (a b c : ℕ) → over_ratio_fits s p a b ≡ true → over_ratio_fits s (over s p (ratio s a b)) c 1 ≡ true → over_ratio_fits s p (c * a) b ≡ true
unfolding over_fits words word
over_twice_fits s p a b c e h =
    let once = over_ratio_out s p a b e in
    let whole = ratio_out s a b once.0 in
    let a⁺ = (over_by_ratio s p a b e).low⁺ in
    let again = over_by_ratio s (over s p (ratio s a b)) c 1 h in
    let same = over_twice s p a b c again.low⁺ e in
    let exactly = exact_ratio_lem s (c * a) b whole.0 whole.1 (rw (mul_assoc c a s) (mod-eq-zero_of_dvd b (dvd-mul_left_of_dvd b (dvd_of_mod-eq-zero b whole.2) c))) in
    let some = ratio-Positive s (c * a) b (mul-pos again.low⁺ a⁺) exactly in
    over_ratio_fits_lem s p (c * a) b exactly
    (and_from _ _ (and_from _ _ (lt-ltb _ _ some.low) (lt-ltb _ _ (le_trans some.low (ratio-Ordered s (c * a) b).ends)))
    (rw same (and_from _ _ (lt-ltb _ _ again.fits.low) (lt-ltb _ _ again.fits.high))))

pub root_fits_lem : (s : ℕ) {m : ℕ} {P p : Pair} → s % 64 ≡ 0 → Inside m P p → p.hi * m * s < 2 ^ 70 → root_fits s P ≡ true
unfolding root_fits ordered
root_fits_lem s e i k = and_from _ _ (and_from _ _ (le-leb _ _ i.mid) (eq-eqb _ _ e)) (lt-ltb _ _ (lt_of_le_of_lt (mul-le-mul_right s i.high) k))

pub cube_root_fits_lem : (s : ℕ) {m : ℕ} {P p : Pair} → s % 64 ≡ 0 → Inside m P p → p.hi * m * (s * s) < 2 ^ 76 → cube_root_fits s P ≡ true
unfolding cube_root_fits ordered
cube_root_fits_lem s e i k = and_from _ _ (and_from _ _ (le-leb _ _ i.mid) (eq-eqb _ _ e)) (lt-ltb _ _ (lt_of_le_of_lt (mul-le-mul_right (s * s) i.high) k))
