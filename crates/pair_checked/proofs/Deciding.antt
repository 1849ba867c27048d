-- Each test that the program makes is the one that a contract of crate pair asks for.
use mathlib.Core.Path.{◌≡◌, refl, sym, ap, ap₂, ◌∙◌}
use mathlib.Core.Bool.{Bool, true, false, ◌&&◌}
use Prim.Native.Nat.{ℕ, ◌+◌, ◌-◌, ◌*◌, ◌/◌, ◌%◌, ◌^◌, ◌<◌, ◌≤◌}
use native.Mathlib.Nat.{lt_of_le_of_lt, le_of_eq, le_of_lt, mod-lt, mul-pos, mul-le-mul_right, div-le_of_le-mul, div-lt_iff_lt-mul}
use native.Mathlib.Omega.{arith}
use lib.Dec.{leb, ltb, eqb}
use borrow.Author.Tests.{leb-true, ltb-true, eqb-true, le-leb, lt-ltb, eq-eqb, le-ltb}
use Rattle.std.specs.Cmp.{both_ways}
use Rattle.std.specs.Int.Signed.{le_z}
use Rattle.pair.proofs.Numbers.{le_z-leb_ℤ}
use Rattle.pair.specs.Rounding.{ceil_div}
use Rattle.pair.specs.RoundingLaws.{ceil_parts}
use Rattle.pair.specs.Pairs.{times, over, ratio, exact}
use Rattle.pair.specs.SignedPairs.{SignedPair}
use Rattle.pair.specs.Fits.{word, words, times_fits, over_fits, exact_ratio, times_ratio_fits, over_ratio_fits, cube_root_fits, signed_ordered}
use Rattle.pair.specs.declared.Pair.{Pair}
use Rattle.std.proofs.lemmas.Bool.{and_from, and_parts}
use Rattle.pair.proofs.Quotients.{pos_left, floor_le_ceil, rest_apart}
use Rattle.pair.proofs.Fitting.{ratio_out, cube_root_out}
use Rattle.pair.proofs.Ratios.{units, times_same, over_same}
use Rattle.pair.proofs.ScaledRoot.{by_4096, factor_fits}

-- the second test matters only where the first holds
pub under : (e x y : Bool) → (e ≡ true → x ≡ y) → (e && x) ≡ (e && y)
under true x y f = f refl
under false x y f = refl

shared : (z u v : Bool) → ((z && u) && (z && v)) ≡ (z && (u && v))
shared true u v = refl
shared false u v = refl

-- the upper word of n is below k
pub high_test : (n k : ℕ) {h : ℕ} → h ≡ n / 2 ^ 64 → ltb h k ≡ ltb n (k * 2 ^ 64)
high_test n k {h} e =
    let iff = div-lt_iff_lt-mul {k = 2 ^ 64} {x = n} {y = k} (omega arith) in
    both_ways _ _
    (λ t. lt-ltb n _ (iff.0 (omega (arith, ltb-true h k t))))
    (λ t. lt-ltb h k (lt_of_le_of_lt (le_of_eq e) (iff.1 (ltb-true n _ t))))

pub sum_test : (a b : ℕ) → b < 2 ^ 64 → leb a (2 ^ 64 - 1 - b) ≡ word (a + b)
unfolding word
sum_test a b h =
    both_ways _ _
    (λ t. lt-ltb (a + b) (2 ^ 64) (omega (arith, leb-true a (2 ^ 64 - 1 - b) t)))
    (λ t. le-leb a (2 ^ 64 - 1 - b) (omega (arith, ltb-true (a + b) (2 ^ 64) t)))

-- nothing stands in the upper word
pub word_test : (n : ℕ) {h : ℕ} → h ≡ n / 2 ^ 64 → eqb h 0 ≡ word n
unfolding word
word_test n {h} e =
    let iff = div-lt_iff_lt-mul {k = 2 ^ 64} {x = n} {y = 1} (omega arith) in
    both_ways _ _
    (λ t. lt-ltb n (2 ^ 64) (omega (arith, iff.0 (omega (arith, eqb-true h 0 t)))))
    (λ t. eq-eqb h 0 (omega (arith, iff.1 (omega (arith, ltb-true n (2 ^ 64) t)))))

pub low_word : {n h : ℕ} → h ≡ n / 2 ^ 64 → h ≡ 0 → n < 2 ^ 64
low_word {n} {h} e z = omega (arith, (div-lt_iff_lt-mul {k = 2 ^ 64} {x = n} {y = 1} (omega arith)).0 (omega arith))

-- a divisor above zero, and a quotient that is a word

pub quotient_out : (d x : ℕ) → (ltb 0 d && word x) ≡ true → (0 < d) × (x < 2 ^ 64)
unfolding word
quotient_out d x e = (ltb-true 0 d (and_parts _ _ e).0, ltb-true x _ (and_parts (ltb 0 d) _ e).1)

quotient_in : {d x : ℕ} → 0 < d → x < 2 ^ 64 → (ltb 0 d && word x) ≡ true
unfolding word
quotient_in h k = and_from _ _ (lt-ltb _ _ h) (lt-ltb _ _ k)

pub floor_test : (n d : ℕ) {h : ℕ} → h ≡ n / 2 ^ 64 → ltb h d ≡ (ltb 0 d && word (n / d))
floor_test n d {h} e =
    let iff = div-lt_iff_lt-mul {k = d} {x = n} {y = 2 ^ 64} in
    high_test n d e
    ∙ both_ways _ _
    (λ t.
    let l = ltb-true n (d * 2 ^ 64) t in
    let some : 0 < d = omega arith in
    quotient_in some ((iff some).1 (omega arith)))
    (λ t.
    let q = quotient_out d (n / d) t in
    lt-ltb n (d * 2 ^ 64) (omega (arith, (iff q.0).0 q.1)))

-- rounded up: past a word where the quotient rounded down is; else the same quotient where nothing is left over, or one more
module _ (n d : ℕ) {t : Bool} (e : t ≡ (ltb 0 d && word (n / d))) where
  pub ceil_past : t ≡ false → false ≡ (ltb 0 d && word (ceil_div n d))
  ceil_past f =
      both_ways false _
      (λ u. cc)
      (λ u.
      let q = quotient_out d (ceil_div n d) u in
      sym f ∙ e ∙ quotient_in q.0 (lt_of_le_of_lt (floor_le_ceil n q.0) q.1))

  module _ (f : t ≡ true) where
    pub down_fits : (0 < d) × (n / d < 2 ^ 64)
    down_fits = quotient_out d (n / d) (sym e ∙ f)

    pub ceil_exact : {r : ℕ} → r ≡ n % d → r ≡ 0 → true ≡ (ltb 0 d && word (ceil_div n d))
    ceil_exact {r} g z =
        let up = ceil_parts n d down_fits.0 in
        let same : n / d ≡ ceil_div n d = omega (arith, up, g, z) in
        sym (ap (λ (x : ℕ). ltb 0 d && word x) (sym same) ∙ sym e ∙ f)

    pub ceil_above : {q r : ℕ} → q ≡ n / d → r ≡ n % d → (r ≡ 0 → ⊥) → ltb q (2 ^ 64 - 1) ≡ (ltb 0 d && word (ceil_div n d))
    ceil_above {q} {r} k g z =
        let parts = ceil_parts n d down_fits.0 in
        let up : ceil_div n d ≡ q + 1 = omega (arith, parts, k, g, z) in
        both_ways _ _
        (λ u. quotient_in down_fits.0 (omega (arith, ltb-true q (2 ^ 64 - 1) u)))
        (λ u. lt-ltb q (2 ^ 64 - 1) (omega (arith, quotient_out d (ceil_div n d) u)))

pub ruleset ceil_tests = (ceil_past, down_fits, ceil_exact, ceil_above)

-- b divides a × s just where it divides (a % b) × s
module _ (s a b : ℕ) where
  pub rest_fits : (b ≡ 0 → ⊥) → s < 2 ^ 64 → a % b * s / b < 2 ^ 64
  rest_fits h k =
      let some : 0 < b = omega (arith, h) in
      lt_of_le_of_lt (div-le_of_le-mul b (omega (arith, mul-le-mul_right s (le_of_lt (mod-lt a some))))) k

  pub ratio_whole : {r : ℕ} → (b ≡ 0 → ⊥) → r ≡ a % b * s % b → 0 < s → eqb r 0 ≡ exact_ratio s a b
  unfolding exact_ratio
  ratio_whole h e k = let some : 0 < b = omega (arith, h) in rw (e ∙ rest_apart a s b, lt-ltb 0 b some, lt-ltb 0 s k) refl

  pub ratio_unscaled : s ≤ 0 → false ≡ exact_ratio s a b
  unfolding exact_ratio
  ratio_unscaled h = rw (le-ltb 0 s h) refl

  pub ratio_none : b ≡ 0 → false ≡ exact_ratio s a b
  unfolding exact_ratio
  ratio_none e = rw (le-ltb 0 b (omega arith)) (within (ltb 0 s) _)
    where
      within : (x y : Bool) → false ≡ ((x && false) && y)
      within true y = refl
      within false y = refl

pub ruleset ratio_tests = (rest_fits, ratio_whole, ratio_unscaled, ratio_none)

pub times_ratio_test : (s : ℕ) (p : Pair) (a b : ℕ)
    → (exact_ratio s a b && ((ltb 0 b && word (p.lo * a / b)) && (ltb 0 b && word (ceil_div (p.hi * a) b)))) ≡ times_ratio_fits s p a b
unfolding times_ratio_fits times_fits words times ratio exact
times_ratio_test s p a b =
    under (exact_ratio s a b) _ _ λ t.
    let whole = ratio_out s a b t in
    shared (ltb 0 b) _ _
    ∙ ap₂ ◌&&◌
    (lt-ltb 0 b whole.1 ∙ sym (lt-ltb 0 s whole.0))
    (ap words (times_same s a b _ p (units s a b whole.2) whole.0 whole.1))

-- an exact operand is above zero where its numerator is
units_some : (s a b : ℕ) → 0 < s → 0 < b → a * s / b * b ≡ a * s → ltb 0 a ≡ ltb 0 (a * s / b)
units_some s a b h k u =
    both_ways _ _
    (λ t. lt-ltb 0 _ (pos_left (a * s / b) b (omega (arith, mul-pos (ltb-true 0 a t) h))))
    (λ t. lt-ltb 0 a (pos_left a s (omega (arith, mul-pos (ltb-true 0 (a * s / b) t) k))))

pub over_ratio_test : (s : ℕ) (p : Pair) (a b : ℕ)
    → (exact_ratio s a b && ((ltb 0 a && word (p.lo * b / a)) && (ltb 0 a && word (ceil_div (p.hi * b) a)))) ≡ over_ratio_fits s p a b
unfolding over_ratio_fits over_fits words over ratio exact
over_ratio_test s p a b =
    under (exact_ratio s a b) _ _ λ t.
    let whole = ratio_out s a b t in
    let u = units s a b whole.2 in
    let some = units_some s a b whole.0 whole.1 u in
    shared (ltb 0 a) _ _
    ∙ under (ltb 0 a) _ _ (λ k. ap words (over_same s a b _ p u (ltb-true 0 a k) (ltb-true 0 (a * s / b) (sym some ∙ k))))
    ∙ ap (λ (x : Bool). x && words (over s p (exact (a * s / b)))) (some ∙ twice (ltb 0 (a * s / b)))
  where
    twice : (x : Bool) → x ≡ (x && x)
    twice true = refl
    twice false = refl

-- n × 4096 is below 2^76 where n is a word
wider : (n : ℕ) → word n ≡ ltb (n * 4096) (2 ^ 76)
unfolding word
wider n =
    both_ways _ _
    (λ t. lt-ltb (n * 4096) (2 ^ 76) (omega (arith, ltb-true n (2 ^ 64) t)))
    (λ t. lt-ltb n (2 ^ 64) (omega (arith, ltb-true (n * 4096) (2 ^ 76) t)))

pub cube_test : (v s : ℕ) {h : ℕ} → s % 64 ≡ 0 → h ≡ v * (s / 64) * (s / 64) / 2 ^ 64 → eqb h 0 ≡ ltb (v * (s * s)) (2 ^ 76)
cube_test v s e f = word_test (v * (s / 64) * (s / 64)) f ∙ wider _ ∙ ap (λ (n : ℕ). ltb n (2 ^ 76)) (by_4096 v s e)

pub cube_root_past : (s : ℕ) (p : Pair) {h : ℕ} → h ≡ p.hi * (s / 64) / 2 ^ 64 → (h ≡ 0 → ⊥) → false ≡ cube_root_fits s p
cube_root_past s p {h} e k =
    both_ways false _
    (λ t. cc)
    (λ t.
    let fit = cube_root_out s p t in
    let small : p.hi * (s / 64) < 2 ^ 64 = factor_fits p.hi (s / 64) (omega (arith, by_4096 p.hi s fit.1)) in
    absurd (k (omega (arith, (div-lt_iff_lt-mul {k = 2 ^ 64} {x = p.hi * (s / 64)} {y = 1} (omega arith)).1 (omega arith)))))

pub ruleset cube_tests = (low_word, cube_test, cube_root_past)

pub order_test : (a : SignedPair) → le_z a.lo a.hi ≡ signed_ordered a
unfolding signed_ordered
order_test a = le_z-leb_ℤ a.lo a.hi
