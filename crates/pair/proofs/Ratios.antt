-- An exact operand a ÷ b: the scale cancels.
use mathlib.Core.Path.{◌≡◌, sym, ap, ap₂, ◌∙◌}
use mathlib.Core.Bool.{true}
use Prim.Native.Nat.{ℕ, ◌*◌, ◌/◌, ◌%◌, ◌<◌}
use native.Mathlib.Nat.{div-add-mod', div-div-eq-div-mul, mul_comm, mul-div_cancel, mul-pos}
use native.Mathlib.Omega.{arith}
use lib.Dec.{lit<}
use borrow.Author.Tests.{lt-ltb}
use Rattle.pair.specs.Rounding.{ceil_div}
use Rattle.pair.specs.Pairs.{◌to◌, exact, ratio, times, over}
use Rattle.pair.specs.Fits.{word, words, over_fits, times_ratio_fits, over_ratio_fits}
use Rattle.pair.specs.declared.Pair.{Pair}
use Rattle.pair.proofs.Quotients.{pos_left, same_floor, same_ceil, ceil_twice}
use Rattle.pair.proofs.Fitting.{Words, ratio_out, times_out, over_out, times_ratio_out, over_ratio_out}
use Rattle.pair.proofs.Outward.{Outward, floor_asked, ceil_asked}
use Rattle.std.proofs.lemmas.Bool.{and_from}

-- the units of an exact value
pub units : (s a b : ℕ) → a * s % b ≡ 0 → a * s / b * b ≡ a * s
units s a b e = omega (arith, div-add-mod' (a * s) b)

-- a ÷ b is v units where v × b is a × s
pub ratio-exact : (s a b v : ℕ) → 0 < b → v * b ≡ a * s → ratio s a b ≡ exact v
unfolding ratio
ratio-exact s a b v h e = ap (λ (n : ℕ). exact (n / b)) (sym e) ∙ ap exact (mul-div_cancel v h)

-- times or divided by v units, which are a ÷ b: the scale cancels
module _ (s a b v : ℕ) (p : Pair) (u : v * b ≡ a * s) where
  cross : (n : ℕ) → n * v * b ≡ n * a * s
  cross n = omega (arith, ap (λ (x : ℕ). n * x) u)

  pub times_same : 0 < s → 0 < b → ((p.lo * a / b) to ceil_div (p.hi * a) b) ≡ times s p (exact v)
  unfolding times exact
  times_same s⁺ b⁺ = ap₂ (λ (x y : ℕ). x to y) (same_floor _ _ _ _ b⁺ s⁺ (sym (cross p.lo))) (same_ceil _ _ _ _ b⁺ s⁺ (sym (cross p.hi)))

  pub over_same : 0 < a → 0 < v → ((p.lo * b / a) to ceil_div (p.hi * b) a) ≡ over s p (exact v)
  unfolding over exact
  over_same a⁺ v⁺ =
      ap₂ (λ (x y : ℕ). x to y)
      (same_floor _ _ _ _ a⁺ v⁺ (omega (arith, cross p.lo)))
      (same_ceil _ _ _ _ a⁺ v⁺ (omega (arith, cross p.hi)))

same_outward : {p r : Pair} (n d : ℕ) → 0 < d → ((p.lo * n / d) to ceil_div (p.hi * n) d) ≡ r → Words r → Outward p n d n d r
same_outward n d d⁺ e w = record { low⁺ = d⁺; high⁺ = d⁺; low = ap (λ (x : Pair). x.lo) e; high = ap (λ (x : Pair). x.hi) e; fits = w }

pub times_by_ratio : (s : ℕ) (p : Pair) (a b : ℕ) → times_ratio_fits s p a b ≡ true → Outward p a b a b (times s p (ratio s a b))
unfolding ratio
times_by_ratio s p a b e =
    let fit = times_ratio_out s p a b e in
    let whole = ratio_out s a b fit.0 in
    same_outward a b whole.1 (times_same s a b _ p (units s a b whole.2) whole.0 whole.1) (times_out s p _ fit.1).1

pub over_by_ratio : (s : ℕ) (p : Pair) (a b : ℕ) → over_ratio_fits s p a b ≡ true → Outward p b a b a (over s p (ratio s a b))
unfolding ratio exact
over_by_ratio s p a b e =
    let fit = over_ratio_out s p a b e in
    let whole = ratio_out s a b fit.0 in
    let u = units s a b whole.2 in
    let small = over_out s p _ fit.1 in
    let a⁺ : 0 < a = pos_left a s (omega (arith, mul-pos small.0 whole.1)) in
    same_outward b a a⁺ (over_same s a b _ p u a⁺ small.0) small.2

-- what is asked of a division by q, which is d, at the scale n, and that it gives r
as_over : {p q r : Pair} (n d : ℕ) → q ≡ exact d → Outward p n d n d r → (over_fits n p q ≡ true) × (over n p q ≡ r)
unfolding over_fits words word over exact
as_over n d e o =
    let low = floor_asked o in
    let high = ceil_asked o in
    let some = lt-ltb _ _ low.0 in
    rw e (and_from _ _ (and_from _ _ some some) (and_from _ _ (lt-ltb _ _ low.1) (lt-ltb _ _ high.1)), λ i. record { lo = o.low i; hi = o.high i })

module _ (s : ℕ) (p : Pair) {q : Pair} (a b : ℕ) (e : times_ratio_fits s p a b ≡ true) (d : q ≡ exact b) where
  pub times_asked : over_fits a p q ≡ true
  times_asked = (as_over a b d (times_by_ratio s p a b e)).0

  pub times_given : {x : Pair} → x ≡ over a p q → x ≡ times s p (ratio s a b)
  times_given f = f ∙ (as_over a b d (times_by_ratio s p a b e)).1

module _ (s : ℕ) (p : Pair) {q : Pair} (a b : ℕ) (e : over_ratio_fits s p a b ≡ true) (d : q ≡ exact a) where
  pub over_asked : over_fits b p q ≡ true
  over_asked = (as_over b a d (over_by_ratio s p a b e)).0

  pub over_given : {x : Pair} → x ≡ over b p q → x ≡ over s p (ratio s a b)
  over_given f = f ∙ (as_over b a d (over_by_ratio s p a b e)).1

exact_twice : (s : ℕ) (p : Pair) (v c : ℕ) → 0 < s → 0 < v → 0 < c → over s p (exact (c * v)) ≡ over s (over s p (exact v)) (exact (c * s))
unfolding over exact
exact_twice s p v c s⁺ v⁺ c⁺ =
    let cs⁺ = mul-pos c⁺ s⁺ in
    ap₂ (λ (x y : ℕ). x to y)
    (ap (λ (d : ℕ). p.lo * s / d) (mul_comm c v) ∙ sym (div-div-eq-div-mul (p.lo * s) v c) ∙ same_floor _ _ _ _ c⁺ cs⁺ (omega arith))
    (ap (λ (d : ℕ). ceil_div (p.hi * s) d) (mul_comm c v) ∙ sym (ceil_twice (p.hi * s) v c v⁺ c⁺) ∙ same_ceil _ _ _ _ c⁺ cs⁺ (omega arith))

-- dividing by a ÷ b and then by the whole number c, rounded each time, is dividing once by c × a ÷ b
pub over_twice : (s : ℕ) (p : Pair) (a b c : ℕ) → 0 < c → over_ratio_fits s p a b ≡ true → over s p (ratio s (c * a) b) ≡ over s (over s p (ratio s a b)) (ratio s c 1)
over_twice s p a b c c⁺ e =
    let fit = over_ratio_out s p a b e in
    let whole = ratio_out s a b fit.0 in
    let u = units s a b whole.2 in
    let a⁺ = (over_by_ratio s p a b e).low⁺ in
    let v⁺ : 0 < a * s / b = pos_left (a * s / b) b (rw u (mul-pos a⁺ whole.0)) in
    let once : ratio s a b ≡ exact (a * s / b) = ratio-exact s a b _ whole.1 u in
    let more : ratio s (c * a) b ≡ exact (c * (a * s / b)) = ratio-exact s (c * a) b _ whole.1 (omega (arith, ap (λ (x : ℕ). c * x) u)) in
    let by : ratio s c 1 ≡ exact (c * s) = ratio-exact s c 1 _ (lit< tt) (omega arith) in
    rw (once, more, by) (exact_twice s p (a * s / b) c whole.0 v⁺ c⁺)
