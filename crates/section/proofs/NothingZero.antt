-- No divisor in the working of a sheet that meets the questions is zero, at either end: at m × n it lies inside the one at n, whose lower end is above zero.
use Prim.Native.Nat.{ℕ, ◌*◌, ◌<◌}
use mathlib.Core.Path.{refl}
use native.Mathlib.Nat.{le_trans, mul-one, mul-pos}
use native.Mathlib.Omega.{arith}
use lib.Dec.{lit<}
use Rattle.pair.specs.Pairs.{times, over}
use Rattle.pair.specs.Enclosure.{Inside, Positive}
use Rattle.pair.specs.declared.Pair.{Pair}
use Rattle.pair.proofs.Laws.{Positive-Inside, ratio-Positive, times-Inside, over-Inside}
use Rattle.section.specs.declared.Stiffener.{Stiffener}
use Rattle.section.specs.declared.Sheet.{Sheet}
use Rattle.section.specs.Sound.{Sound}
use Rattle.section.specs.Working.{scale_of, whole, mm, mid_line, k, cp_of}
use Rattle.section.specs.Divisors.{AboveZero, StiffenerAboveZero, DivisorsAboveZero}
use Rattle.section.proofs.PartsInside.{StiffenerInside}
use Rattle.section.proofs.Ends.{scale_positive, one-Fine, finer, constant_exact, constant-Inside}
use Rattle.section.proofs.Coefficient.{k-Inside, k-Positive}
use Rattle.section.proofs.Formulas.{whole_times-Positive, mid_line-Inside, lip_line-Inside, inertia_of-Inside, kept_length-Inside}
use Rattle.section.proofs.FlangeRounds.{StiffenerDivisors}
use Rattle.section.proofs.Whole.{SheetDivisors, sheet_rounds_inside, sheet_kept_inside, sheet_full_inside}
use Rattle.section.proofs.SizesOfSheets.{fine_divisors}

square_above : (v u : ℕ) → v < u → 0 < u * u
square_above v u h = let u⁺ : 0 < u = omega arith in mul-pos u⁺ u⁺

module _ {n m : ℕ} (n⁺ : 0 < n) (m⁺ : 0 < m) where
  finer_above : {P p : Pair} → Inside m P p → Positive p → AboveZero P
  finer_above i p = let P⁺ = Positive-Inside m⁺ i p in record { low = P⁺.low; high = le_trans P⁺.low i.mid }

  whole_in : (a : ℕ) → Inside m (whole (m * n) a) (whole n a)
  whole_in a = constant-Inside n⁺ m⁺ a 1 (lit< tt) refl

  whole_above : (a : ℕ) → 0 < a → AboveZero (whole (m * n) a)
  whole_above a a⁺ = finer_above (whole_in a) (ratio-Positive (scale_of n) a 1 a⁺ (constant_exact a 1 n⁺ (lit< tt) refl))

  whole-times_above : (v : ℕ) {a a' : Pair} → 0 < v → Inside m a' a → Positive a → AboveZero (times (scale_of (m * n)) (whole (m * n) v) a')
  whole-times_above v v⁺ i a⁺ = finer_above (times-Inside (finer m⁺ n⁺) (whole_in v) i) (whole_times-Positive v n⁺ v⁺ a⁺)

  stiffener_above : {t t' : Pair} {s s' : Stiffener} → Inside m t' t → StiffenerInside m s' s → StiffenerDivisors n t s → StiffenerAboveZero (m * n) t' s'
  stiffener_above t_in i d = record {
    twice_a = whole-times_above 2 (lit< tt) i.a d.a;
    four_a = whole-times_above 4 (lit< tt) i.a d.a;
    a = finer_above i.a d.a;
    inertia = finer_above (inertia_of-Inside n⁺ m⁺ d.a t_in i) d.inertia;
  }

  -- k of the lip of a flange of width b, in 0.01 mm
  lip_above : (q : Sheet) (b : ℕ) → Positive (mid_line n b q.tnom.0) → AboveZero (k (m * n) (over (scale_of (m * n)) (cp_of (m * n) q) (mid_line (m * n) b q.tnom.0)))
  lip_above q b b⁺ = finer_above (k-Inside n⁺ m⁺ (over-Inside (finer m⁺ n⁺) b⁺ (lip_line-Inside n⁺ m⁺ _ _) (mid_line-Inside n⁺ m⁺ _ _))) (k-Positive _ n⁺)

  -- at m times a scale
  above_zero_finer : (q : Sheet) → 0 < q.gm0 → SheetDivisors n q → DivisorsAboveZero (m * n) q
  above_zero_finer q gm0⁺ d =
      let s⁺ : 0 < scale_of (m * n) = scale_positive (mul-pos m⁺ n⁺) in
      let t_in : Inside m (mm (m * n) q.t.0) (mm n q.t.0) = constant-Inside n⁺ m⁺ q.t.0 100 (lit< tt) refl in
      let modulus = constant_exact 1895416 10 n⁺ (lit< tt) refl in
      record {
        scale = s⁺;
        two = whole_above 2 (lit< tt);
        t = finer_above t_in d.core;
        modulus = finer_above (constant-Inside n⁺ m⁺ 1895416 10 (lit< tt) refl) (ratio-Positive (scale_of n) 1895416 10 (lit< tt) modulus);
        k_plane = whole_above 4 (lit< tt);
        ρ_plane = square_above _;
        bp₁ = finer_above (mid_line-Inside n⁺ m⁺ _ _) d.flange1;
        bp₂ = finer_above (mid_line-Inside n⁺ m⁺ _ _) d.flange2;
        k_lip₁ = lip_above q q.b1 d.flange1;
        k_lip₂ = lip_above q q.b2 d.flange2;
        ρ_lip = square_above _;
        stiffener₁ = λ i. stiffener_above t_in (sheet_rounds_inside n⁺ m⁺ q d i).one.stiffener (d.each i).one;
        stiffener₂ = λ i. stiffener_above t_in (sheet_rounds_inside n⁺ m⁺ q d i).two.stiffener (d.each i).two;
        twelve = whole_above 12 (lit< tt);
        two_hundred_and_ten = whole_above 210 (lit< tt);
        million = whole_above 1000000 (lit< tt);
        χ = λ u h. omega arith;
        effective_length = finer_above (kept_length-Inside n⁺ m⁺ (sheet_kept_inside n⁺ m⁺ q d)) d.kept;
        full_length = finer_above (kept_length-Inside n⁺ m⁺ (sheet_full_inside n⁺ m⁺ q d)) d.gross;
        axial = mul-pos gm0⁺ s⁺;
      }

pub nothing_zero : {n : ℕ} (q : Sheet) → 0 < n → Sound q → DivisorsAboveZero n q
nothing_zero {n} q n⁺ s = rw (mul-one n) at (above_zero_finer {n = 1} (lit< tt) n⁺ q (omega (arith, s.q2.gm0.0)) (fine_divisors s one-Fine))
