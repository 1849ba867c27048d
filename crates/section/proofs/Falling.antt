-- Refining never goes upward: each end of each χ falls or stays from round to round, at every fineness, and so do chi1 and chi2 as they are printed.
use Prim.Native.Nat.{ℕ, zero, suc, ◌+◌, ◌-◌, ◌*◌, ◌/◌, ◌≤◌}
use mathlib.Core.Path.{◌≡◌, subst}
use native.Mathlib.Nat.{le_refl, le_trans, mul-le-mul_right, div-zero, div-mul-le_self, le-div_iff_mul-le}
use native.Mathlib.Numerals.{unary_clauses}
use native.Mathlib.Omega.{arith}
use Rattle.pair.proofs.Laws.{smaller-NotAbove, NotAbove-refl, NotAbove-trans}
use Rattle.section.specs.declared.Member.{Member}
use Rattle.section.specs.declared.Sheet.{Sheet}
use Rattle.section.specs.Working.{scale_of, refined_flange, round, rounds, effective, member_of, worked}
use Rattle.section.specs.Sheets.{sheet_of, values_of, with_rounds}
use Rattle.section.specs.Figures.{printed, figures}
use Rattle.section.specs.Refining.{NotRaised, PrintedNotRaised}

-- the larger of two numbers has the larger quotient, rounded down
quotient_rises : (d : ℕ) {a b : ℕ} → a ≤ b → a / d ≤ b / d
quotient_rises zero {a} {b} h = rw (div-zero a, div-zero b) (le_refl 0)
quotient_rises (suc d) {a} {b} h = (le-div_iff_mul-le {k = suc d} {x = a / suc d} {y = b} (omega arith)).1 (le_trans (div-mul-le_self a (suc d)) h)

module _ (n : ℕ) where
  -- one round more, and any number more
  module _ (x : Member) where
    next_not_raised : (i : ℕ) → NotRaised (rounds n x (suc i)) (rounds n x i)
    unfolding rounds round refined_flange
    next_not_raised i = record { one = (smaller-NotAbove _ _).1; two = (smaller-NotAbove _ _).1 }

    more_not_raised : (i k : ℕ) → NotRaised (rounds n x (i + k)) (rounds n x i)
    more_not_raised i zero = simp unary_clauses (record { one = NotAbove-refl _; two = NotAbove-refl _ })
    more_not_raised i (suc k) =
        let last = next_not_raised (i + k) in
        let before = more_not_raised i k in
        simp unary_clauses (record { one = NotAbove-trans last.one before.one; two = NotAbove-trans last.two before.two })

    pub rounds-NotRaised : {i j : ℕ} → i ≤ j → NotRaised (rounds n x j) (rounds n x i)
    rounds-NotRaised {i} {j} h =
        let sum : i + (j - i) ≡ j = omega (arith, h) in
        subst (λ (k : ℕ). NotRaised (rounds n x k) (rounds n x i)) sum (more_not_raised i (j - i))

  -- in thousandths, rounded down
  thousandths : {a b : ℕ} → a ≤ b → a * 1000 / scale_of n ≤ b * 1000 / scale_of n
  thousandths h = quotient_rises (scale_of n) (mul-le-mul_right 1000 h)

  pub figures_not_raised : (q : Sheet) {i j : ℕ} → i ≤ j → PrintedNotRaised (figures n (with_rounds j q)) (figures n (with_rounds i q))
  unfolding figures printed worked effective with_rounds sheet_of values_of
  figures_not_raised q h =
      let fall = rounds-NotRaised (member_of n q) h in
      record { chi1 = thousandths fall.one.low; chi2 = thousandths fall.two.low }
