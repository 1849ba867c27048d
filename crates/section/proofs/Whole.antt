-- The whole working at m × n lies inside the working at n, where nothing that it divides by at n may be zero.
use Prim.Native.Nat.{ℕ, zero, suc, ◌*◌, ◌<◌}
use mathlib.Core.Path.{refl}
use native.Mathlib.Nat.{mul-one}
use lib.Dec.{lit<}
use Rattle.pair.specs.Enclosure.{Inside, Positive}
use Rattle.pair.specs.declared.Pair.{Pair}
use Rattle.pair.proofs.Laws.{Positive-Inside, times-Inside, signed_minus_inside}
use Rattle.section.specs.declared.Member.{Member}
use Rattle.section.specs.declared.RefinedFlange.{RefinedFlange}
use Rattle.pair.specs.declared.Both.{Both}
use Rattle.section.specs.declared.Sheet.{Sheet}
use Rattle.section.specs.Working.{whole, mm, core, mid_line, refined_flange, round, rounds, kept_length, effective_flange, effective}
use Rattle.section.specs.Working.{cp_of, bp₁_of, bp₂_of, member_of, worked}
use Rattle.section.specs.Nested.{WorkedInside}
use Rattle.section.specs.Parts.{effective_of, full_of, round_of}
use Rattle.section.proofs.PartsInside.{RefinedInside, RoundInside, EffectiveFlangeInside, EffectivePartsInside, MemberInside}
use Rattle.section.proofs.Ends.{finer, constant-Inside}
use Rattle.section.proofs.Formulas.{mid_line-Inside, lip_line-Inside, web_inside, flange_inside, stiffener_inside, g-Inside, kf-Inside}
use Rattle.section.proofs.Formulas.{kept_length-Inside, z-Inside, full-Inside}
use Rattle.section.proofs.FlangeRounds.{StiffenerDivisors, divisors_finer, refined_inside}

-- what is divided by in a round, and in the working of a sheet
pub record RoundDivisors (n : ℕ) (t : Pair) (r : Both RefinedFlange) : Type 0 where
  pub one : StiffenerDivisors n t r.one.stiffener
  pub two : StiffenerDivisors n t r.two.stiffener

pub record SheetDivisors (n : ℕ) (q : Sheet) : Type 0 where
  pub core : Positive (mm n q.t.0)
  pub flange1 : Positive (bp₁_of n q)
  pub flange2 : Positive (bp₂_of n q)
  pub each : (i : ℕ) → RoundDivisors n (mm n q.t.0) (round_of n q i)
  pub kept : Positive (kept_length n (effective_of n q))
  pub gross : Positive (kept_length n (full_of n q))

module _ {n m : ℕ} (n⁺ : 0 < n) (m⁺ : 0 < m) where
  one-Inside : Inside m (whole (m * n) 1) (whole n 1)
  one-Inside = constant-Inside n⁺ m⁺ 1 1 (lit< tt) refl

  effective_flange_inside : {first first' last last' : RefinedFlange} → RefinedInside m first' first → RefinedInside m last' last
      → EffectiveFlangeInside m (effective_flange first' last') (effective_flange first last)
  effective_flange_inside first last = record { be1 = first.stiffener.be2; stiffener = last.stiffener; chi = last.chi }

  module _ {x x' : Member} (t⁺ : Positive (core n x.common)) (x_in : MemberInside n m x' x) where
    pub round_inside : {χ₁ χ₁' χ₂ χ₂' : Pair} → RoundDivisors n (core n x.common) (round n x χ₁ χ₂) → Inside m χ₁' χ₁ → Inside m χ₂' χ₂
        → RoundInside m (round (m * n) x' χ₁' χ₂') (round n x χ₁ χ₂)
    unfolding round refined_flange
    round_inside d χ₁_in χ₂_in =
        let s₁ = stiffener_inside n⁺ m⁺ x_in.common.cp x_in.one χ₁_in in
        let s₂ = stiffener_inside n⁺ m⁺ x_in.common.cp x_in.two χ₂_in in
        let g₁ = g-Inside n⁺ m⁺ d.one.a x_in.one.bp s₁ in
        let g₂ = g-Inside n⁺ m⁺ d.two.a x_in.two.bp s₂ in
        let k₁ = kf-Inside n⁺ m⁺ d.one.a s₁ s₂ in
        let k₂ = kf-Inside n⁺ m⁺ d.two.a s₂ s₁ in
        record {
          one = refined_inside n⁺ m⁺ t⁺ x_in.common x_in.one d.one χ₁_in k₁ g₂;
          two = refined_inside n⁺ m⁺ t⁺ x_in.common x_in.two d.two χ₂_in k₂ g₁;
        }

    module _ (d : (i : ℕ) → RoundDivisors n (core n x.common) (rounds n x i)) where
      pub rounds_inside : (i : ℕ) → RoundInside m (rounds (m * n) x' i) (rounds n x i)
      unfolding rounds
      rounds_inside zero = round_inside (d zero) one-Inside one-Inside
      rounds_inside (suc i) = let r = rounds_inside i in round_inside (d (suc i)) r.one.chi r.two.chi

      pub effective_inside : (times : ℕ) → EffectivePartsInside m (effective (m * n) x' times) (effective n x times)
      unfolding effective
      effective_inside times =
          let first = rounds_inside 0 in
          let last = rounds_inside times in
          let he = web_inside n⁺ m⁺ t⁺ x_in.common in
          record { one = effective_flange_inside first.one last.one; two = effective_flange_inside first.two last.two; p = he; m = he }

module _ {n m : ℕ} (n⁺ : 0 < n) (m⁺ : 0 < m) (q : Sheet) (d : SheetDivisors n q) where
  t_in : Inside m (mm (m * n) q.t.0) (mm n q.t.0)
  t_in = constant-Inside n⁺ m⁺ q.t.0 100 (lit< tt) refl

  fyb_in : Inside m (whole (m * n) q.fyb) (whole n q.fyb)
  fyb_in = constant-Inside n⁺ m⁺ q.fyb 1 (lit< tt) refl

  mid : (w : ℕ) → Inside m (mid_line (m * n) w q.tnom.0) (mid_line n w q.tnom.0)
  mid w = mid_line-Inside n⁺ m⁺ w q.tnom.0

  cp_in : Inside m (cp_of (m * n) q) (cp_of n q)
  cp_in = lip_line-Inside n⁺ m⁺ q.c q.tnom.0

  pub member_inside : MemberInside n m (member_of (m * n) q) (member_of n q)
  member_inside = record {
    common = record { t = t_in; fyb = fyb_in; hp = mid q.h; cp = cp_in };
    one = flange_inside n⁺ m⁺ d.core d.flange1 t_in fyb_in cp_in (mid q.b1);
    two = flange_inside n⁺ m⁺ d.core d.flange2 t_in fyb_in cp_in (mid q.b2);
  }

  -- every round, the effective parts, and the full section
  pub sheet_rounds_inside : (i : ℕ) → RoundInside m (round_of (m * n) q i) (round_of n q i)
  sheet_rounds_inside i = rounds_inside n⁺ m⁺ d.core member_inside d.each i

  pub sheet_kept_inside : EffectivePartsInside m (effective_of (m * n) q) (effective_of n q)
  sheet_kept_inside = effective_inside n⁺ m⁺ d.core member_inside d.each q.rounds

  pub sheet_full_inside : EffectivePartsInside m (full_of (m * n) q) (full_of n q)
  sheet_full_inside = full-Inside n⁺ m⁺ (mid q.h) cp_in (mid q.b1) (mid q.b2)

  round_finer : (i : ℕ) → RoundDivisors (m * n) (mm (m * n) q.t.0) (round_of (m * n) q i)
  round_finer i =
      let r = sheet_rounds_inside i in
      record { one = divisors_finer n⁺ m⁺ t_in r.one.stiffener (d.each i).one; two = divisors_finer n⁺ m⁺ t_in r.two.stiffener (d.each i).two }

  -- what can be divided by at n can be divided by at m × n
  pub SheetDivisors-finer : SheetDivisors (m * n) q
  SheetDivisors-finer = record {
    core = Positive-Inside m⁺ t_in d.core;
    flange1 = Positive-Inside m⁺ (mid q.b1) d.flange1;
    flange2 = Positive-Inside m⁺ (mid q.b2) d.flange2;
    each = round_finer;
    kept = Positive-Inside m⁺ (kept_length-Inside n⁺ m⁺ sheet_kept_inside) d.kept;
    gross = Positive-Inside m⁺ (kept_length-Inside n⁺ m⁺ sheet_full_inside) d.gross;
  }

  -- the working of a sheet at m × n lies inside its working at n
  pub worked_inside : WorkedInside m (worked (m * n) q) (worked n q)
  unfolding worked
  worked_inside =
      let e = sheet_kept_inside in
      let y = z-Inside n⁺ m⁺ d.kept (mid q.h) e in
      let w = z-Inside n⁺ m⁺ d.gross (mid q.h) sheet_full_inside in
      record {
        area = times-Inside (finer m⁺ n⁺) t_in (kept_length-Inside n⁺ m⁺ e);
        χ₁ = e.one.chi;
        χ₂ = e.two.chi;
        z = y;
        gross_z = w;
        shift = signed_minus_inside y w;
      }

-- what can be divided by at the scale 1,000,000 can be divided by at every fineness
pub sheet_divisors : {n : ℕ} (q : Sheet) → 0 < n → SheetDivisors 1 q → SheetDivisors n q
sheet_divisors {n} q n⁺ d = rw (mul-one n) at (SheetDivisors-finer {n = 1} (lit< tt) n⁺ q d)
