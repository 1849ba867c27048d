-- Every round has room and its factors are at most 1, and the parts that count after any number of rounds lie in boxes.
use Prim.Native.Nat.{ℕ, zero, suc, ◌*◌}
use native.Mathlib.Omega.{arith}
use Rattle.pair.specs.Pairs.{◌to◌}
use Rattle.pair.specs.Enclosure.{Inside}
use Rattle.pair.specs.declared.Pair.{Pair}
use Rattle.section.specs.declared.Member.{Member}
use Rattle.section.specs.declared.Stiffener.{Stiffener}
use Rattle.section.specs.declared.RefinedFlange.{RefinedFlange}
use Rattle.pair.specs.declared.Both.{Both}
use Rattle.section.specs.Working.{stiffener_of, kf, effective_flange, round, rounds, effective}
use Rattle.section.specs.Parts.{Fine}
use Rattle.section.specs.Room.{FactorsRoom, Steady}
use Rattle.section.specs.SectionRoom.{EffectiveRoom}
use Rattle.section.proofs.EffectiveBoxes.{EffectiveFlangeBox, EffectiveBox}
use Rattle.section.proofs.BoxRooms.{wider, Factor-box, box_factor, one_box}
use Rattle.section.proofs.SheetNumbers.{FlangeNumbers, SectionNumbers}
use Rattle.section.proofs.SizesOfWidths.{FlangeBox, he_box, web_kept_room}
use Rattle.section.proofs.SizesOfStiffeners.{StiffenerBox, stiffener_box, stiffener_room, centre_room, g_thin, stiffener_range}
use Rattle.section.proofs.FlangeRounds.{RefinedBox, kf_box, kf_room, factor_room, refined_box}

-- a member: depth d and widths β₁ and β₂ between mid-lines, in 0.01 mm, and lips of γ, in 0.005 mm
pub record MemberBox (n d γ β₁ β₂ : ℕ) (x : Member) : Type 0 where
  pub numbers : SectionNumbers x.common.steel.t.0 x.common.steel.fyb d γ β₁ β₂
  pub hp : Inside n x.common.hp (10000 * d to 10000 * d)
  pub cp : Inside n x.common.cp (5000 * γ to 5000 * γ)
  pub one : FlangeBox n β₁ x.flanges.one
  pub two : FlangeBox n β₂ x.flanges.two

pub record RoundBox (n γ β₁ β₂ : ℕ) (r : Both RefinedFlange) : Type 0 where
  pub one : RefinedBox n γ β₁ r.one
  pub two : RefinedBox n γ β₂ r.two

module _ {n : ℕ} (f : Fine n) where
  effective_flange_box : {t fyb γ β : ℕ} {first last : RefinedFlange} → FlangeNumbers t fyb γ β → RefinedBox n γ β first → RefinedBox n γ β last
      → EffectiveFlangeBox n (effective_flange first last)
  effective_flange_box v first last =
      record { be1 = (stiffener_range n f v first.stiffener).be2; stiffener = stiffener_range n f v last.stiffener; chi = last.chi }

  module _ {d γ β₁ β₂ : ℕ} (x : Member) (b : MemberBox n d γ β₁ β₂ x) where
    hp_in : Inside n x.common.hp (0 to 500000000)
    hp_in = wider 0 500000000 (omega (arith, b.numbers.web.high)) (omega (arith, b.numbers.web.high)) b.hp

    -- both flanges, from boxes of their stiffeners
    module _ {s₁ s₂ : Stiffener} (a₁ : StiffenerBox n γ β₁ s₁) (a₂ : StiffenerBox n γ β₂ s₂) where
      kf₁_in : Inside n (kf n s₁ s₂) (0 to 6000000)
      kf₁_in = kf_box f b.numbers.one b.numbers.near_one a₁ a₂

      kf₂_in : Inside n (kf n s₂ s₁) (0 to 6000000)
      kf₂_in = kf_box f b.numbers.two b.numbers.near_two a₂ a₁

      factors_room : FactorsRoom n x.common x.flanges.one.bp x.flanges.two.bp s₁ s₂
      factors_room =
          let v₁ = b.numbers.one in
          let v₂ = b.numbers.two in
          record {
            one_g = centre_room n f v₁ a₁ b.one.bp;
            two_g = centre_room n f v₂ a₂ b.two.bp;
            one_kf = kf_room f v₁ b.numbers.near_one a₁ a₂;
            two_kf = kf_room f v₂ b.numbers.near_two a₂ a₁;
            one = factor_room f x.common v₁ hp_in kf₁_in (g_thin n f v₂ a₂ b.two.bp) b.one.bp a₁;
            two = factor_room f x.common v₂ hp_in kf₂_in (g_thin n f v₁ a₁ b.one.bp) b.two.bp a₂;
          }

    -- one round, from factors of at most 1
    module _ {χ₁ χ₂ : Pair} (h₁ : Inside n χ₁ (0 to 1000000)) (h₂ : Inside n χ₂ (0 to 1000000)) where
      stiffener₁ : StiffenerBox n γ β₁ (stiffener_of n x.common.cp x.flanges.one χ₁)
      stiffener₁ = stiffener_box n f b.numbers.one x.flanges.one χ₁ b.cp b.one h₁

      stiffener₂ : StiffenerBox n γ β₂ (stiffener_of n x.common.cp x.flanges.two χ₂)
      stiffener₂ = stiffener_box n f b.numbers.two x.flanges.two χ₂ b.cp b.two h₂

      round_box : RoundBox n γ β₁ β₂ (round n x χ₁ χ₂)
      unfolding round
      round_box =
          let v₁ = b.numbers.one in
          let v₂ = b.numbers.two in
          let k₁ = kf₁_in stiffener₁ stiffener₂ in
          let k₂ = kf₂_in stiffener₁ stiffener₂ in
          record {
            one = refined_box f x.common v₁ hp_in k₁ (g_thin n f v₂ stiffener₂ b.two.bp) x.flanges.one χ₁ b.cp b.one h₁;
            two = refined_box f x.common v₂ hp_in k₂ (g_thin n f v₁ stiffener₁ b.one.bp) x.flanges.two χ₂ b.cp b.two h₂;
          }

    steady : Steady n x
    steady = record {
      room = λ χ₁ χ₂ h k. record {
        one = stiffener_room n f b.numbers.one x.flanges.one χ₁ b.cp b.one (Factor-box f h);
        two = stiffener_room n f b.numbers.two x.flanges.two χ₂ b.cp b.two (Factor-box f k);
        rest = factors_room (stiffener₁ (Factor-box f h) (Factor-box f k)) (stiffener₂ (Factor-box f h) (Factor-box f k));
      };
      most = λ χ₁ χ₂ h k.
          let r = round_box (Factor-box f h) (Factor-box f k) in
          record { one = box_factor f r.one.chi; two = box_factor f r.two.chi };
    }

    pub effective_room : EffectiveRoom n x
    effective_room = record { steady = steady; web = web_kept_room f x.common b.numbers.web b.hp }

    -- every round
    pub rounds_box : (i : ℕ) → RoundBox n γ β₁ β₂ (rounds n x i)
    unfolding rounds
    rounds_box zero = round_box (one_box f) (one_box f)
    rounds_box (suc i) = let before = rounds_box i in round_box before.one.chi before.two.chi

    pub effective_box : (times : ℕ) → EffectiveBox n d (effective n x times)
    unfolding effective
    effective_box times =
        let first = rounds_box 0 in
        let last = rounds_box times in
        let he = he_box f x.common b.numbers.web b.hp in
        record {
          one = effective_flange_box b.numbers.one first.one last.one;
          two = effective_flange_box b.numbers.two first.two last.two;
          p = he;
          m = he;
        }
