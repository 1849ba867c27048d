-- The rounds as the code works them: the factor 1 of the first, every round's factors beside those of its own stiffeners, and when a round is the last
-- that changes anything.
use mathlib.Core.Path.{◌≡◌, refl, sym, ap, subst, ◌∙◌}
use Prim.Native.Nat.{ℕ, zero, suc, ◌+◌, ◌<◌}
use native.Mathlib.Numerals.{add-one}
use native.Mathlib.Omega.{arith}
use borrow.Author.Tests.{leb-true, leb-false}
use lib.Dec.{leb}
use Rattle.pair.proofs.Numbers.{by_test}
use Rattle.pair.proofs.Laws.{smaller_first, smaller_second, smaller-NotAbove}
use Rattle.pair.specs.Pairs.{root}
use Rattle.pair.specs.declared.Pair.{Pair}
use Rattle.section.specs.declared.Common.{Common}
use Rattle.section.specs.declared.Flange.{Flange}
use Rattle.section.specs.declared.Member.{Member}
use Rattle.section.specs.declared.Stiffener.{Stiffener}
use Rattle.pair.specs.declared.Both.{Both}
use Rattle.section.specs.declared.RefinedFlange.{RefinedFlange}
use Rattle.section.specs.Working.{scale_of, constant, whole, flange_of, stiffener_of, ud, χ, χ_of, refined_flange, round, rounds}
use Rattle.section.specs.Parts.{Fine, fourth_of, lowered_round, factors, factors_of, own_factors}
use Rattle.section.specs.Room.{Factor, FactorsMost, FactorsRoom, RoundRoom, Steady, AtMostOwn}
use Rattle.section.proofs.Factor.{χ-NotAbove-one}
use Rattle.section.proofs.BoxRooms.{one_box, box_factor}

pub one-Factor : {n : ℕ} → Fine n → Factor n (constant n 1 1)
one-Factor f = box_factor f (one_box f)

-- a flange is that of its own width
pub own_width : (n : ℕ) (t fyb cp bp : Pair) {f : Flange} → f ≡ flange_of n t fyb cp bp → f ≡ flange_of n t fyb cp f.bp
unfolding flange_of
own_width n t fyb cp bp e = e ∙ sym (ap (λ (x : Flange). flange_of n t fyb cp x.bp) e)

-- a flange's factor, from the fourth power of its ud
pub factor_is : (n : ℕ) (y : Common) (kf g o : Pair) (s : Stiffener) → χ_of n y kf g o s ≡ χ n (root (scale_of n) (root (scale_of n) (fourth_of n y kf g o s)))
unfolding χ_of ud
factor_is n y kf g o s = refl

-- the factors of every round are at most 1
pub factors_most : {n : ℕ} {x : Member} → Fine n → Steady n x → (i : ℕ) → FactorsMost n (rounds n x i)
unfolding rounds
factors_most f s zero = s.most _ _ (one-Factor f) (one-Factor f)
factors_most f s (suc i) = let before = factors_most f s i in s.most _ _ before.one before.two

module _ (n : ℕ) (x : Member) where
  module _ (χ₁ χ₂ : Pair) {s₁ s₂ : Stiffener} (one : s₁ ≡ stiffener_of n x.common.cp x.flanges.one χ₁) (two : s₂ ≡ stiffener_of n x.common.cp x.flanges.two χ₂) where
    -- a round, from its stiffeners and the factors before
    pub round_from : lowered_round (factors n x.common x.flanges.one.bp x.flanges.two.bp s₁ s₂) χ₁ χ₂ ≡ round n x χ₁ χ₂
    unfolding round refined_flange factors
    round_from = λ i. lowered_round (factors n x.common x.flanges.one.bp x.flanges.two.bp (one i) (two i)) χ₁ χ₂

  -- the first working has the factors that its stiffeners give: none is above 1
  pub first_factors : 0 < n → own_factors n x (rounds n x 0) ≡ rounds n x 0
  unfolding rounds round refined_flange factors χ_of
  first_factors n⁺ =
      let r = rounds n x 0 in
      let one = sym (smaller_first (χ-NotAbove-one n _ n⁺)) in
      let two = sym (smaller_first (χ-NotAbove-one n _ n⁺)) in
      λ i. record { one = record { stiffener = r.one.stiffener; chi = one i }; two = record { stiffener = r.two.stiffener; chi = two i } }

  -- one round more
  pub next_round : (i : ℕ) {r r' : Both RefinedFlange} → r ≡ rounds n x i → r' ≡ round n x r.one.chi r.two.chi → r' ≡ rounds n x (i + 1)
  unfolding rounds
  next_round i e f = rw (add-one i) (f ∙ ap (λ (y : Both RefinedFlange). round n x y.one.chi y.two.chi) e)

  -- a round that leaves both factors as they were is the same as every later one
  module _ (i : ℕ) where
    abbrev R : ℕ → Both RefinedFlange
    R j = rounds n x j

    pub settled : (k : ℕ) → (R (suc i)).one.chi ≡ (R i).one.chi → (R (suc i)).two.chi ≡ (R i).two.chi → i < k → R k ≡ R (suc i)
    unfolding rounds
    settled zero g h l = absurd (omega arith)
    settled (suc k) g h l =
        by_test (leb (suc i) k) (λ b. R (suc k) ≡ R (suc i))
        (λ e.
        let before = settled k g h (leb-true (suc i) k e) in
        λ y. round n x ((ap (λ (r : Both RefinedFlange). r.one.chi) before ∙ g) y) ((ap (λ (r : Both RefinedFlange). r.two.chi) before ∙ h) y))
        (λ e. let last : k ≡ i = omega (arith, leb-false (suc i) k e, l) in ap (λ (j : ℕ). R (suc j)) last)

    -- a round's factors are at most those of its own stiffeners
    AtMostOwn-of : (j : ℕ) → AtMostOwn n x (R j)
    unfolding rounds round refined_flange factors
    AtMostOwn-of zero = record { one = (smaller-NotAbove _ _).0; two = (smaller-NotAbove _ _).0 }
    AtMostOwn-of (suc j) = record { one = (smaller-NotAbove _ _).0; two = (smaller-NotAbove _ _).0 }

    pub at_most_own : {r : Both RefinedFlange} → r ≡ R i → AtMostOwn n x r
    at_most_own {r} e = subst (AtMostOwn n x) (sym e) (AtMostOwn-of i)

  -- so beside its own factors it is that round again
  pub lowered_again : (r : Both RefinedFlange) → AtMostOwn n x r → lowered_round (own_factors n x r) r.one.chi r.two.chi ≡ r
  unfolding factors
  lowered_again r h = λ i. record {
    one = record { stiffener = r.one.stiffener; chi = smaller_second h.one i };
    two = record { stiffener = r.two.stiffener; chi = smaller_second h.two i };
  }

-- both flanges' stiffeners, from the factors before
abbrev both : ℕ → Member → Pair → Pair → Both Stiffener
both n x χ₁ χ₂ = record { one = stiffener_of n x.common.cp x.flanges.one χ₁; two = stiffener_of n x.common.cp x.flanges.two χ₂ }

-- a round, as it is worked
pub round_is : (n : ℕ) (x : Member) (χ₁ χ₂ : Pair) → round n x χ₁ χ₂ ≡ lowered_round (factors_of n x (both n x χ₁ χ₂)) χ₁ χ₂
round_is n x χ₁ χ₂ = sym (round_from n x χ₁ χ₂ refl refl)

module _ (n : ℕ) (x : Member) where
  -- equal stiffeners of equally wide flanges have room where both have
  pub equal_room : {s₁ s₂ : Stiffener} → FactorsRoom n x.common x.flanges.one.bp x.flanges.two.bp s₁ s₂ → x.flanges.one.bp ≡ x.flanges.two.bp → s₁ ≡ s₂
      → FactorsRoom n x.common x.flanges.one.bp x.flanges.one.bp s₁ s₁
  equal_room {s₁} {s₂} r wide same =
      subst (λ (y : Stiffener). FactorsRoom n x.common x.flanges.one.bp x.flanges.one.bp s₁ y) (sym same)
      (subst (λ (b : Pair). FactorsRoom n x.common x.flanges.one.bp b s₁ s₂) (sym wide) r)

  -- a round whose stiffeners are those of the round before is that round
  pub stays : (r : Both RefinedFlange) → AtMostOwn n x r → stiffener_of n x.common.cp x.flanges.one r.one.chi ≡ r.one.stiffener
      → stiffener_of n x.common.cp x.flanges.two r.two.chi ≡ r.two.stiffener → r ≡ round n x r.one.chi r.two.chi
  stays r h e₁ e₂ = sym (lowered_again n x r h) ∙ round_from n x r.one.chi r.two.chi (sym e₁) (sym e₂)

  module _ (f : Fine n) (h : Steady n x) where
    -- the first working has room
    pub first_room : {χ : Pair} → χ ≡ whole n 1 → RoundRoom n x χ χ
    first_room e = rw e (h.room _ _ (one-Factor f) (one-Factor f))

    -- and so has the round behind each
    pub next_room : (i : ℕ) {r : Both RefinedFlange} → r ≡ rounds n x i → RoundRoom n x r.one.chi r.two.chi
    next_room i e = let most : FactorsMost n (rounds n x i) = factors_most f h i in rw e (h.room _ _ most.one most.two)

  -- the first working, as it is worked
  pub first_is : 0 < n → rounds n x 0 ≡ factors_of n x (both n x (whole n 1) (whole n 1))
  unfolding rounds round refined_flange
  first_is n⁺ = sym (first_factors n x n⁺)

  -- a round that leaves both factors as they were is the last
  pub settled_is : (i times : ℕ) {r r' : Both RefinedFlange} → r ≡ rounds n x i → r' ≡ round n x r.one.chi r.two.chi
      → r'.one.chi ≡ r.one.chi → r'.two.chi ≡ r.two.chi → i < times → r' ≡ rounds n x times
  settled_is i times now call same₁ same₂ l =
      let next = next_round n x i now call ∙ ap (rounds n x) (add-one i) in
      next
      ∙ sym (settled n x i times
      (sym (ap (λ (r : Both RefinedFlange). r.one.chi) next) ∙ same₁ ∙ ap (λ (r : Both RefinedFlange). r.one.chi) now)
      (sym (ap (λ (r : Both RefinedFlange). r.two.chi) next) ∙ same₂ ∙ ap (λ (r : Both RefinedFlange). r.two.chi) now) l)
