-- One flange's part of a round: at m × n it lies inside that at n, where a and J of its stiffener at n are above zero; and it lies in a box and has room.
-- Both hold for any kf (up to 6, 0 for a flange that is refined alone) and for any o (up to 60 t) as the other flange's g.
use Prim.Native.Nat.{ℕ, ◌*◌, ◌<◌}
use mathlib.Core.Path.{◌≡◌}
use mathlib.Core.Bool.{true}
use native.Mathlib.Nat.{mul-pos}
use native.Mathlib.Omega.{arith}
use lib.Dec.{lit<, lit≤}
use Rattle.pair.specs.Pairs.{◌to◌}
use Rattle.pair.specs.Fits.{over_fits}
use Rattle.pair.specs.Enclosure.{Inside, Positive}
use Rattle.pair.specs.declared.Pair.{Pair}
use Rattle.pair.proofs.Laws.{Positive-Inside, over_box, smaller_box, smaller-Inside}
use Rattle.section.specs.declared.Flange.{Flange}
use Rattle.section.specs.declared.Common.{Common}
use Rattle.section.specs.declared.Stiffener.{Stiffener}
use Rattle.section.specs.declared.RefinedFlange.{RefinedFlange}
use Rattle.section.specs.Working.{scale_of, mm, core, strength, stiffener_of, g, inertia_of, stress_of, kf, flexibility_of, ud, χ_of, refined_flange}
use Rattle.section.specs.Parts.{Fine}
use Rattle.section.specs.Room.{FactorRoom}
use Rattle.section.proofs.PartsInside.{FlangeInside, StiffenerInside, RefinedInside, CommonInside}
use Rattle.section.proofs.Ends.{scale}
use Rattle.section.proofs.Factor.{χ_box}
use Rattle.section.proofs.Formulas.{stiffener_inside, g-Inside, inertia_of-Inside, χ_of-Inside}
use Rattle.section.proofs.BoxRooms.{box_positive, box_slim, over_room}
use Rattle.section.proofs.SheetNumbers.{FlangeNumbers, Beside}
use Rattle.section.proofs.SizesOfWidths.{FlangeBox}
use Rattle.section.proofs.SizesOfStiffeners.{StiffenerBox, stiffener_box, stiffener_range, g_thin, g_wide, inertia_of_box, inertia_room, stress_of_box, stress_room}
use Rattle.section.proofs.SizesOfFactors.{flexibility_of_box, bend_room, ud_box, ud_room}

-- what a flange's part divides by: a and J of its stiffener
pub record StiffenerDivisors (n : ℕ) (t : Pair) (s : Stiffener) : Type 0 where
  pub a : Positive s.a
  pub inertia : Positive (inertia_of n t s)

-- above zero at n, so at m × n
pub divisors_finer : {n m : ℕ} {t t' : Pair} {s s' : Stiffener} → 0 < n → 0 < m → Inside m t' t → StiffenerInside m s' s
    → StiffenerDivisors n t s → StiffenerDivisors (m * n) t' s'
divisors_finer n⁺ m⁺ t_in i d = record { a = Positive-Inside m⁺ i.a d.a; inertia = Positive-Inside m⁺ (inertia_of-Inside n⁺ m⁺ d.a t_in i) d.inertia }

module _ {n m : ℕ} (n⁺ : 0 < n) (m⁺ : 0 < m) {x x' : Common} (t⁺ : Positive (core n x)) (x_in : CommonInside n m x' x) where
  pub refined_inside : {f f' : Flange} {χ₀ χ₀' kf kf' o o' : Pair} → FlangeInside m f' f → StiffenerDivisors n (core n x) (stiffener_of n x.cp f χ₀)
      → Inside m χ₀' χ₀ → Inside m kf' kf → Inside m o' o → RefinedInside m (refined_flange (m * n) x' f' χ₀' kf' o') (refined_flange n x f χ₀ kf o)
  unfolding refined_flange
  refined_inside f_in d χ₀_in kf_in o_in =
      let s = stiffener_inside n⁺ m⁺ x_in.cp f_in χ₀_in in
      let new = χ_of-Inside n⁺ m⁺ t⁺ d.a d.inertia x_in kf_in (g-Inside n⁺ m⁺ d.a f_in.bp s) o_in s in
      record { stiffener = s; chi = smaller-Inside new χ₀_in }

-- a and J of a stiffener in its box are above zero, for a flange of width β in 0.01 mm with a lip of γ in 0.005 mm
pub box_divisors : {n t fyb γ β : ℕ} {s : Stiffener} → Fine n → FlangeNumbers t fyb γ β → StiffenerBox n γ β s → StiffenerDivisors n (mm n t) s
box_divisors {n} {t} f v b =
    let t⁺ : 0 < t = omega arith in
    record { a = box_positive f (lit< tt) (stiffener_range n f v b).a; inertia = box_positive f (omega (arith, mul-pos t⁺ t⁺)) (inertia_of_box n f v b) }

-- kf of a flange of width β is at most 6 where the other flange, of width β', is not too wide beside it
module _ {n t fyb γ β β' : ℕ} (f : Fine n) (v : FlangeNumbers t fyb γ β) (near : Beside γ β β')
    {s s' : Stiffener} (b : StiffenerBox n γ β s) (b' : StiffenerBox n γ β' s') where
  pub kf_box : Inside n (kf n s s') (0 to 6000000)
  unfolding kf
  kf_box = over_box 0 6000000 (scale f) (omega arith) (omega arith) b'.a b.a (omega arith) (omega arith)

  pub kf_room : over_fits (scale_of n) s'.a s.a ≡ true
  unfolding kf
  kf_room = over_room f s'.a s.a (omega arith) b.a kf_box (lit≤ tt)

pub record RefinedBox (n γ β : ℕ) (r : RefinedFlange) : Type 0 where
  pub stiffener : StiffenerBox n γ β r.stiffener
  pub chi : Inside n r.chi (0 to 1000000)

module _ {n : ℕ} (f : Fine n) (x : Common) {γ β : ℕ} (v : FlangeNumbers x.steel.t.0 x.steel.fyb γ β) (hp_in : Inside n x.hp (0 to 500000000))
    {kf o : Pair} (kf_in : Inside n kf (0 to 6000000)) (o_in : Inside n o (0 to 600000 * x.steel.t.0)) where
  -- from a box of its stiffener
  module _ {bp : Pair} {s : Stiffener} (bp_box : Inside n bp (10000 * β to 10000 * β)) (b : StiffenerBox n γ β s) where
    t⁺ : 0 < x.steel.t.0
    t⁺ = omega arith

    flexibility_in : Inside n (flexibility_of n x.hp kf (g n bp s) o) (0 to 792000000 * (x.steel.t.0 * x.steel.t.0))
    flexibility_in = flexibility_of_box n f x.steel.t.0 v.thick hp_in kf_in (g_thin n f v b bp_box) (g_wide n f v b bp_box) o_in

    ud_in : Inside n (ud n (flexibility_of n x.hp kf (g n bp s) o) (inertia_of n (core n x) s) (stress_of n (core n x) (strength n x) s)) (0 to 33500000)
    ud_in = ud_box n f x.steel.t.0 t⁺ flexibility_in (inertia_of_box n f v b) (stress_of_box n f v b)

    pub factor_room : FactorRoom n x kf (g n bp s) o s
    factor_room = record {
      bend = bend_room n f x.steel.t.0 v.thick hp_in kf_in (g_thin n f v b bp_box) (g_wide n f v b bp_box) o_in;
      inertia = inertia_room n f v b;
      stress = stress_room n f v b;
      slender = ud_room n f x.steel.t.0 t⁺ flexibility_in (inertia_of_box n f v b) (stress_of_box n f v b);
      slim = box_slim f ud_in (lit≤ tt);
    }

    χ_in : Inside n (χ_of n x kf (g n bp s) o s) (0 to 1000000)
    unfolding χ_of
    χ_in = χ_box f.some ud_in

  pub refined_box : (l : Flange) (χ₀ : Pair) → Inside n x.cp (5000 * γ to 5000 * γ) → FlangeBox n β l → Inside n χ₀ (0 to 1000000)
      → RefinedBox n γ β (refined_flange n x l χ₀ kf o)
  unfolding refined_flange
  refined_box l χ₀ cp_box b χ₀_in =
      let s = stiffener_box n f v l χ₀ cp_box b χ₀_in in
      record { stiffener = s; chi = smaller_box (χ_in b.bp s) χ₀_in }
