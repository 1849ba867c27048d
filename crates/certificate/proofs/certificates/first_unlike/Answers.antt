-- `certificate::certificates::first_unlike` meets its contract.
use Prim.Native.Nat.{ℕ, ◌+◌}
use mathlib.Core.Bool.{Bool, cond, not}
use mathlib.Core.List.{List, [], ◌∷◌}
use mathlib.Core.Path.{◌≡◌, refl, ap, ◌∙◌}
use native.Mathlib.Omega.{arith}
use lib.IntN.{ℤ}
use lib.ListN.{length, take, drop, length-drop}
use lib.Seq.{take_all}
use Rattle.std.specs.Bool.{one_answer}
use Rattle.std.specs.Cmp.{signed_Decides}
use Rattle.std.specs.List.{position_from, zip}
use Rattle.std.specs.Ordering.{int_eq}
use Rattle.std.specs.Prelude.{Option, Some}
use Rattle.questions.specs.Asking.{found_at}
use Rattle.questions.specs.Claims.{◌is◌, test}
use Rattle.questions.proofs.Laws.{Holds-test, test-Holds, found_in_turn}
use Rattle.certificate.specs.declared.Refusal.TheVariants.{Figure}
use Rattle.certificate.specs.Forms.{first_unlike}
use Rattle.certificate.proofs.certificates.first_unlike.Goals as goal

-- what `==` answers is what the claim's test does
equal_is : (x y : ℤ) → int_eq x y ≡ test (x is y)
equal_is x y = one_answer (int_eq x y) (test (x is y)) (signed_Decides x y) (test-Holds (x is y), Holds-test (x is y))

unlike_place : (i : ℕ) (ps : List (ℤ × ℤ))
    → position_from (λ p. not (int_eq p.0 p.1)) i ps ≡ position_from (λ p. not (test (p.0 is p.1))) i ps
unlike_place i [] = refl
unlike_place i (p ∷ ps) =
    ap (λ (b : Bool). cond (not b) (Some i) (position_from (λ p. not (int_eq p.0 p.1)) (i + 1) ps)) (equal_is p.0 p.1)
    ∙ ap (cond (not (test (p.0 is p.1))) (Some i)) (unlike_place (i + 1) ps)

-- the figures are all behind the sheet's lines
figures : (vs : List ℤ) → length vs ≡ 19 → take 6 (drop 13 vs) ≡ drop 13 vs
figures vs n = take_all 6 (drop 13 vs) (omega (arith, n, length-drop 13 vs))

found : (vs ws : List ℤ) {o : Option ℕ} → length vs ≡ 19 → length ws ≡ 19
    → o ≡ position_from (λ p. not (int_eq p.0 p.1)) 0 (zip (take 6 (drop 13 vs)) (take 6 (drop 13 ws))) → found_at Figure 14 o ≡ first_unlike vs ws
found vs ws n m e =
    let all = rw (figures vs n, figures ws m) at e in
    ap (found_at Figure 14) (all ∙ unlike_place 0 (zip (drop 13 vs) (drop 13 ws)))
    ∙ found_in_turn ◌is◌ Figure 14 (drop 13 vs) (drop 13 ws)

pub returns : goal.returns
returns c =
    c.refused_at.ensures Figure (λ l r w e. e)
    ∙ found c.args.shown.now c.args.worked.now c.told-shown c.told-worked c.first_difference-place.ensures.value
