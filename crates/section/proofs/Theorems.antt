-- What is proved of written constants, and of every sheet that meets questions 2 to 10, in one place.
use Prim.Native.Nat.{ℕ, ◌*◌, ◌≤◌, ◌<◌}
use mathlib.Core.List.{List, ◌∷◌}
use mathlib.Core.Logic.{◌⊎◌, inl, inr}
use mathlib.Core.Path.{◌≡◌}
use native.Mathlib.Omega.{arith}
use Rattle.section.specs.declared.Sheet.{Sheet}
use Rattle.section.specs.Sheets.{sheet_of, values_of, with_rounds, fineness}
use Rattle.section.specs.Sound.{Question2, Sound}
use Rattle.section.specs.Working.{member_of, worked}
use Rattle.section.specs.Figures.{figures, own_figures, Question11, WithinPrinted}
use Rattle.section.specs.Parts.{Fine, own_factors, round_of}
use Rattle.section.specs.Nested.{WorkedInside}
use Rattle.section.specs.Exchanged.{FlangesExchanged}
use Rattle.section.specs.Refining.{NotRaised, PrintedNotRaised}
use Rattle.section.specs.Uncut.{Uncut, QuestionsUncut}
use Rattle.section.specs.Divisors.{DivisorsAboveZero}
use Rattle.section.specs.Constants.{ConstantsExact}
use Rattle.section.proofs.Ends.{every_constant_exact}
use Rattle.section.proofs.Whole.{worked_inside}
use Rattle.section.proofs.Promise.{held}
use Rattle.section.proofs.SizesOfSheets.{Sound-divisors}
use Rattle.section.proofs.PrintedFigures.{FiguresBelow, figures_below}
use Rattle.section.proofs.NothingCut.{uncut, questions_uncut}
use Rattle.section.proofs.NothingZero.{nothing_zero}
use Rattle.section.proofs.Exchange.{figures_exchanged}
use Rattle.section.proofs.Falling.{rounds-NotRaised, figures_not_raised}
use Rattle.section.proofs.RoundForms.{first_factors}

-- written constants and sheet numbers are exact, at any scale
pub constants_exact : {n : ℕ} → 0 < n → ConstantsExact n
constants_exact n⁺ = every_constant_exact n⁺

-- no divisor is zero, at any scale and in any round
pub divisors_above_zero : {n : ℕ} (q : Sheet) → 0 < n → Sound q → DivisorsAboveZero n q
divisors_above_zero q n⁺ s = nothing_zero q n⁺ s

-- no subtraction of natural numbers is cut at zero, at any scale and in any round
pub nothing_cut_at_zero : {n : ℕ} (q : Sheet) → 0 < n → Sound q → Uncut n q
nothing_cut_at_zero q n⁺ s = uncut q n⁺ s

-- nor is one of the questions, asked where the second is met
pub questions_not_cut : (q : Sheet) → Question2 q → QuestionsUncut q
questions_not_cut q r = questions_uncut q r

-- the working at m times a scale lies inside the working at that scale: area, both χ, z, gross z and shift
pub finer_working_inside : {n m : ℕ} (q : Sheet) → 0 < n → 0 < m → Sound q → WorkedInside m (worked (m * n) q) (worked n q)
finer_working_inside q n⁺ m⁺ s = worked_inside n⁺ m⁺ q (Sound-divisors q n⁺ s)

-- and both ends of its area, axial resistance and shift are held by what is printed at that scale, where the eleventh question is met
pub finer_working_held : {n m : ℕ} (q : Sheet) → 0 < n → 0 < m → Sound q → Question11 n q → WithinPrinted (m * n) (figures n q) q.allow q.fyb q.gm0 (worked (m * n) q)
finer_working_held q n⁺ m⁺ s a =
    held n⁺ m⁺ q (omega (arith, s.q2.gm0.0)) (Sound-divisors q n⁺ s) a

either_fine : {n : ℕ} → (n ≡ 1) ⊎ (n ≡ 10) → Fine n
either_fine (inl e) = record { some = omega (arith, e); most = omega (arith, e) }
either_fine (inr e) = record { some = omega (arith, e); most = omega (arith, e) }

-- a sheet's own fineness is one that the code works at
pub fineness-Fine : (q : Sheet) → Question2 q → Fine (fineness q)
unfolding fineness
fineness-Fine q h = either_fine h.fine

-- two sheets that are alike but for b1 and b2, which are exchanged, have chi1 and chi2 exchanged, and the same area and axial resistance
pub flanges_exchanged : (form h b1 b2 : ℕ) (rest : List ℕ)
    → FlangesExchanged (own_figures (sheet_of (form ∷ h ∷ b1 ∷ b2 ∷ rest))) (own_figures (sheet_of (form ∷ h ∷ b2 ∷ b1 ∷ rest)))
unfolding fineness sheet_of
flanges_exchanged form h b1 b2 rest = figures_exchanged (fineness (sheet_of (form ∷ h ∷ b1 ∷ b2 ∷ rest))) form h b1 b2 rest

-- refining never goes upward: no end of either χ rises from a round to a later one, at any fineness
pub factors_never_rise : (n : ℕ) (q : Sheet) {i j : ℕ} → i ≤ j → NotRaised (round_of n q j) (round_of n q i)
factors_never_rise n q h = rounds-NotRaised n (member_of n q) h

-- nor do chi1 and chi2, printed of a sheet and of the same one with more rounds
pub printed_factors_never_rise : (q : Sheet) {i j : ℕ} → i ≤ j → PrintedNotRaised (own_figures (with_rounds j q)) (own_figures (with_rounds i q))
unfolding fineness with_rounds sheet_of values_of
printed_factors_never_rise q h = figures_not_raised (fineness q) q h

-- the first working has no χ before it: its factors are those that its own stiffeners give
pub first_factors_own : {n : ℕ} (q : Sheet) → 0 < n → own_factors n (member_of n q) (round_of n q 0) ≡ round_of n q 0
first_factors_own {n} q n⁺ = first_factors n (member_of n q) n⁺

-- no printed figure has more than ten digits
pub figures_have_ten_digits : (q : Sheet) → Sound q → FiguresBelow 10000000000 (own_figures q)
figures_have_ten_digits q s = figures_below (fineness-Fine q s.q2) s
