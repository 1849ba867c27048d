-- The thirteen marked cases of document 01, in its order, as document 02 amends them: the tenth by W-201, and each sheet has fine=1 (W-204). What is
-- worked by our definitions, and what the paper expects of it.
-- Pairs are in millionths, the units of the scale 1,000,000. One theorem shows the list: `marked_cases` of proofs/Marked.
use Rattle.std.specs.Prelude.{ℕ, List, [], ◌∷◌, ◌++◌, ◌≡◌, ℤ, pos}
use Rattle.pair.specs.Pairs.{◌to◌, exact, over, root, cube_root}
use Rattle.pair.specs.Integers.{◌≼ℤ◌}
use Rattle.section.specs.Working.{scale_of, ρ_plane, ρ_lip, χ, k}
use Rattle.section.specs.Figures.{Printed}
use Rattle.lines.specs.Ascii.{bytes}
use Rattle.lines.specs.Texts.{longest}
use Rattle.lines.specs.Reading.{Reading, values, bad_line, read_lines}
use Rattle.certificate.specs.Keys.{certificate_fields}
use Rattle.certificate.specs.Refusals.{refusal_answer}
use Rattle.certificate.specs.Certificates.{figures_shown}
use Rattle.certificate.specs.Outcome.{outcome}
use Rattle.questions.specs.Answers.{answer}
use Rattle.questions.specs.Outcomes.{Outcome, refused, written, answer_of}
use Rattle.certificate.specs.declared.Refusal.{Refusal}

-- what is worked, and the value that the paper expects, or the two numbers that it is to lie between; or two such in one case
infix 3 ◌gives◌
infix 3 ◌lies_between◌and◌
infixr 2 ◌also◌
pub data Case : Type 1 where
  ◌gives◌ : {A : Type 0} → A → A → Case
  ◌lies_between◌and◌ : ℤ → ℤ → ℤ → Case
  ◌also◌ : Case → Case → Case

-- what a case says
abbrev pub Says : Case → Type 0
Says (worked gives expected) = worked ≡ expected
Says (worked lies_between least and most) = (least ≼ℤ worked) × (worked ≼ℤ most)
Says (a also b) = Says a × Says b

-- each case holds
abbrev pub Each : List Case → Type 0
Each [] = Unit
Each (c ∷ cs) = Says c × Each cs

-- Sheet A
unfoldable pub sheet_a : List ℕ
sheet_a = bytes "form=C\nh=7200\nb1=4200\nb2=4200\nc=1600\nr=300\ntnom=200\nt=200\nfyb=235\ngm0=1000\nrounds=0\nallow=0\nfine=1\n"

-- Sheet B (profile of 002)
unfoldable pub sheet_b : List ℕ
sheet_b = bytes "form=C\nh=20000\nb1=7400\nb2=6600\nc=2080\nr=300\ntnom=200\nt=196\nfyb=350\ngm0=1000\nrounds=1\nallow=10\nfine=1\n"

-- B with allow=0
unfoldable pub sheet11 : List ℕ
sheet11 = bytes "form=C\nh=20000\nb1=7400\nb2=6600\nc=2080\nr=300\ntnom=200\nt=196\nfyb=350\ngm0=1000\nrounds=1\nallow=0\nfine=1\n"

-- A with c=2600
unfoldable pub sheet12 : List ℕ
sheet12 = bytes "form=C\nh=7200\nb1=4200\nb2=4200\nc=2600\nr=300\ntnom=200\nt=200\nfyb=235\ngm0=1000\nrounds=0\nallow=0\nfine=1\n"

-- A with b1=b2=2000, c=1200, r=0, tnom=100, t=95
unfoldable pub sheet13 : List ℕ
sheet13 = bytes "form=C\nh=7200\nb1=2000\nb2=2000\nc=1200\nr=0\ntnom=100\nt=95\nfyb=235\ngm0=1000\nrounds=0\nallow=0\nfine=1\n"

-- room for any certificate
abbrev pub room : ℕ
room = longest certificate_fields

-- the figures that a written text shows where it is read back; all 0 where there are none
unfoldable pub figures_read : Reading → Printed
figures_read (values vs) = figures_shown vs
figures_read (bad_line l) = figures_shown []

unfoldable pub figures_in : Outcome Refusal → Printed
figures_in (written t) = figures_read (read_lines certificate_fields t)
figures_in (refused r) = figures_shown []

unfoldable pub figures_b : Printed
figures_b = figures_in (outcome sheet_b room)

unfoldable pub marked : List Case
marked =
    -- 1. Root of 2
    (root (scale_of 1) (exact 2000000) gives 1414213 to 1414214)
    -- 2. Cube root of 0.008
    ∷ (cube_root (scale_of 1) (exact 8000) gives 200000 to 200000)
    -- 3. 2÷3
    ∷ (over (scale_of 1) (exact 2000000) (exact 3000000) gives 666666 to 666667)
    -- 4. Web ρ at u = 1
    ∷ (ρ_plane 1 (exact 1000000) gives exact 780000)
    -- 5. Lip ρ at 1
    ∷ (ρ_lip 1 (exact 1000000) gives exact 812000)
    -- 6. χ at 0.65, and at 1
    ∷ (χ 1 (exact 650000) gives exact 1000000 also χ 1 (exact 1000000) gives exact 747000)
    -- 7. χ of (1379999, 1380000)
    ∷ (χ 1 (1379999 to 1380000) gives 472260 to 478261)
    -- 8. k at q = 0.475
    ∷ (k 1 (exact 475000) gives exact 707500)
    -- 9. Sheet A gives its lines and the six behind them
    ∷ (outcome sheet_a room gives written (sheet_a ++ bytes "area=36000\naxial=84600\nchi1=1000\nchi2=1000\nshiftlo=0\nshifthi=0\n"))
    -- 10. Sheet B: the figures that its certificate shows (W-201)
    ∷ (figures_b.chi1 gives 693
    also figures_b.chi2 gives 740
    also pos figures_b.area lies_between pos 43740 and pos 43770
    also figures_b.shiftlo lies_between pos 120 and pos 128
    also figures_b.shifthi lies_between pos 120 and pos 128)
    -- 11. B with allow=0: its number and line, and length 0, as for the two behind it
    ∷ (answer_of refusal_answer (outcome sheet11 room) gives answer 11 12 0)
    -- 12. A with c=2600
    ∷ (answer_of refusal_answer (outcome sheet12 room) gives answer 7 3 0)
    -- 13. A with b1=b2=2000, c=1200, r=0, tnom=100, t=95
    ∷ (answer_of refusal_answer (outcome sheet13 room) gives answer 9 3 0)
    ∷ []
