-- What the questions ask, with the lines that they name, and what it says that a sheet meets them or is refused by one. (docs/WORKING.md, 15.)
use Rattle.std.specs.Prelude.{List, [], ◌∷◌, ◌++◌, ◌≡◌, Result, Err}
use Rattle.questions.specs.declared.Answer.{Answer}
use Rattle.questions.specs.Claims.{◌and◌, ◌or◌}
use Rattle.questions.specs.Reasons.{Lined, ◌at_line◌, lined_from}
use Rattle.section.specs.declared.Sheet.{Sheet}
use Rattle.section.specs.Sheets.{in_ranges, fineness, lip, core_within, width, lip_length, depth, radius_core, radius_flange, mid_line_lip, form_z, lips_apart}
use Rattle.section.specs.Figures.{Printed, allowance}
use Rattle.certificate.specs.declared.Refusal.{Refusal}
use Rattle.certificate.specs.Refusals.{refusal_answer}

-- The claims of the questions from the second to the tenth, each with the line that the paper names for it.
unfoldable pub lines_on_numbers : Sheet → List (List Lined)
lines_on_numbers q =
    -- Is every value in range? No: 2, first such line.
    lined_from 1 (in_ranges q)
    -- t ≤ tnom? No: 3, line 8.
    ∷ ((core_within q.t.0 q.tnom.0 at_line 8) ∷ [])
    -- b ≤ 60t, flange 1 then 2? No: 4, line 3 or 4.
    ∷ ((width q.b1 q.t.0 at_line 3) ∷ (width q.b2 q.t.0 at_line 4) ∷ [])
    -- c ≤ 50t? No: 5, line 5.
    ∷ ((lip_length q.c q.t.0 at_line 5) ∷ [])
    -- h ≤ 500t? No: 6, line 2.
    ∷ ((depth q.h q.t.0 at_line 2) ∷ [])
    -- b ≤ 5c and 5c ≤ 3b, flange 1 then 2? No: 7, line 3 or 4.
    ∷ ((lip q.b1 q.c at_line 3) ∷ (lip q.b2 q.c at_line 4) ∷ [])
    -- r ≤ 5t and 10r ≤ bp1 and 10r ≤ bp2? No: 8, line 6.
    ∷ ((radius_core q.r q.t.0 and radius_flange q.r q.b1 q.tnom.0 and radius_flange q.r q.b2 q.tnom.0 at_line 6) ∷ [])
    -- 5cp ≤ 3bp, flange 1 then 2? No: 9, line 3 or 4.
    ∷ ((mid_line_lip q.b1 q.c q.tnom.0 at_line 3) ∷ (mid_line_lip q.b2 q.c q.tnom.0 at_line 4) ∷ [])
    -- Form Z, or 2c ≤ h? No: 10, line 5.
    ∷ ((form_z q.form or lips_apart q.c q.h at_line 5) ∷ [])
    ∷ []

-- Is the area's upper end at most area + allow? No: 11, line 12.
unfoldable pub lines11 : Sheet → List Lined
lines11 q = (allowance (fineness q) q at_line 12) ∷ []

-- the claims up to the eleventh
unfoldable pub lines_of_questions : Sheet → List (List Lined)
lines_of_questions q = lines_on_numbers q ++ (lines11 q ∷ [])

-- a sheet is judged by a refusal whose answer is a
pub record JudgedAs (j : Result Printed Refusal) (a : Answer) : Type 0 where
  pub refusal : Refusal
  pub judged : j ≡ Err refusal
  pub tells : refusal_answer refusal ≡ a
