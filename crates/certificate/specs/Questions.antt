-- The questions on a sheet's numbers, in order, and what they give. (docs/WORKING.md, 15.)
use Rattle.std.specs.Prelude.{ℕ, List, [], ◌∷◌, ◌++◌, Result, Ok, Err}
use Rattle.section.specs.declared.Sheet.{Sheet}
use Rattle.section.specs.declared.Figures.{Figures}
use Rattle.questions.specs.Claims.{Claim, ◌and◌, ◌or◌}
use Rattle.questions.specs.Asking.{Asked, ◌else◌, asked_from, first_in}
use Rattle.section.specs.Sheets.{◌upto◌, one_of, in_ranges, fineness, lip, core_within, width, lip_length, depth, radius_core, radius_flange, mid_line_lip, form_z, lips_apart}
use Rattle.section.specs.Figures.{Printed, own_figures, allowance}
use Rattle.section.specs.Forms.{figures_of}
use Rattle.certificate.specs.declared.Refusal.{Refusal}
use Rattle.certificate.specs.declared.Refusal.TheVariants.{Range, Thickness, FlangeWidth, LipLength, Depth, LipRatio, Radius, MidLineRatio, Form, Allowance}
use Rattle.certificate.specs.declared.verdicts.Span.{Span}
use Rattle.certificate.specs.declared.verdicts.Span.TheVariants.{Upto, OneOf}
use Rattle.certificate.specs.declared.Flange.TheVariants.{One, Two}
use Rattle.certificate.specs.Refusals.{flange_line}

-- Is every value in range?
unfoldable pub question2 : Sheet → List (Asked Refusal)
question2 q = asked_from Range 1 (in_ranges q)

-- t ≤ tnom?
abbrev pub question3 : Sheet → List (Asked Refusal)
question3 q = (core_within q.t.0 q.tnom.0 else Thickness) ∷ []

-- b ≤ 60t, flange 1 then 2?
abbrev pub question4 : Sheet → List (Asked Refusal)
question4 q = (width q.b1 q.t.0 else FlangeWidth (flange_line One)) ∷ (width q.b2 q.t.0 else FlangeWidth (flange_line Two)) ∷ []

-- c ≤ 50t?
abbrev pub question5 : Sheet → List (Asked Refusal)
question5 q = (lip_length q.c q.t.0 else LipLength) ∷ []

-- h ≤ 500t?
abbrev pub question6 : Sheet → List (Asked Refusal)
question6 q = (depth q.h q.t.0 else Depth) ∷ []

-- b ≤ 5c and 5c ≤ 3b, flange 1 then 2?
abbrev pub question7 : Sheet → List (Asked Refusal)
question7 q = (lip q.b1 q.c else LipRatio (flange_line One)) ∷ (lip q.b2 q.c else LipRatio (flange_line Two)) ∷ []

-- r ≤ 5t and 10r ≤ bp1 and 10r ≤ bp2?
abbrev pub question8 : Sheet → List (Asked Refusal)
question8 q =
    (radius_core q.r q.t.0 and radius_flange q.r q.b1 q.tnom.0 and radius_flange q.r q.b2 q.tnom.0 else Radius) ∷ []

-- 5cp ≤ 3bp, flange 1 then 2?
abbrev pub question9 : Sheet → List (Asked Refusal)
question9 q =
    (mid_line_lip q.b1 q.c q.tnom.0 else MidLineRatio (flange_line One)) ∷ (mid_line_lip q.b2 q.c q.tnom.0 else MidLineRatio (flange_line Two)) ∷ []

-- Form Z, or 2c ≤ h?
abbrev pub question10 : Sheet → List (Asked Refusal)
question10 q = (form_z q.form or lips_apart q.c q.h else Form) ∷ []

-- Is the area's upper end at most area + allow, as worked at the sheet's own scale?
unfoldable pub question11 : Sheet → List (Asked Refusal)
question11 q = (allowance (fineness q) q else Allowance) ∷ []

-- the questions that need no working, and all of them up to the eleventh; the first is the second of the paper
unfoldable pub on_numbers : Sheet → List (List (Asked Refusal))
on_numbers q =
    question2 q ∷ question3 q ∷ question4 q ∷ question5 q ∷ question6 q ∷ question7 q ∷ question8 q ∷ question9 q ∷ question10 q ∷ []

unfoldable pub questions : Sheet → List (List (Asked Refusal))
questions q = on_numbers q ++ (question11 q ∷ [])

-- the same in three parts: the ranges, the thicknesses and lengths, and what goes by the flanges' lips and mid-lines
abbrev pub on_lengths : Sheet → List (List (Asked Refusal))
on_lengths q = question3 q ∷ question4 q ∷ question5 q ∷ question6 q ∷ []

abbrev pub on_lips : Sheet → List (List (Asked Refusal))
on_lips q = question7 q ∷ question8 q ∷ question9 q ∷ question10 q ∷ []

unfoldable pub first_refusal : Sheet → Result Unit Refusal
first_refusal q = first_in (on_numbers q)

-- what a sheet gives before anything is written: the refusal, or its figures
abbrev pub judged : Result Unit Refusal → Printed → Result Printed Refusal
judged (Err r) p = Err r
judged (Ok u) p = Ok p

unfoldable pub verdict : Sheet → Result Printed Refusal
verdict q = judged (first_in (questions q)) (own_figures q)

-- the same as the code returns it
abbrev pub verdict_of : Result Printed Refusal → Result Figures Refusal
verdict_of (Err r) = Err r
verdict_of (Ok p) = Ok (figures_of p)

-- what a row of the code's table of ranges claims of a value
abbrev pub spanned : Span → ℕ → Claim
spanned (Upto least most) v = (least upto most) v
spanned (OneOf a b) v = one_of a b v
