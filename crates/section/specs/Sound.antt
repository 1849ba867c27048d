-- The questions on a sheet's numbers, 2 to 10, each as a record: what section's theorems and contracts ask.
-- This need not be believed beside specs/Sheets: each record is what the claims of that question say, and crate certificate proves the two the same, both ways.
use Rattle.std.specs.Prelude.{ℕ, ◌-◌, ◌⊎◌, get_or}
use Rattle.section.specs.declared.Sheet.{Sheet}
use Rattle.questions.specs.Claims.{Claim, Holds}
use Rattle.section.specs.Sheets.{◌upto◌, ranges, core_within, width, lip_length, depth, lip_long, lip_short, radius_core, radius_flange, mid_line_lip, form_z, lips_apart}

-- the range of a line, counted from 1
abbrev pub range_of : ℕ → ℕ → Claim
range_of l = get_or ranges (l - 1) (0 upto 0)

pub record Question2 (q : Sheet) : Type 0 where
  pub form : Holds (range_of 1 q.form)
  pub h : Holds (range_of 2 q.h)
  pub b1 : Holds (range_of 3 q.b1)
  pub b2 : Holds (range_of 4 q.b2)
  pub c : Holds (range_of 5 q.c)
  pub r : Holds (range_of 6 q.r)
  pub tnom : Holds (range_of 7 q.tnom.0)
  pub t : Holds (range_of 8 q.t.0)
  pub fyb : Holds (range_of 9 q.fyb)
  pub gm0 : Holds (range_of 10 q.gm0)
  pub rounds : Holds (range_of 11 q.rounds)
  pub allow : Holds (range_of 12 q.allow)
  pub fine : Holds (range_of 13 q.fine)

pub record Question3 (q : Sheet) : Type 0 where
  pub thin : Holds (core_within q.t.0 q.tnom.0)

pub record Question4 (q : Sheet) : Type 0 where
  pub b1 : Holds (width q.b1 q.t.0)
  pub b2 : Holds (width q.b2 q.t.0)

pub record Question5 (q : Sheet) : Type 0 where
  pub c : Holds (lip_length q.c q.t.0)

pub record Question6 (q : Sheet) : Type 0 where
  pub h : Holds (depth q.h q.t.0)

-- a lip beside its flange
pub record Lip (b c : ℕ) : Type 0 where
  pub long : Holds (lip_long b c)
  pub short : Holds (lip_short b c)

pub record Question7 (q : Sheet) : Type 0 where
  pub b1 : Lip q.b1 q.c
  pub b2 : Lip q.b2 q.c

pub record Question8 (q : Sheet) : Type 0 where
  pub t : Holds (radius_core q.r q.t.0)
  pub bp1 : Holds (radius_flange q.r q.b1 q.tnom.0)
  pub bp2 : Holds (radius_flange q.r q.b2 q.tnom.0)

pub record Question9 (q : Sheet) : Type 0 where
  pub bp1 : Holds (mid_line_lip q.b1 q.c q.tnom.0)
  pub bp2 : Holds (mid_line_lip q.b2 q.c q.tnom.0)

pub record Question10 (q : Sheet) : Type 0 where
  pub form : Holds (form_z q.form) ⊎ Holds (lips_apart q.c q.h)

-- all the questions on numbers, 2 to 10
pub record Sound (q : Sheet) : Type 0 where
  pub q2 : Question2 q
  pub q3 : Question3 q
  pub q4 : Question4 q
  pub q5 : Question5 q
  pub q6 : Question6 q
  pub q7 : Question7 q
  pub q8 : Question8 q
  pub q9 : Question9 q
  pub q10 : Question10 q
