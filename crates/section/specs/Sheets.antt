-- A sheet's numbers in the order of its lines, lengths in 0.01 mm, and the claims of the questions on them. (docs/WORKING.md, 14 and 15.)
-- Each claim stands once, here with its numbers; crate certificate asks the claims in order, each with its refusal.
use Rattle.std.specs.Prelude.{ℕ, ◌-◌, ◌*◌, List, [], ◌∷◌, ◌++◌, get_or, take, drop}
use Rattle.section.specs.declared.Sheet.{Sheet}
use Rattle.questions.specs.Claims.{Claim, ◌≤?◌, ◌≡?◌, ◌and◌, ◌or◌, pairwise}

-- how many numbers a sheet has: one for each of its lines
abbrev pub sheet_lines : ℕ
sheet_lines = 13

-- the value of a line, counted from 1
abbrev pub line : List ℕ → ℕ → ℕ
line vs l = get_or vs (l - 1) 0

-- the sheet of its values in the order of the lines
unfoldable pub sheet_of : List ℕ → Sheet
sheet_of vs =
    record {
      form = line vs 1;
      h = line vs 2;
      b1 = line vs 3;
      b2 = line vs 4;
      c = line vs 5;
      r = line vs 6;
      tnom = record { 0 = line vs 7 };
      t = record { 0 = line vs 8 };
      fyb = line vs 9;
      gm0 = line vs 10;
      rounds = line vs 11;
      allow = line vs 12;
      fine = line vs 13;
    }

-- its values in the order of the lines
unfoldable pub values_of : Sheet → List ℕ
values_of q =
    q.form ∷ q.h ∷ q.b1 ∷ q.b2 ∷ q.c ∷ q.r ∷ q.tnom.0 ∷ q.t.0 ∷ q.fyb ∷ q.gm0 ∷ q.rounds ∷ q.allow ∷ q.fine ∷ []

-- the same sheet but for line 11, rounds, which is i
unfoldable pub with_rounds : ℕ → Sheet → Sheet
with_rounds i q = sheet_of (take 10 (values_of q) ++ (i ∷ drop 11 (values_of q)))

-- the fineness of its working: our scale, the sheet's own, is so many times 1,000,000 (W-204)
unfoldable pub fineness : Sheet → ℕ
fineness q = q.fine

-- from `least` to `most`, both included
infix 80 ◌upto◌
abbrev pub ◌upto◌ : ℕ → ℕ → ℕ → Claim
◌upto◌ least most v = least ≤? v and v ≤? most

-- one of two values
abbrev pub one_of : ℕ → ℕ → ℕ → Claim
one_of a b v = v ≡? a or v ≡? b

-- Is every value in range? What each may be, in the order of the lines; form is 0 for C and 1 for Z.
abbrev pub ranges : List (ℕ → Claim)
ranges =
    (0 upto 1)
    ∷ (4000 upto 50000)
    ∷ (2000 upto 20000)
    ∷ (2000 upto 20000)
    ∷ (500 upto 12000)
    ∷ (0 upto 3000)
    ∷ (50 upto 600)
    ∷ (45 upto 600)
    ∷ (200 upto 700)
    ∷ (1000 upto 1500)
    ∷ (0 upto 8)
    ∷ (0 upto 1000)
    ∷ one_of 1 10
    ∷ []

-- the claim of each line: its value is in range
unfoldable pub in_ranges : Sheet → List Claim
in_ranges q = pairwise (λ range v. range v) ranges (values_of q)

-- t ≤ tnom?
abbrev pub core_within : ℕ → ℕ → Claim
core_within t tnom = t ≤? tnom

-- b ≤ 60t, flange 1 then 2?
abbrev pub width : ℕ → ℕ → Claim
width b t = b ≤? 60 * t

-- c ≤ 50t?
abbrev pub lip_length : ℕ → ℕ → Claim
lip_length c t = c ≤? 50 * t

-- h ≤ 500t?
abbrev pub depth : ℕ → ℕ → Claim
depth h t = h ≤? 500 * t

-- b ≤ 5c and 5c ≤ 3b, flange 1 then 2?
abbrev pub lip_long : ℕ → ℕ → Claim
lip_long b c = b ≤? 5 * c

abbrev pub lip_short : ℕ → ℕ → Claim
lip_short b c = 5 * c ≤? 3 * b

abbrev pub lip : ℕ → ℕ → Claim
lip b c = lip_long b c and lip_short b c

-- r ≤ 5t and 10r ≤ bp1 and 10r ≤ bp2?
abbrev pub radius_core : ℕ → ℕ → Claim
radius_core r t = r ≤? 5 * t

abbrev pub radius_flange : ℕ → ℕ → ℕ → Claim
radius_flange r b tnom = 10 * r ≤? b - tnom

-- 5cp ≤ 3bp, flange 1 then 2? Twice, since cp = c − tnom/2 may have half hundredths.
abbrev pub mid_line_lip : ℕ → ℕ → ℕ → Claim
mid_line_lip b c tnom = 5 * (2 * c - tnom) ≤? 6 * (b - tnom)

-- Form Z, or 2c ≤ h?
abbrev pub form_z : ℕ → Claim
form_z form = form ≡? 1

abbrev pub lips_apart : ℕ → ℕ → Claim
lips_apart c h = 2 * c ≤? h
