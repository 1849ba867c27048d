-- A sheet, its figures, and the lines that show them. (docs/WORKING.md, 14.)
use Rattle.std.specs.Prelude.{ℕ, ◌-◌, List, [], ◌∷◌, ◌++◌, map, ℤ, pos, nat_abs, get_or, drop, Result, Ok, Err}
use Rattle.section.specs.declared.Sheet.{Sheet}
use Rattle.questions.specs.Claims.{Claim, ◌is◌, pairwise}
use Rattle.section.specs.Sheets.{sheet_lines, sheet_of, values_of}
use Rattle.section.specs.Figures.{Printed, own_figures}
use Rattle.lines.specs.Texts.{lines_text}
use Rattle.lines.specs.Reading.{Reading, values, bad_line, read_lines}
use Rattle.certificate.specs.declared.Refusal.{Refusal}
use Rattle.certificate.specs.declared.Refusal.TheVariants.{Spelling}
use Rattle.certificate.specs.Keys.{sheet_fields, certificate_fields}

-- the values of a sheet's lines, and of those behind them
unfoldable pub sheet_values : Sheet → List ℤ
sheet_values q = map pos (values_of q)

unfoldable pub figure_values : Printed → List ℤ
figure_values p = pos p.area ∷ pos p.axial ∷ pos p.chi1 ∷ pos p.chi2 ∷ p.shiftlo ∷ p.shifthi ∷ []

-- the sheet's lines, then the six of the working at its own scale
unfoldable pub certificate_values : Sheet → List ℤ
certificate_values q = sheet_values q ++ figure_values (own_figures q)

unfoldable pub certificate_of : Sheet → List ℕ
certificate_of q = lines_text certificate_fields (certificate_values q)

-- the sheet that lines with the values vs show, which are its own and perhaps more behind
unfoldable pub sheet_shown : List ℤ → Sheet
sheet_shown vs = sheet_of (map nat_abs vs)

-- the sheet that bytes are, or their first bad line
unfoldable pub read_sheet : Reading → Result Sheet Refusal
read_sheet (values vs) = Ok (sheet_shown vs)
read_sheet (bad_line l) = Err (Spelling l)

unfoldable pub sheet_in : List ℕ → Result Sheet Refusal
sheet_in s = read_sheet (read_lines sheet_fields s)

-- the values of a certificate's lines, or the first bad line
unfoldable pub read_certificate : Reading → Result (List ℤ) Refusal
read_certificate (values vs) = Ok vs
read_certificate (bad_line l) = Err (Spelling l)

unfoldable pub certificate_in : List ℕ → Result (List ℤ) Refusal
certificate_in c = read_certificate (read_lines certificate_fields c)

-- the figures that the lines behind the sheet's show
abbrev pub behind : List ℤ → ℕ → ℤ
behind vs l = get_or (drop sheet_lines vs) (l - 1) (pos 0)

unfoldable pub figures_shown : List ℤ → Printed
figures_shown vs =
    record {
      area = nat_abs (behind vs 1);
      axial = nat_abs (behind vs 2);
      chi1 = nat_abs (behind vs 3);
      chi2 = nat_abs (behind vs 4);
      shiftlo = behind vs 5;
      shifthi = behind vs 6;
    }

-- the figures that a certificate's bytes show, none where they are not its lines
unfoldable pub figures_read : Reading → Printed
figures_read (values vs) = figures_shown vs
figures_read (bad_line l) = figures_shown []

unfoldable pub figures_in : List ℕ → Printed
figures_in c = figures_read (read_lines certificate_fields c)

-- the lines behind the sheet's, with the values vs, are those of the working
unfoldable pub agreeing : List ℤ → Sheet → List Claim
agreeing vs q = pairwise ◌is◌ (drop sheet_lines vs) (figure_values (own_figures q))
