-- The lines of a sheet and of a certificate: their keys, and what each may hold. (docs/WORKING.md, 14.)
use Rattle.std.specs.Prelude.{ℕ, ◌+◌, List, [], ◌∷◌, ◌++◌}
use Prim.Native.Char.{code}
use Prim.Native.String.{String}
use Rattle.lines.specs.declared.keys.Kind.{Kind}
use Rattle.lines.specs.declared.keys.Kind.TheVariants.{Letter, Number, Signed}
use Rattle.lines.specs.Ascii.{bytes}
use Rattle.lines.specs.Fields.{Field}
use Rattle.section.specs.Sheets.{sheet_lines}

-- a key, and what stands behind it
infix 60 ◌holds◌
abbrev pub ◌holds◌ : String → Kind → Field
key holds kind = record { key = bytes key; kind = kind }

-- the letter of a form: C is 0, Z is 1
abbrev pub form_kind : Kind
form_kind = Letter (code "C") (code "Z")

-- the lines of a sheet
unfoldable pub sheet_fields : List Field
sheet_fields =
    ("form=" holds form_kind)
    ∷ ("h=" holds Number)
    ∷ ("b1=" holds Number)
    ∷ ("b2=" holds Number)
    ∷ ("c=" holds Number)
    ∷ ("r=" holds Number)
    ∷ ("tnom=" holds Number)
    ∷ ("t=" holds Number)
    ∷ ("fyb=" holds Number)
    ∷ ("gm0=" holds Number)
    ∷ ("rounds=" holds Number)
    ∷ ("allow=" holds Number)
    ∷ ("fine=" holds Number)
    ∷ []

-- those behind them in a certificate
unfoldable pub figure_fields : List Field
figure_fields =
    ("area=" holds Number)
    ∷ ("axial=" holds Number)
    ∷ ("chi1=" holds Number)
    ∷ ("chi2=" holds Number)
    ∷ ("shiftlo=" holds Signed)
    ∷ ("shifthi=" holds Signed)
    ∷ []

abbrev pub figure_lines : ℕ
figure_lines = 6

abbrev pub certificate_lines : ℕ
certificate_lines = sheet_lines + figure_lines

unfoldable pub certificate_fields : List Field
certificate_fields = sheet_fields ++ figure_fields
