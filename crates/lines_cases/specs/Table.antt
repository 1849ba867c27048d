-- The table of five lines that the cases use.
use Prim.Native.Char.{code}
use Rattle.std.specs.Prelude.{List, [], ◌∷◌}
use Rattle.lines.specs.Ascii.{bytes}
use Rattle.lines.specs.Fields.{Field}
use Rattle.lines.specs.declared.keys.Kind.TheVariants.{Letter, Number, Signed}

unfoldable pub table : List Field
table =
    record { key = bytes "form="; kind = Letter (code "C") (code "Z") }
    ∷ record { key = bytes "n="; kind = Number }
    ∷ record { key = bytes "longest="; kind = Number }
    ∷ record { key = bytes "z="; kind = Signed }
    ∷ record { key = bytes "live="; kind = Letter (code "0") (code "1") } ∷ []
