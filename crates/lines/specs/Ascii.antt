-- Bytes by their names in ASCII.
use Rattle.std.specs.Prelude.{ℕ, List, [], ◌∷◌}
use Prim.Native.Char.{code}
use Prim.Native.String.{String}
use Prim.Native.String.{[] as String·[], ◌∷◌ as String·cons}

-- the bytes of a text
abbrev pub bytes : String → List ℕ
bytes String·[] = []
bytes (String·cons c s) = code c ∷ bytes s

abbrev pub newline : ℕ
newline = 10

abbrev pub blank : ℕ
blank = code " "

abbrev pub minus : ℕ
minus = code "-"

-- the byte of the digit 0, from which the other digits count
abbrev pub digit0 : ℕ
digit0 = code "0"
