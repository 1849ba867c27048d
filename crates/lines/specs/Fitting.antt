-- Whether a text fits a buffer, and what the buffer is afterwards.
use Rattle.std.specs.Prelude.{ℕ, List, length, nat_le, if◌then◌else◌, Result, Ok, Err}
use Rattle.questions.specs.Buffers.{over}
use Rattle.lines.specs.declared.texts.TooShort.{TooShort}

-- the length that is written, or that is needed
abbrev pub fitted : ℕ → List ℕ → Result ℕ TooShort
fitted room t = if nat_le (length t) room then Ok (length t) else Err (record { 0 = length t })

-- the buffer afterwards, which a text that does not fit leaves as it was
abbrev pub buffer_fitted : List ℕ → List ℕ → List ℕ
buffer_fitted t b = if nat_le (length t) (length b) then over t b else b
