-- A buffer that a text is written into.
use Rattle.std.specs.Prelude.{ℕ, List, ◌++◌, length, drop}

-- the buffer b with the text t at its front, every byte behind kept
unfoldable pub over : List ℕ → List ℕ → List ℕ
over t b = t ++ drop (length t) b
