-- What the code's roots are the roots of.
use Rattle.std.specs.Prelude.{ℕ, ◌+◌, ◌*◌}
use Rattle.pair.specs.declared.roots.Square.{Square}
use Rattle.pair.specs.declared.roots.Cube.{Cube}

-- the number that a square root has taken in
abbrev pub square_taken : Square → ℕ
square_taken t = t.root * t.root + t.rest

-- the number that a cube root has taken in
abbrev pub cube_taken : Cube → ℕ
cube_taken t = t.root * t.root * t.root + t.rest
