-- A finer working inside a coarser one: each pair of it lies inside the coarser pair. (docs/WORKING.md, 3: a finer working.)
use Rattle.std.specs.Prelude.{ℕ}
use Rattle.pair.specs.Enclosure.{Inside, SignedInside}
use Rattle.section.specs.Working.{Worked}

pub record WorkedInside (m : ℕ) (fine coarse : Worked) : Type 0 where
  pub area : Inside m fine.area coarse.area
  pub χ₁ : Inside m fine.χ₁ coarse.χ₁
  pub χ₂ : Inside m fine.χ₂ coarse.χ₂
  pub z : SignedInside m fine.z coarse.z
  pub gross_z : SignedInside m fine.gross_z coarse.gross_z
  pub shift : SignedInside m fine.shift coarse.shift
