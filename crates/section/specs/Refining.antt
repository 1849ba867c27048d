-- Refining never goes upward (W-205): what becomes of the factors where there are more rounds. (docs/WORKING.md, 10.)
use Rattle.std.specs.Prelude.{◌≤◌}
use Rattle.pair.specs.Enclosure.{NotAbove}
use Rattle.pair.specs.declared.Both.{Both}
use Rattle.section.specs.declared.RefinedFlange.{RefinedFlange}
use Rattle.section.specs.Figures.{Printed}

-- of a later round and an earlier one: no end of either χ has risen
pub record NotRaised (later earlier : Both RefinedFlange) : Type 0 where
  pub one : NotAbove later.one.chi earlier.one.chi
  pub two : NotAbove later.two.chi earlier.two.chi

-- of what is printed with more rounds and with fewer: chi1 and chi2 are at most what they were
pub record PrintedNotRaised (more fewer : Printed) : Type 0 where
  pub chi1 : more.chi1 ≤ fewer.chi1
  pub chi2 : more.chi2 ≤ fewer.chi2
