-- What becomes of the printed figures where a sheet's flanges are exchanged. (docs/WORKING.md, 8: kf.)
use Rattle.std.specs.Prelude.{◌≡◌}
use Rattle.section.specs.Figures.{Printed}

-- chi1 and chi2 change places, area and axial stay: either flange may be the one under study, called 1 (W-201).
-- Nothing is said of the shift: z is worked from flange 1, so that exchanged flanges round it otherwise.
pub record FlangesExchanged (before after : Printed) : Type 0 where
  pub area : after.area ≡ before.area
  pub axial : after.axial ≡ before.axial
  pub chi1 : after.chi1 ≡ before.chi2
  pub chi2 : after.chi2 ≡ before.chi1
