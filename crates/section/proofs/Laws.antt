-- What crates above may cite of the working.
-- the printed figures
pub use Rattle.section.proofs.PrintedFigures.{FiguresBelow, allowed_is_met, not_allowed_is_unmet}
pub use Rattle.section.proofs.Theorems.{figures_have_ten_digits, fineness-Fine, finer_working_held, finer_working_inside, printed_factors_never_rise}
-- a sheet and its values in the order of the lines
pub use Rattle.section.proofs.SheetValues.{same_values, values_of_sheet}
-- written constants, exact at every scale (kf = 0 among them)
pub use Rattle.section.proofs.Ends.{constant-Inside}
pub use Rattle.section.proofs.BoxRooms.{constant_box}
-- k of the lip: it rises with its ratio, a finer one lies inside a coarser one, and it is from 0.5 to 0.83 up to a ratio of 0.6
pub use Rattle.section.proofs.Rising.{Rises}
pub use Rattle.section.proofs.Coefficient.{k-Rises, k-Inside, k-Positive, k_box}
-- one flange's part of a round, with its own kf or refined alone (kf = 0): a finer one lies inside a coarser one, and its size
pub use Rattle.section.proofs.PartsInside.{FlangeInside, StiffenerInside, RefinedInside, RoundInside, CommonInside, MemberInside}
pub use Rattle.section.proofs.SheetNumbers.{FlangeNumbers, Beside, SectionNumbers, section_numbers}
pub use Rattle.section.proofs.SizesOfWidths.{FlangeBox}
pub use Rattle.section.proofs.SizesOfStiffeners.{StiffenerBox, g_thin}
pub use Rattle.section.proofs.FlangeRounds.{StiffenerDivisors, divisors_finer, box_divisors, refined_inside, RefinedBox, kf_box, refined_box}
-- the member that a sheet describes, its rounds and what is divided by
pub use Rattle.section.proofs.Whole.{RoundDivisors, SheetDivisors, member_inside, round_inside, sheet_rounds_inside, SheetDivisors-finer}
pub use Rattle.section.proofs.SizesOfRounds.{MemberBox, RoundBox}
pub use Rattle.section.proofs.SizesOfSheets.{member_box, sheet_rounds_box, Sound-divisors}
