-- The code's structs, as forms of what is specified.
use Rattle.section.specs.declared.Work.{Work}
use Rattle.section.specs.declared.Figures.{Figures}
use Rattle.section.specs.Working.{Worked}
use Rattle.section.specs.Figures.{Printed}

-- a working and the printed figures as the code holds them
unfoldable pub work_of : Worked → Work
work_of w = record { area = w.area; chi1 = w.χ₁; chi2 = w.χ₂; z = w.z; gross = w.gross_z; shift = w.shift }

abbrev pub figures_of : Printed → Figures
figures_of p =
    record { area = p.area; axial = p.axial; chi1 = p.chi1; chi2 = p.chi2; shiftlo = p.shiftlo; shifthi = p.shifthi }
