-- The printed figures, the eleventh question, and what they promise of every finer working. (docs/WORKING.md, 13, 15 and 16.)
use Rattle.std.specs.Prelude.{ℕ, ◌+◌, ◌*◌, ◌/◌, ◌≤◌, ◌<◌, Bool, ℤ, pos, ◌*ℤ◌}
use Rattle.pair.specs.Integers.{◌≼ℤ◌, floor_over, ceil_over}
use Rattle.section.specs.declared.Sheet.{Sheet}
use Rattle.questions.specs.Claims.{Claim, ◌≤?◌, Holds, test}
use Rattle.section.specs.Sheets.{fineness}
use Rattle.section.specs.Working.{scale_of, Worked, worked}

pub record Printed : Type 0 where
  pub area : ℕ
  pub axial : ℕ
  pub chi1 : ℕ
  pub chi2 : ℕ
  pub shiftlo : ℤ
  pub shifthi : ℤ

-- area in 0.01 mm², lower end rounded down; axial = lower end of the area × fyb ÷ partial factor, in newtons, rounded down once;
-- chi1, chi2 in thousandths, lower ends rounded down; shiftlo and shifthi in 0.01 mm, rounded toward minus and plus infinity
unfoldable pub printed : ℕ → ℕ → ℕ → Worked → Printed
printed n fyb gm0 w =
    record {
      area = w.area.lo * 100 / scale_of n;
      axial = w.area.lo * fyb * 1000 / (gm0 * scale_of n);
      chi1 = w.χ₁.lo * 1000 / scale_of n;
      chi2 = w.χ₂.lo * 1000 / scale_of n;
      shiftlo = floor_over (w.shift.lo *ℤ pos 100) (scale_of n);
      shifthi = ceil_over (w.shift.hi *ℤ pos 100) (scale_of n);
    }

-- the figures of a sheet, at fineness n
unfoldable pub figures : ℕ → Sheet → Printed
figures n q = printed n q.fyb q.gm0 (worked n q)

-- the figures of a sheet, at its own fineness
abbrev pub own_figures : Sheet → Printed
own_figures q = figures (fineness q) q

-- Is the area's upper end at most area + allow (in 0.01 mm²)?
abbrev pub allowance : ℕ → Sheet → Claim
allowance n q = (worked n q).area.hi * 100 ≤? ((figures n q).area + q.allow) * scale_of n

pub record Question11 (n : ℕ) (q : Sheet) : Type 0 where
  pub allowed : Holds (allowance n q)

-- the same as a test
unfoldable pub allowed : ℕ → Sheet → Bool
allowed n q = test (allowance n q)

-- A working at fineness n is within what is printed: each end of its area, of its axial resistance (area × fyb ÷ gm0, exact) and of its shift,
-- as it stands and not rounded for print. In 0.01 mm², newtons and 0.01 mm; both sides are multiplied by what would divide them.
pub record WithinPrinted (n : ℕ) (p : Printed) (allow fyb gm0 : ℕ) (w : Worked) : Type 0 where
  -- at least area, and at most area + allow
  pub lower_area_low : p.area * scale_of n ≤ w.area.lo * 100
  pub lower_area_high : w.area.lo * 100 ≤ (p.area + allow) * scale_of n
  pub upper_area_low : p.area * scale_of n ≤ w.area.hi * 100
  pub upper_area_high : w.area.hi * 100 ≤ (p.area + allow) * scale_of n
  -- at least axial, and less than axial + 1 + 10 × allow × fyb ÷ gm0
  pub lower_axial_low : p.axial * (gm0 * scale_of n) ≤ w.area.lo * fyb * 1000
  pub lower_axial_high : w.area.lo * fyb * 1000 < ((p.axial + 1) * gm0 + 10 * allow * fyb) * scale_of n
  pub upper_axial_low : p.axial * (gm0 * scale_of n) ≤ w.area.hi * fyb * 1000
  pub upper_axial_high : w.area.hi * fyb * 1000 < ((p.axial + 1) * gm0 + 10 * allow * fyb) * scale_of n
  -- at least shiftlo, and at most shifthi
  pub lower_shift_low : p.shiftlo *ℤ pos (scale_of n) ≼ℤ w.shift.lo *ℤ pos 100
  pub lower_shift_high : w.shift.lo *ℤ pos 100 ≼ℤ p.shifthi *ℤ pos (scale_of n)
  pub upper_shift_low : p.shiftlo *ℤ pos (scale_of n) ≼ℤ w.shift.hi *ℤ pos 100
  pub upper_shift_high : w.shift.hi *ℤ pos 100 ≼ℤ p.shifthi *ℤ pos (scale_of n)
