-- Every operation of the working of a sheet that meets the questions has room, at the scale 1,000,000 and up to ten times it.
use Prim.Native.Nat.{ℕ}
use Rattle.section.specs.declared.Sheet.{Sheet}
use Rattle.section.specs.Sound.{Sound}
use Rattle.section.specs.Parts.{Fine}
use Rattle.section.specs.SectionRoom.{SheetRoom}
use Rattle.section.proofs.SheetNumbers.{section_numbers, hp_room, bp₁_room, bp₂_room, cp_room}
use Rattle.section.proofs.SizesOfSheets.{hp_box, cp_box, bp₁_box, bp₂_box, flange₁_room, flange₂_room, sheet_effective_room, sheet_effective_box, sheet_full_box}
use Rattle.section.proofs.SizesOfAxis.{axis_room, shift_room, area_room, full_room}

pub sheet_room : {n : ℕ} {q : Sheet} → Fine n → Sound q → SheetRoom n q
sheet_room {n} {q} f s =
    let depth = (section_numbers s).web.high in
    record {
      hp = hp_room s f;
      cp = cp_room s f;
      bp₁ = bp₁_room s f;
      bp₂ = bp₂_room s f;
      flange₁ = flange₁_room s f;
      flange₂ = flange₂_room s f;
      effective = sheet_effective_room s f;
      axis = axis_room f depth (hp_box s f) (sheet_effective_box s f);
      full = full_room f (section_numbers s) (hp_box s f) (cp_box s f) (bp₁_box s f) (bp₂_box s f);
      gross = axis_room f depth (hp_box s f) (sheet_full_box s f);
      area = area_room f depth q.t.0 s.q2.t.1 (sheet_effective_box s f);
      shift = shift_room f depth (hp_box s f) (sheet_effective_box s f) (sheet_full_box s f);
    }
