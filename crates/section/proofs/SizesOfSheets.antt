-- A sheet that meets the questions: its flanges, its web and all its rounds have room, its effective parts lie in boxes, and nothing that it divides
-- by may be zero.
use Prim.Native.Nat.{ℕ, ◌-◌, ◌*◌, ◌<◌}
use native.Mathlib.Omega.{arith}
use Rattle.pair.specs.Pairs.{◌to◌}
use Rattle.pair.specs.Enclosure.{Inside}
use Rattle.section.specs.declared.Sheet.{Sheet}
use Rattle.section.specs.Sound.{Sound}
use Rattle.section.specs.Working.{hp_of, cp_of, bp₁_of, bp₂_of, member_of}
use Rattle.section.specs.Parts.{Fine, effective_of, full_of, round_of}
use Rattle.section.specs.Room.{FlangeRoom}
use Rattle.section.specs.SectionRoom.{EffectiveRoom}
use Rattle.section.proofs.Ends.{one-Fine}
use Rattle.section.proofs.FlangeRounds.{box_divisors}
use Rattle.section.proofs.Whole.{SheetDivisors, sheet_divisors}
use Rattle.section.proofs.EffectiveBoxes.{EffectiveBox}
use Rattle.section.proofs.BoxRooms.{box_positive, mm_box}
use Rattle.section.proofs.SheetNumbers.{mid_line_box, lip_line_box, section_numbers}
use Rattle.section.proofs.SizesOfWidths.{flange_room, flange_box}
use Rattle.section.proofs.SizesOfRounds.{MemberBox, RoundBox, effective_room, rounds_box, effective_box}
use Rattle.section.proofs.SizesOfMoments.{length_positive}
use Rattle.section.proofs.SizesOfAxis.{full_box}

module _ {q : Sheet} (s : Sound q) {n : ℕ} (f : Fine n) where
  pub hp_box : Inside n (hp_of n q) (10000 * (q.h - q.tnom.0) to 10000 * (q.h - q.tnom.0))
  hp_box = mid_line_box f q.h q.tnom.0

  pub cp_box : Inside n (cp_of n q) (5000 * (2 * q.c - q.tnom.0) to 5000 * (2 * q.c - q.tnom.0))
  cp_box = lip_line_box f q.c q.tnom.0

  pub bp₁_box : Inside n (bp₁_of n q) (10000 * (q.b1 - q.tnom.0) to 10000 * (q.b1 - q.tnom.0))
  bp₁_box = mid_line_box f q.b1 q.tnom.0

  pub bp₂_box : Inside n (bp₂_of n q) (10000 * (q.b2 - q.tnom.0) to 10000 * (q.b2 - q.tnom.0))
  bp₂_box = mid_line_box f q.b2 q.tnom.0

  pub flange₁_room : FlangeRoom n q.t.0 q.fyb (cp_of n q) (bp₁_of n q)
  flange₁_room = flange_room f (section_numbers s).one cp_box bp₁_box

  pub flange₂_room : FlangeRoom n q.t.0 q.fyb (cp_of n q) (bp₂_of n q)
  flange₂_room = flange_room f (section_numbers s).two cp_box bp₂_box

  pub member_box : MemberBox n (q.h - q.tnom.0) (2 * q.c - q.tnom.0) (q.b1 - q.tnom.0) (q.b2 - q.tnom.0) (member_of n q)
  member_box = record {
    numbers = section_numbers s;
    hp = hp_box;
    cp = cp_box;
    one = flange_box f (section_numbers s).one cp_box bp₁_box;
    two = flange_box f (section_numbers s).two cp_box bp₂_box;
  }

  pub sheet_effective_room : EffectiveRoom n (member_of n q)
  sheet_effective_room = effective_room f (member_of n q) member_box

  pub sheet_effective_box : EffectiveBox n (q.h - q.tnom.0) (effective_of n q)
  sheet_effective_box = effective_box f (member_of n q) member_box q.rounds

  pub sheet_full_box : EffectiveBox n (q.h - q.tnom.0) (full_of n q)
  sheet_full_box = full_box f (section_numbers s) hp_box cp_box bp₁_box bp₂_box

  -- every round
  pub sheet_rounds_box : (i : ℕ) → RoundBox n (2 * q.c - q.tnom.0) (q.b1 - q.tnom.0) (q.b2 - q.tnom.0) (round_of n q i)
  sheet_rounds_box i = rounds_box f (member_of n q) member_box i

  pub fine_divisors : SheetDivisors n q
  fine_divisors = record {
    core = box_positive f (omega arith) (mm_box f q.t.0);
    flange1 = box_positive f (omega arith) bp₁_box;
    flange2 = box_positive f (omega arith) bp₂_box;
    each = λ i. record {
      one = box_divisors f (section_numbers s).one (sheet_rounds_box i).one.stiffener;
      two = box_divisors f (section_numbers s).two (sheet_rounds_box i).two.stiffener;
    };
    kept = length_positive f (section_numbers s).web.high sheet_effective_box;
    gross = length_positive f (section_numbers s).web.high sheet_full_box;
  }

-- at any scale
pub Sound-divisors : {n : ℕ} (q : Sheet) → 0 < n → Sound q → SheetDivisors n q
Sound-divisors q n⁺ s = sheet_divisors q n⁺ (fine_divisors s one-Fine)
