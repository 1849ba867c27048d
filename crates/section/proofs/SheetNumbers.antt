-- The numbers of a sheet that meets the questions, and its mid-line lengths: their boxes, and the room of their operations.
use Prim.Native.Nat.{ℕ, ◌+◌, ◌-◌, ◌*◌, ◌≤◌}
use native.Mathlib.Omega.{arith}
use lib.Dec.{lit<}
use Rattle.pair.specs.Pairs.{◌to◌, over}
use Rattle.pair.specs.Enclosure.{Inside}
use Rattle.pair.proofs.Laws.{minus_box, minus_fits_lem}
use Rattle.section.specs.declared.Sheet.{Sheet}
use Rattle.section.specs.Sound.{Sound}
use Rattle.section.specs.Working.{scale_of, mm, whole, mid_line, lip_line}
use Rattle.section.specs.Parts.{Fine}
use Rattle.section.specs.Room.{MidRoom, LipRoom}
use Rattle.section.proofs.BoxRooms.{wider, mm_box, half_box, ratio_room, over_two}

-- a web: core thickness t and depth d between mid-lines, in 0.01 mm
pub record WebNumbers (t fyb d : ℕ) : Type 0 where
  pub thin : 45 ≤ t
  pub thick : t ≤ 600
  pub strong : fyb ≤ 700
  pub low : 3400 ≤ d
  pub high : d ≤ 49950
  pub slim : d ≤ 500 * t

-- a flange of width β between mid-lines, in 0.01 mm, with a lip of γ, in 0.005 mm
pub record FlangeNumbers (t fyb γ β : ℕ) : Type 0 where
  pub thin : 45 ≤ t
  pub thick : t ≤ 600
  pub strong : fyb ≤ 700
  pub lip_low : 400 ≤ γ
  pub low : 1400 ≤ β
  pub high : β ≤ 19950
  pub slim : β ≤ 60 * t
  pub ratio : 5 * γ ≤ 6 * β

-- beside a flange of width β, one of width other is not too wide: its a is at most six times that flange's a
pub record Beside (γ β other : ℕ) : Type 0 where
  pub near : 5000 * other ≤ 14400 * β + 4000 * γ

-- a section: depth d and widths β₁ and β₂ between mid-lines, in 0.01 mm, and lips of γ, in 0.005 mm
pub record SectionNumbers (t fyb d γ β₁ β₂ : ℕ) : Type 0 where
  pub web : WebNumbers t fyb d
  pub one : FlangeNumbers t fyb γ β₁
  pub two : FlangeNumbers t fyb γ β₂
  pub near_one : Beside γ β₁ β₂
  pub near_two : Beside γ β₂ β₁

module _ {n : ℕ} (f : Fine n) where
  -- mid-line lengths

  pub mid_line_box : (w v : ℕ) → Inside n (mid_line n w v) (10000 * (w - v) to 10000 * (w - v))
  unfolding mid_line
  mid_line_box w v = wider (10000 * (w - v)) (10000 * (w - v)) (omega arith) (omega arith) (minus_box (mm_box f w) (mm_box f v))

  pub mid_line_room : (w v : ℕ) → w ≤ 50000 → v ≤ w → MidRoom n w v
  mid_line_room w v h k = record {
    outer = ratio_room f w 100 (lit< tt) (omega arith);
    nominal = ratio_room f v 100 (lit< tt) (omega arith);
    less = minus_fits_lem (mm_box f w) (mm_box f v) (omega arith);
  }

  half_mm_box : (v : ℕ) → Inside n (over (scale_of n) (mm n v) (whole n 2)) (5000 * v to 5000 * v)
  half_mm_box v = half_box f (5000 * v) (5000 * v) (mm_box f v) (omega arith) (omega arith)

  pub lip_line_box : (w v : ℕ) → Inside n (lip_line n w v) (5000 * (2 * w - v) to 5000 * (2 * w - v))
  unfolding lip_line
  lip_line_box w v = wider (5000 * (2 * w - v)) (5000 * (2 * w - v)) (omega arith) (omega arith) (minus_box (mm_box f w) (half_mm_box v))

  pub lip_line_room : (w v : ℕ) → w ≤ 50000 → v ≤ 2 * w → LipRoom n w v
  lip_line_room w v h k = record {
    outer = ratio_room f w 100 (lit< tt) (omega arith);
    nominal = ratio_room f v 100 (lit< tt) (omega arith);
    half = over_two f (mm n v) (mm_box f v) (omega arith);
    less = minus_fits_lem (mm_box f w) (half_mm_box v) (omega arith);
  }

-- what the questions say of the web and of each flange

module _ {q : Sheet} (s : Sound q) where
  pub section_numbers : SectionNumbers q.t.0 q.fyb (q.h - q.tnom.0) (2 * q.c - q.tnom.0) (q.b1 - q.tnom.0) (q.b2 - q.tnom.0)
  section_numbers = record { web = omega arith; one = omega arith; two = omega arith; near_one = omega arith; near_two = omega arith }

  module _ {n : ℕ} (f : Fine n) where
    pub hp_room : MidRoom n q.h q.tnom.0
    hp_room = mid_line_room f q.h q.tnom.0 (omega arith) (omega arith)

    pub bp₁_room : MidRoom n q.b1 q.tnom.0
    bp₁_room = mid_line_room f q.b1 q.tnom.0 (omega arith) (omega arith)

    pub bp₂_room : MidRoom n q.b2 q.tnom.0
    bp₂_room = mid_line_room f q.b2 q.tnom.0 (omega arith) (omega arith)

    pub cp_room : LipRoom n q.c q.tnom.0
    cp_room = lip_line_room f q.c q.tnom.0 (omega arith) (omega arith)
