-- The neutral axis, the area and the shift of a section whose parts lie in their boxes have room; and the full section is such a section.
use mathlib.Core.Path.{◌≡◌, refl}
use mathlib.Core.Bool.{true}
use Prim.Native.Nat.{ℕ, ◌*◌, ◌≤◌}
use native.Mathlib.Omega.{arith}
use lib.Dec.{lit<, lit≤}
use Rattle.pair.specs.Pairs.{◌to◌, times, over}
use Rattle.pair.specs.Fits.{times_ratio_fits, signed_plus_fits}
use Rattle.pair.specs.Enclosure.{Inside, AtLeast, Reaches}
use Rattle.pair.specs.declared.Pair.{Pair}
use Rattle.pair.proofs.Laws.{Inside-Ordered, plus_box, times_box, signed_over-Reaches, signed_over_fits_lem}
use Rattle.section.specs.declared.EffectiveParts.{EffectiveParts}
use Rattle.section.specs.Working.{◌⊕◌, scale_of, whole, mm, kept_length, z, full_flange, full}
use Rattle.section.specs.Parts.{Fine}
use Rattle.section.specs.SectionRoom.{AxisRoom, FullFlangeRoom, FullRoom}
use Rattle.section.proofs.Ends.{scale, word_at}
use Rattle.section.proofs.BoxRooms.{wider, mm_box, one_box, plus_room, by_times, half_box, over_two, signed_plus_room}
use Rattle.section.proofs.EffectiveBoxes.{EffectiveFlangeBox, EffectiveBox}
use Rattle.section.proofs.SheetNumbers.{FlangeNumbers, SectionNumbers}
use Rattle.section.proofs.SizesOfMoments.{length_box, length_room, moment-Reaches, moment_room}

module _ {n : ℕ} (f : Fine n) where
  module _ {d : ℕ} (most : d ≤ 49950) where
    module _ {hp : Pair} (H : Inside n hp (10000 * d to 10000 * d)) where
      module _ {x : EffectiveParts} (K : EffectiveBox n d x) where
        length_least : AtLeast (6720000 * n) (kept_length n x)
        length_least = record { low = (length_box f most K).low }

        pub axis_room : AxisRoom n hp x
        axis_room = record {
          moment_room = moment_room f most H K;
          length = length_room f most K;
          quotient =
              signed_over_fits_lem (scale_of n) {c = 48200000000 * n} (Inside-Ordered (length_box f most K)) length_least (omega (arith, f.some))
              (moment-Reaches f most H K) (omega arith) (word_at 48200000000 f (lit≤ tt));
        }

        pub axis_reaches : Reaches (48200000000 * n) (z n hp x)
        unfolding z
        axis_reaches = signed_over-Reaches (scale_of n) (Inside-Ordered (length_box f most K)) length_least (omega (arith, f.some)) (moment-Reaches f most H K) (omega arith)

      pub shift_room : {x y : EffectiveParts} → EffectiveBox n d x → EffectiveBox n d y → signed_plus_fits (z n hp x) (z n hp y) ≡ true
      shift_room K J = signed_plus_room f 48200000000 48200000000 (axis_reaches K) (axis_reaches J) (lit≤ tt)

    -- at a core thickness of t, in 0.01 mm: at most 6840 mm²
    module _ {x : EffectiveParts} (t : ℕ) (h : t ≤ 600) (K : EffectiveBox n d x) where
      pub area_box : Inside n (times (scale_of n) (mm n t) (kept_length n x)) (0 to 6840000000)
      area_box = times_box 0 6840000000 (scale f) (mm_box f t) (length_box f most K) (omega arith) (omega arith)

      pub area_room : times_ratio_fits (scale_of n) (kept_length n x) t 100 ≡ true
      area_room = by_times f (kept_length n x) t 100 (lit< tt) refl area_box (lit≤ tt)

  -- the full section, of mid-line widths d, β₁ and β₂ in 0.01 mm and lips of γ in 0.005 mm

  abbrev half : Pair → Pair
  half p = over (scale_of n) p (whole n 2)

  module _ {t fyb γ β : ℕ} (x : FlangeNumbers t fyb γ β) {cp bp : Pair} (C : Inside n cp (5000 * γ to 5000 * γ)) (B : Inside n bp (10000 * β to 10000 * β)) where
    width_box : Inside n (half bp) (3360000 to 100000000)
    width_box = half_box f 3360000 100000000 B (omega arith) (omega arith)

    lip_box : Inside n cp (600000 to 120000000)
    lip_box = wider 600000 120000000 (omega arith) (omega arith) C

    a_box : Inside n (half bp ⊕ cp) (3960000 to 220000000)
    a_box = plus_box width_box lip_box

    full_flange_room : FullFlangeRoom n cp bp
    full_flange_room = record { half = over_two f bp B (omega arith); sum = plus_room f (half bp) cp a_box (lit≤ tt) }

    full_flange_box : EffectiveFlangeBox n (full_flange n cp bp)
    full_flange_box = record { be1 = width_box; stiffener = record { be2 = width_box; c = lip_box; a = a_box }; chi = one_box f }

  module _ {t fyb d γ β₁ β₂ : ℕ} (x : SectionNumbers t fyb d γ β₁ β₂) {hp cp bp₁ bp₂ : Pair} (H : Inside n hp (10000 * d to 10000 * d)) (C : Inside n cp (5000 * γ to 5000 * γ))
      (B₁ : Inside n bp₁ (10000 * β₁ to 10000 * β₁)) (B₂ : Inside n bp₂ (10000 * β₂ to 10000 * β₂)) where
    web_box : Inside n (half hp) (0 to 5000 * d)
    web_box = half_box f 0 (5000 * d) H (omega arith) (omega arith)

    pub full_room : FullRoom n hp cp bp₁ bp₂
    full_room = record {
      web = over_two f hp H (omega arith);
      one = full_flange_room x.one C B₁;
      two = full_flange_room x.two C B₂;
    }

    pub full_box : EffectiveBox n d (full n hp cp bp₁ bp₂)
    unfolding full
    full_box = record { one = full_flange_box x.one C B₁; two = full_flange_box x.two C B₂; p = web_box; m = web_box }
