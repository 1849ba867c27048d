-- The sizes of a stiffener and of its g, J and T, at thickness t, width β (in 0.01 mm) and lip γ (in 0.005 mm): each value lies in a box, and each operation has room.
use Prim.Native.Nat.{ℕ, ◌+◌, ◌*◌, ◌≤◌}
use mathlib.Core.Path.{refl}
use native.Mathlib.Nat.{mul-le-mul, mul-le-mul_right}
use native.Mathlib.Omega.{arith}
use lib.Dec.{lit<, lit≤}
use Rattle.pair.specs.Pairs.{◌to◌, root}
use Rattle.pair.specs.Enclosure.{Inside}
use Rattle.pair.specs.declared.Pair.{Pair}
use Rattle.pair.proofs.Laws.{plus_box, minus_box, times_box, over_box, root_box, minus_fits_lem}
use Rattle.section.specs.declared.Flange.{Flange}
use Rattle.section.specs.declared.Stiffener.{Stiffener}
use Rattle.section.specs.Working.{scale_of, mm, whole, ρ_plane, ρ_lip, half_kept, stiffener_of, g, inertia_of, stress_of}
use Rattle.section.specs.Parts.{Fine, operations}
use Rattle.section.specs.Room.{StiffenerRoom, CentreRoom, InertiaRoom, StressRoom}
use Rattle.section.proofs.Shares.{ρ_flange_box, ρ_lip_box}
use Rattle.section.proofs.Ends.{scale}
use Rattle.section.proofs.EffectiveBoxes.{StiffenerRange, lip_square_box}
use Rattle.section.proofs.BoxRooms.{wider, box_slim, mm_box, whole_box, plus_room, times_room, over_room, root_room, times_by, by_times, over_by}
use Rattle.section.proofs.SheetNumbers.{FlangeNumbers}
use Rattle.section.proofs.SizesOfWidths.{FlangeBox, half_kept_box, half_kept_room}

pub record StiffenerBox (n γ β : ℕ) (s : Stiffener) : Type 0 where
  pub be2 : Inside n s.be2 (2400 * β to 5000 * β)
  pub c : Inside n s.c (1500 * γ to 5000 * γ)
  pub a : Inside n s.a ((2400 * β + 1500 * γ) to (5000 * β + 5000 * γ))

module _ (n : ℕ) where
  open operations n use {◌⊗◌, ◌⊘◌}

  infixl 7 ◌⊗◌
  infixl 7 ◌⊘◌
  -- be2, c_eff and a, where the factor χ of the round before is at most 1
  module _ {t fyb γ β : ℕ} (f : Fine n) (x : FlangeNumbers t fyb γ β) {cp : Pair} (l : Flange) (χ : Pair)
      (cp_box : Inside n cp (5000 * γ to 5000 * γ)) (b : FlangeBox n β l) (χ_in : Inside n χ (0 to 1000000)) where
    plane_box : Inside n (l.plane ⊗ χ) (0 to 3325000)
    plane_box = times_box 0 3325000 (scale f) b.plane χ_in (lit≤ tt) (lit≤ tt)

    plane_u_box : Inside n (root (scale_of n) (l.plane ⊗ χ)) (0 to 1823500)
    plane_u_box = root_box 0 1823500 (scale f) plane_box (lit≤ tt) (lit≤ tt)

    be2_box : Inside n (half_kept n (ρ_plane n (root (scale_of n) (l.plane ⊗ χ))) l.bp) (2400 * β to 5000 * β)
    be2_box = half_kept_box f 2400 β (ρ_flange_box f.some plane_u_box) b.bp

    lip_box : Inside n (l.lip ⊗ χ) (0 to 9580000)
    lip_box = times_box 0 9580000 (scale f) b.lip χ_in (lit≤ tt) (lit≤ tt)

    lip_u_box : Inside n (root (scale_of n) (l.lip ⊗ χ)) (0 to 3095200)
    lip_u_box = root_box 0 3095200 (scale f) lip_box (lit≤ tt) (lit≤ tt)

    c_box : Inside n (ρ_lip n (root (scale_of n) (l.lip ⊗ χ)) ⊗ cp) (1500 * γ to 5000 * γ)
    c_box = times_box (1500 * γ) (5000 * γ) (scale f) (ρ_lip_box f.some lip_u_box) cp_box (omega arith) (omega arith)

    pub stiffener_box : StiffenerBox n γ β (stiffener_of n cp l χ)
    unfolding stiffener_of
    stiffener_box = record { be2 = be2_box; c = c_box; a = plus_box be2_box c_box }

    pub stiffener_room : StiffenerRoom n cp l χ
    stiffener_room = record {
      plane = record {
        factor = times_room f _ _ plane_box (lit≤ tt);
        radicand = root_room f plane_box (lit≤ tt);
        slim = box_slim f plane_u_box (lit≤ tt);
        half = half_kept_room f 2400 β (ρ_flange_box f.some plane_u_box) b.bp (omega arith);
      };
      lip = record {
        factor = times_room f _ _ lip_box (lit≤ tt);
        radicand = root_room f lip_box (lit≤ tt);
        slim = box_slim f lip_u_box (lit≤ tt);
        part = times_room f _ _ c_box (omega arith);
      };
      sum = plus_room f _ _ (plus_box stiffener_box.be2 stiffener_box.c) (omega arith);
    }

  module _ {t fyb γ β : ℕ} (f : Fine n) (x : FlangeNumbers t fyb γ β) {s : Stiffener} (b : StiffenerBox n γ β s) where
    pub stiffener_range : StiffenerRange n s
    stiffener_range = record {
      be2 = wider 3360000 100000000 (omega arith) (omega arith) b.be2;
      c = wider 600000 120000000 (omega arith) (omega arith) b.c;
      a = wider 3960000 220000000 (omega arith) (omega arith) b.a;
    }

    -- g: the subtraction is not cut at zero

    module _ {bp : Pair} (bp_box : Inside n bp (10000 * β to 10000 * β)) where
      be2²_box : Inside n (s.be2 ⊗ s.be2) (0 to 25 * (β * β))
      be2²_box = times_box 0 (25 * (β * β)) (scale f) b.be2 b.be2 (omega arith) (omega arith)

      twice_box : Inside n (whole n 2 ⊗ s.a) (4800 * β to (10000 * β + 10000 * γ))
      twice_box = times_box (4800 * β) (10000 * β + 10000 * γ) (scale f) (whole_box f 2) b.a (omega arith) (omega arith)

      part_box : Inside n (s.be2 ⊗ s.be2 ⊘ (whole n 2 ⊗ s.a)) (0 to 5209 * β)
      part_box = over_box 0 (5209 * β) (scale f) (omega arith) (omega arith) be2²_box twice_box (omega arith) (omega arith)

      pub centre_room : CentreRoom n bp s
      centre_room = record {
        square = times_room f _ _ be2²_box (omega (arith, mul-le-mul x.high x.high));
        twice = by_times f s.a 2 1 (lit< tt) refl twice_box (omega arith);
        part = over_room f _ _ (omega arith) twice_box part_box (omega arith);
        less = minus_fits_lem bp_box part_box (omega arith);
      }

      g_box : Inside n (g n bp s) (4791 * β to 10000 * β)
      unfolding g
      g_box = wider (4791 * β) (10000 * β) (omega arith) (omega arith) (minus_box bp_box part_box)

      pub g_thin : Inside n (g n bp s) (0 to 600000 * t)
      g_thin = wider 0 (600000 * t) (omega arith) (omega arith) g_box

      pub g_wide : Inside n (g n bp s) (0 to 200000000)
      g_wide = wider 0 200000000 (omega arith) (omega arith) g_box

    -- J

    once_box : Inside n (s.be2 ⊗ mm n t) (33600 * t to 1000000 * t)
    once_box = times_box (33600 * t) (1000000 * t) (scale f) stiffener_range.be2 (mm_box f t) (omega arith) (omega arith)

    again_box : Inside n (s.be2 ⊗ mm n t ⊗ mm n t) (336 * (t * t) to 10000 * (t * t))
    again_box = times_box (336 * (t * t)) (10000 * (t * t)) (scale f) once_box (mm_box f t) (omega arith) (omega arith)

    plate_box : Inside n (s.be2 ⊗ mm n t ⊗ mm n t ⊘ whole n 12) (28 * (t * t) to 834 * (t * t))
    plate_box = over_box (28 * (t * t)) (834 * (t * t)) (scale f) (lit< tt) (lit< tt) again_box (whole_box f 12) (omega arith) (omega arith)

    c³_box : Inside n (s.c ⊗ s.c ⊗ s.c) (0 to 1728000000000)
    c³_box = times_box 0 1728000000000 (scale f) (lip_square_box f stiffener_range.c) stiffener_range.c (lit≤ tt) (lit≤ tt)

    twelfth_box : Inside n (s.c ⊗ s.c ⊗ s.c ⊘ whole n 12) (0 to 144000000000)
    twelfth_box = over_box 0 144000000000 (scale f) (lit< tt) (lit< tt) c³_box (whole_box f 12) (lit≤ tt) (lit≤ tt)

    c³be2_box : Inside n (s.c ⊗ s.c ⊗ s.c ⊗ s.be2) (0 to 172800000000000)
    c³be2_box = times_box 0 172800000000000 (scale f) c³_box stiffener_range.be2 (lit≤ tt) (lit≤ tt)

    four_box : Inside n (whole n 4 ⊗ s.a) (15840000 to 880000000)
    four_box = times_box 15840000 880000000 (scale f) (whole_box f 4) stiffener_range.a (lit≤ tt) (lit≤ tt)

    far_box : Inside n (s.c ⊗ s.c ⊗ s.c ⊗ s.be2 ⊘ (whole n 4 ⊗ s.a)) (0 to 10909091000000)
    far_box = over_box 0 10909091000000 (scale f) (lit< tt) (lit< tt) c³be2_box four_box (lit≤ tt) (lit≤ tt)

    t²_most : t * t ≤ 360000
    t²_most = mul-le-mul x.thick x.thick

    pub inertia_of_box : Inside n (inertia_of n (mm n t) s) (28 * (t * t) to 11053391240000)
    unfolding inertia_of
    inertia_of_box = wider (28 * (t * t)) 11053391240000 (omega arith) (omega (arith, t²_most)) (plus_box (plus_box plate_box twelfth_box) far_box)

    pub inertia_room : InertiaRoom n t s
    inertia_room = record {
      plate = record {
        once = times_by f s.be2 t 100 (lit< tt) refl once_box (omega arith);
        twice = times_by f _ t 100 (lit< tt) refl again_box (omega (arith, t²_most));
        twelfth = over_by f _ 12 1 (lit< tt) (lit< tt) refl plate_box (omega (arith, t²_most));
      };
      solid = record { square = times_room f _ _ (lip_square_box f stiffener_range.c) (lit≤ tt); solid = times_room f _ _ c³_box (lit≤ tt) };
      twelfth = over_by f _ 12 1 (lit< tt) (lit< tt) refl twelfth_box (lit≤ tt);
      far = record {
        times = times_room f _ _ c³be2_box (lit≤ tt);
        four = by_times f s.a 4 1 (lit< tt) refl four_box (lit≤ tt);
        part = over_room f _ _ (lit< tt) four_box far_box (lit≤ tt);
      };
      first = plus_room f _ _ (plus_box plate_box twelfth_box) (omega (arith, t²_most));
      second = plus_room f _ _ (plus_box (plus_box plate_box twelfth_box) far_box) (omega (arith, t²_most));
    }

    -- T

    a_thin : Inside n s.a (0 to 660000 * t)
    a_thin = wider 0 (660000 * t) (omega arith) (omega arith) b.a

    force_box : Inside n (whole n fyb ⊗ s.a) (0 to 462000000 * t)
    force_box = times_box 0 (462000000 * t) (scale f) (whole_box f fyb) a_thin (omega arith) (omega (arith, mul-le-mul_right t x.strong))

    thick_box : Inside n (whole n fyb ⊗ s.a ⊘ mm n t) (0 to 46200000000)
    thick_box = over_box 0 46200000000 (scale f) (omega arith) (omega arith) force_box (mm_box f t) (omega arith) (omega arith)

    pub stress_of_box : Inside n (stress_of n (mm n t) (whole n fyb) s) (0 to 220000000)
    unfolding stress_of
    stress_of_box = over_box 0 220000000 (scale f) (lit< tt) (lit< tt) thick_box (whole_box f 210) (lit≤ tt) (lit≤ tt)

    pub stress_room : StressRoom n t fyb s.a
    unfolding stress_of
    stress_room = record {
      core = x.thick;
      force = by_times f s.a fyb 1 (lit< tt) refl force_box (omega arith);
      thick = over_by f _ t 100 (omega arith) (lit< tt) refl thick_box (lit≤ tt);
      modulus = over_by f _ 210 1 (lit< tt) (lit< tt) refl stress_of_box (lit≤ tt);
    }
