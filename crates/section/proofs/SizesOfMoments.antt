-- The length and the moments of a section whose parts lie in their boxes: the boxes of their results, and that each operation has room.
use Prim.Native.Nat.{ℕ, ◌*◌, ◌≤◌}
use native.Mathlib.Omega.{arith}
use lib.Dec.{lit<, lit≤}
use Rattle.pair.specs.Pairs.{◌to◌, times, over}
use Rattle.pair.specs.SignedPairs.{signed}
use Rattle.pair.specs.Enclosure.{Inside, Positive, Reaches}
use Rattle.pair.specs.declared.Pair.{Pair}
use Rattle.pair.proofs.Laws.{fine_positive, Inside-Ordered, plus_box, minus_box, times_box, minus_fits_lem, signed_ordered_lem, difference-Ordered, signed_times-Reaches, signed_times_fits_lem}
use Rattle.section.specs.declared.EffectiveParts.{EffectiveParts}
use Rattle.section.specs.Working.{◌⊕◌, ◌⊖◌, ◌⊞◌, scale_of, whole, kept_length, lip_moment, flange_moment, far_web_moment, near_web_moment, near_lip_moment, moment}
use Rattle.section.specs.Parts.{Fine}
use Rattle.section.specs.SectionRoom.{FixedRoom, LengthRoom, LipMomentRoom, FlangeMomentRoom, FarWebRoom, NearWebRoom, NearLipRoom, outer, OuterRoom, WebRoom, MomentRoom}
use Rattle.section.proofs.Ends.{scale, word_at}
use Rattle.section.proofs.EffectiveBoxes.{EffectiveBox, lip_square_box}
use Rattle.section.proofs.BoxRooms.{wider, box_positive, plus_room, times_room, half_box, over_two, signed_reach, difference_reach, signed_plus_reach, signed_plus_room}

module _ {n : ℕ} (f : Fine n) where
  infixl 7 ◌⊗◌
  abbrev ◌⊗◌ : Pair → Pair → Pair
  p ⊗ q = times (scale_of n) p q

  -- half of a value
  abbrev half : Pair → Pair
  half p = over (scale_of n) p (whole n 2)

  -- Length

  module _ {d : ℕ} (most : d ≤ 49950) {x : EffectiveParts} (K : EffectiveBox n d x) where
    near_part_box : Inside n x.p (0 to 250000000)
    near_part_box = wider 0 250000000 (lit≤ tt) (omega arith) K.p

    far_part_box : Inside n x.m (0 to 250000000)
    far_part_box = wider 0 250000000 (lit≤ tt) (omega arith) K.m

    flanges_box : Inside n (x.flanges.one.be1 ⊕ x.flanges.two.be1) (6720000 to 200000000)
    flanges_box = plus_box K.one.be1 K.two.be1

    near_box : Inside n (x.flanges.one.be1 ⊕ x.flanges.two.be1 ⊕ x.p) (6720000 to 450000000)
    near_box = plus_box flanges_box near_part_box

    far_box : Inside n (x.flanges.one.be1 ⊕ x.flanges.two.be1 ⊕ x.p ⊕ x.m) (6720000 to 700000000)
    far_box = plus_box near_box far_part_box

    one_box : Inside n (x.flanges.one.stiffener.a ⊗ x.flanges.one.chi) (0 to 220000000)
    one_box = times_box 0 220000000 (scale f) K.one.stiffener.a K.one.chi (lit≤ tt) (lit≤ tt)

    two_box : Inside n (x.flanges.two.stiffener.a ⊗ x.flanges.two.chi) (0 to 220000000)
    two_box = times_box 0 220000000 (scale f) K.two.stiffener.a K.two.chi (lit≤ tt) (lit≤ tt)

    first_box : Inside n (x.flanges.one.be1 ⊕ x.flanges.two.be1 ⊕ x.p ⊕ x.m ⊕ x.flanges.one.stiffener.a ⊗ x.flanges.one.chi) (6720000 to 920000000)
    first_box = plus_box far_box one_box

    pub length_box : Inside n (kept_length n x) (6720000 to 1140000000)
    unfolding kept_length
    length_box = plus_box first_box two_box

    pub length_positive : Positive (kept_length n x)
    length_positive = box_positive f (lit< tt) length_box

    pub fixed_room : FixedRoom n x
    fixed_room = record {
      flanges = plus_room f _ _ flanges_box (lit≤ tt);
      near = plus_room f _ _ near_box (lit≤ tt);
      far = plus_room f _ _ far_box (lit≤ tt);
    }

    pub length_room : LengthRoom n x
    unfolding kept_length
    length_room = record {
      fixed = fixed_room;
      one = times_room f _ _ one_box (lit≤ tt);
      two = times_room f _ _ two_box (lit≤ tt);
      first = plus_room f _ _ first_box (lit≤ tt);
      second = plus_room f _ _ length_box (lit≤ tt);
    }

  -- Moments

  module _ {hp c χ : Pair} (H : Inside n hp (0 to 500000000)) (C : Inside n c (600000 to 120000000)) (X : Inside n χ (0 to 1000000)) where
    force_box : Inside n (c ⊗ χ) (0 to 120000000)
    force_box = times_box 0 120000000 (scale f) C X (lit≤ tt) (lit≤ tt)

    half_lip_box : Inside n (half c) (0 to 500000000)
    half_lip_box = half_box f 0 500000000 C (lit≤ tt) (lit≤ tt)

    pub lip_moment_room : LipMomentRoom n hp c χ
    lip_moment_room = record {
      force = times_room f c χ force_box (lit≤ tt);
      half = over_two f c C (lit≤ tt);
      product = signed_times_fits_lem {c = 60000000000 * n} (fine_positive (scale f)) (difference-Ordered (Inside-Ordered H) (Inside-Ordered half_lip_box)) (signed_ordered_lem (Inside-Ordered force_box))
          (difference_reach f H half_lip_box) (signed_reach f force_box) (omega arith) (word_at 60000000000 f (lit≤ tt));
    }

    pub lip_moment-Reaches : Reaches (60000000000 * n) (lip_moment n hp c χ)
    unfolding lip_moment
    lip_moment-Reaches = signed_times-Reaches (fine_positive (scale f)) (signed_reach f force_box) (difference_reach f H half_lip_box) (omega arith)

  module _ {hp be1 be2 χ : Pair} (H : Inside n hp (0 to 500000000)) (B1 : Inside n be1 (3360000 to 100000000)) (B2 : Inside n be2 (3360000 to 100000000)) (X : Inside n χ (0 to 1000000)) where
    part_box : Inside n (be2 ⊗ χ) (0 to 100000000)
    part_box = times_box 0 100000000 (scale f) B2 X (lit≤ tt) (lit≤ tt)

    width_box : Inside n (be2 ⊗ χ ⊕ be1) (3360000 to 200000000)
    width_box = plus_box part_box B1

    pub flange_moment_box : Inside n (flange_moment n hp be1 be2 χ) (0 to 100000000000)
    unfolding flange_moment
    flange_moment_box = times_box 0 100000000000 (scale f) H width_box (lit≤ tt) (lit≤ tt)

    pub flange_moment_room : FlangeMomentRoom n hp be1 be2 χ
    unfolding flange_moment
    flange_moment_room = record {
      part = times_room f be2 χ part_box (lit≤ tt);
      sum = plus_room f _ be1 width_box (lit≤ tt);
      depth = times_room f hp _ flange_moment_box (lit≤ tt);
    }

  -- the web's part at flange 2 is at most half the web, so hp − he÷2 is not cut
  module _ {hp m : Pair} (d : ℕ) (most : d ≤ 49950) (H : Inside n hp (10000 * d to 10000 * d)) (M : Inside n m (0 to 5000 * d)) where
    half_web_box : Inside n (half m) (0 to 2500 * d)
    half_web_box = half_box f 0 (2500 * d) M (lit≤ tt) (omega arith)

    web_arm_box : Inside n (hp ⊖ half m) (0 to 500000000)
    web_arm_box = wider 0 500000000 (omega arith) (omega arith) (minus_box H half_web_box)

    web_part_box : Inside n m (0 to 250000000)
    web_part_box = wider 0 250000000 (lit≤ tt) (omega arith) M

    pub far_web_box : Inside n (far_web_moment n hp m) (0 to 125000000000)
    unfolding far_web_moment
    far_web_box = times_box 0 125000000000 (scale f) web_part_box web_arm_box (lit≤ tt) (lit≤ tt)

    pub far_web_room : FarWebRoom n hp m
    unfolding far_web_moment
    far_web_room = record {
      half = over_two f m web_part_box (lit≤ tt);
      less = minus_fits_lem H half_web_box (omega arith);
      product = times_room f m _ far_web_box (lit≤ tt);
    }

  module _ {p : Pair} (P : Inside n p (0 to 250000000)) where
    web_square_box : Inside n (p ⊗ p) (0 to 62500000000)
    web_square_box = times_box 0 62500000000 (scale f) P P (lit≤ tt) (lit≤ tt)

    pub near_web_box : Inside n (near_web_moment n p) (0 to 31250000000)
    unfolding near_web_moment
    near_web_box = half_box f 0 31250000000 web_square_box (lit≤ tt) (lit≤ tt)

    pub near_web_room : NearWebRoom n p
    near_web_room = record { square = times_room f p p web_square_box (lit≤ tt); half = over_two f _ web_square_box (lit≤ tt) }

  module _ {c χ : Pair} (C : Inside n c (600000 to 120000000)) (X : Inside n χ (0 to 1000000)) where
    lip_factor_box : Inside n (c ⊗ c ⊗ χ) (0 to 14400000000)
    lip_factor_box = times_box 0 14400000000 (scale f) (lip_square_box f C) X (lit≤ tt) (lit≤ tt)

    pub near_lip_box : Inside n (near_lip_moment n c χ) (0 to 7200000000)
    unfolding near_lip_moment
    near_lip_box = half_box f 0 7200000000 lip_factor_box (lit≤ tt) (lit≤ tt)

    pub near_lip_room : NearLipRoom n c χ
    near_lip_room = record {
      square = times_room f c c (lip_square_box f C) (lit≤ tt);
      factor = times_room f _ χ lip_factor_box (lit≤ tt);
      half = over_two f _ lip_factor_box (lit≤ tt);
    }

  -- Their sum

  module _ {d : ℕ} (most : d ≤ 49950) {hp : Pair} (H : Inside n hp (10000 * d to 10000 * d)) {x : EffectiveParts} (K : EffectiveBox n d x) where
    depth_box : Inside n hp (0 to 500000000)
    depth_box = wider 0 500000000 (omega arith) (omega arith) H

    lip_reaches : Reaches (60000000000 * n) (lip_moment n hp x.flanges.two.stiffener.c x.flanges.two.chi)
    lip_reaches = lip_moment-Reaches depth_box K.two.stiffener.c K.two.chi

    flange_reaches : Reaches (100000000000 * n) (signed (flange_moment n hp x.flanges.two.be1 x.flanges.two.stiffener.be2 x.flanges.two.chi))
    flange_reaches = signed_reach f (flange_moment_box depth_box K.two.be1 K.two.stiffener.be2 K.two.chi)

    far_reaches : Reaches (125000000000 * n) (signed (far_web_moment n hp x.m))
    far_reaches = signed_reach f (far_web_box d most H K.m)

    near_reaches : Reaches (31250000000 * n) (signed (near_web_moment n x.p))
    near_reaches = signed_reach f (near_web_box (near_part_box most K))

    near_lip_reaches : Reaches (7200000000 * n) (signed (near_lip_moment n x.flanges.one.stiffener.c x.flanges.one.chi))
    near_lip_reaches = signed_reach f (near_lip_box K.one.stiffener.c K.one.chi)

    outer-Reaches : Reaches (160000000000 * n) (outer n hp x)
    outer-Reaches = signed_plus_reach f 60000000000 100000000000 lip_reaches flange_reaches

    first_reaches : Reaches (285000000000 * n) (outer n hp x ⊞ far_web_moment n hp x.m)
    first_reaches = signed_plus_reach f 160000000000 125000000000 outer-Reaches far_reaches

    second_reaches : Reaches (316250000000 * n) (outer n hp x ⊞ far_web_moment n hp x.m ⊞ near_web_moment n x.p)
    second_reaches = signed_plus_reach f 285000000000 31250000000 first_reaches near_reaches

    pub moment-Reaches : Reaches (323450000000 * n) (moment n hp x)
    unfolding moment
    moment-Reaches = signed_plus_reach f 316250000000 7200000000 second_reaches near_lip_reaches

    pub outer_room : OuterRoom n hp x
    outer_room = record {
      lip = lip_moment_room depth_box K.two.stiffener.c K.two.chi;
      flange = flange_moment_room depth_box K.two.be1 K.two.stiffener.be2 K.two.chi;
      sum = signed_plus_room f 60000000000 100000000000 lip_reaches flange_reaches (lit≤ tt);
    }

    pub web_room : WebRoom n hp x.p x.m (outer n hp x)
    web_room = record {
      far = far_web_room d most H K.m;
      near = near_web_room (near_part_box most K);
      first = signed_plus_room f 160000000000 125000000000 outer-Reaches far_reaches (lit≤ tt);
      second = signed_plus_room f 285000000000 31250000000 first_reaches near_reaches (lit≤ tt);
    }

    pub moment_room : MomentRoom n hp x
    moment_room = record {
      outer_room = outer_room;
      web = web_room;
      near = near_lip_room K.one.stiffener.c K.one.chi;
      sum = signed_plus_room f 316250000000 7200000000 second_reaches near_lip_reaches (lit≤ tt);
    }
