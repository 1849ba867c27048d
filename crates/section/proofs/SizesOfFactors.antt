-- The sizes of D, ud and χ at thickness t (in 0.01 mm): each value lies in a box, and each operation has room.
use Prim.Native.Nat.{ℕ, ◌*◌, ◌≤◌, ◌<◌}
use mathlib.Core.Path.{refl}
use native.Mathlib.Nat.{mul-le-mul, mul-pos}
use native.Mathlib.Omega.{arith}
use lib.Dec.{lit<, lit≤}
use Rattle.pair.specs.Pairs.{◌to◌, root}
use Rattle.pair.specs.Enclosure.{Inside}
use Rattle.pair.specs.declared.Pair.{Pair}
use Rattle.pair.proofs.Laws.{plus_box, times_box, over_box, root_box}
use Rattle.section.specs.Working.{scale_of, constant, whole, flexibility_of, ud}
use Rattle.section.specs.Parts.{Fine, operations}
use Rattle.section.specs.Room.{BendRoom, UdRoom}
use Rattle.section.proofs.Ends.{scale}
use Rattle.section.proofs.BoxRooms.{wider, constant_box, whole_box, plus_room, times_room, over_room, root_room, times_by, by_times, over_by}

module _ (n : ℕ) where
  open operations n use {◌⊗◌, ◌⊘◌}

  infixl 7 ◌⊗◌
  infixl 7 ◌⊘◌
  -- D, where g and the other flange's g, o, are at most 60 t, hp is at most 500 and kf at most 6
  module _ (f : Fine n) (t : ℕ) {hp kf g o : Pair} (thick : t ≤ 600) (hp_in : Inside n hp (0 to 500000000)) (kf_in : Inside n kf (0 to 6000000))
      (g_thin : Inside n g (0 to 600000 * t)) (g_wide : Inside n g (0 to 200000000)) (o_thin : Inside n o (0 to 600000 * t)) where
    g²_box : Inside n (g ⊗ g) (0 to 360000 * (t * t))
    g²_box = times_box 0 (360000 * (t * t)) (scale f) g_thin g_thin (omega arith) (omega arith)

    g²hp_box : Inside n (g ⊗ g ⊗ hp) (0 to 180000000 * (t * t))
    g²hp_box = times_box 0 (180000000 * (t * t)) (scale f) g²_box hp_in (omega arith) (omega arith)

    g³_box : Inside n (g ⊗ g ⊗ g) (0 to 72000000 * (t * t))
    g³_box = times_box 0 (72000000 * (t * t)) (scale f) g²_box g_wide (omega arith) (omega arith)

    half_box : Inside n (constant n 1 2 ⊗ g) (0 to 300000 * t)
    half_box = times_box 0 (300000 * t) (scale f) (constant_box f 1 2 500000 (lit< tt) refl) g_thin (omega arith) (omega arith)

    other_box : Inside n (constant n 1 2 ⊗ g ⊗ o) (0 to 180000 * (t * t))
    other_box = times_box 0 (180000 * (t * t)) (scale f) half_box o_thin (omega arith) (omega arith)

    depth_box : Inside n (constant n 1 2 ⊗ g ⊗ o ⊗ hp) (0 to 90000000 * (t * t))
    depth_box = times_box 0 (90000000 * (t * t)) (scale f) other_box hp_in (omega arith) (omega arith)

    cross_box : Inside n (constant n 1 2 ⊗ g ⊗ o ⊗ hp ⊗ kf) (0 to 540000000 * (t * t))
    cross_box = times_box 0 (540000000 * (t * t)) (scale f) depth_box kf_in (omega arith) (omega arith)

    pub flexibility_of_box : Inside n (flexibility_of n hp kf g o) (0 to 792000000 * (t * t))
    unfolding flexibility_of
    flexibility_of_box = wider 0 (792000000 * (t * t)) (lit≤ tt) (omega arith) (plus_box (plus_box g²hp_box g³_box) cross_box)

    pub bend_room : BendRoom n hp kf g o
    bend_room =
        let t²_most : t * t ≤ 360000 = mul-le-mul thick thick in
        record {
          square = times_room f _ _ g²_box (omega arith);
          depth = times_room f _ _ g²hp_box (omega arith);
          solid = times_room f _ _ g³_box (omega arith);
          cross = record {
            half = by_times f g 1 2 (lit< tt) refl half_box (omega arith);
            other = times_room f _ _ other_box (omega arith);
            depth = times_room f _ _ depth_box (omega arith);
            factor = times_room f _ _ cross_box (omega arith);
          };
          first = plus_room f _ _ (plus_box g²hp_box g³_box) (omega arith);
          second = plus_room f _ _ (plus_box (plus_box g²hp_box g³_box) cross_box) (omega arith);
        }

  -- ud, at most 33.5, where D÷J is at most 28,300,000 for every thickness
  module _ (f : Fine n) (t : ℕ) {D J T : Pair} (t⁺ : 0 < t) (flexibility_in : Inside n D (0 to 792000000 * (t * t)))
      (inertia_in : Inside n J (28 * (t * t) to 11053391240000)) (stress_in : Inside n T (0 to 220000000)) where
    J⁺ : 0 < 28 * (t * t)
    J⁺ = omega (arith, mul-pos t⁺ t⁺)

    quotient_box : Inside n (D ⊘ J) (0 to 28300000000000)
    quotient_box = over_box 0 28300000000000 (scale f) J⁺ (lit< tt) flexibility_in inertia_in (lit≤ tt) (omega arith)

    once_box : Inside n (D ⊘ J ⊗ T) (0 to 6226000000000000)
    once_box = times_box 0 6226000000000000 (scale f) quotient_box stress_in (lit≤ tt) (lit≤ tt)

    twice_box : Inside n (D ⊘ J ⊗ T ⊗ T) (0 to 1369720000000000000)
    twice_box = times_box 0 1369720000000000000 (scale f) once_box stress_in (lit≤ tt) (lit≤ tt)

    poisson_box : Inside n (D ⊘ J ⊗ T ⊗ T ⊗ constant n 91 100) (0 to 1246445200000000000)
    poisson_box = times_box 0 1246445200000000000 (scale f) twice_box (constant_box f 91 100 910000 (lit< tt) refl) (lit≤ tt) (lit≤ tt)

    million_box : Inside n (D ⊘ J ⊗ T ⊗ T ⊗ constant n 91 100 ⊘ whole n 1000000) (0 to 1246445200000)
    million_box = over_box 0 1246445200000 (scale f) (lit< tt) (lit< tt) poisson_box (whole_box f 1000000) (lit≤ tt) (lit≤ tt)

    inner_box : Inside n (root (scale_of n) (D ⊘ J ⊗ T ⊗ T ⊗ constant n 91 100 ⊘ whole n 1000000)) (0 to 1117000000)
    inner_box = root_box 0 1117000000 (scale f) million_box (lit≤ tt) (lit≤ tt)

    pub ud_box : Inside n (ud n D J T) (0 to 33500000)
    unfolding ud
    ud_box = root_box 0 33500000 (scale f) inner_box (lit≤ tt) (lit≤ tt)

    pub ud_room : UdRoom n D J T
    ud_room = record {
      load = record {
        quotient = over_room f D J J⁺ inertia_in quotient_box (lit≤ tt);
        once = times_room f _ _ once_box (lit≤ tt);
        twice = times_room f _ _ twice_box (lit≤ tt);
      };
      poisson = times_by f _ 91 100 (lit< tt) refl poisson_box (lit≤ tt);
      million = over_by f _ 1000000 1 (lit< tt) (lit< tt) refl million_box (lit≤ tt);
      inner = root_room f million_box (lit≤ tt);
      outer = root_room f inner_box (lit≤ tt);
    }
