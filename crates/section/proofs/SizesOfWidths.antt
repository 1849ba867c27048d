-- The sizes of slendernesses and widths: u² of web, flange and lip, k of the lip, and the web's kept part; each value lies in a box, and each operation has room.
use Prim.Native.Nat.{ℕ, ◌*◌, ◌≤◌, ◌<◌}
use mathlib.Core.Path.{refl}
use native.Mathlib.Nat.{mul-le-mul, mul-le-mul_right}
use native.Mathlib.Omega.{arith}
use lib.Dec.{lit<, lit≤}
use Rattle.pair.specs.Pairs.{◌to◌, times, over, root}
use Rattle.pair.specs.Enclosure.{Inside}
use Rattle.pair.specs.declared.Pair.{Pair}
use Rattle.pair.proofs.Laws.{times_box, over_box, root_box}
use Rattle.section.specs.declared.Flange.{Flange}
use Rattle.section.specs.declared.Common.{Common}
use Rattle.section.specs.Working.{scale_of, constant, mm, whole, core, strength, u², k, half_kept, web_kept, flange_of}
use Rattle.section.specs.Parts.{Fine, operations}
use Rattle.section.specs.Room.{SlenderRoom, HalfRoom, FlangeRoom}
use Rattle.section.specs.SectionRoom.{WebKeptRoom}
use Rattle.section.proofs.Shares.{ρ_web_box}
use Rattle.section.proofs.Coefficient.{k_box}
use Rattle.section.proofs.Ends.{scale}
use Rattle.section.proofs.BoxRooms.{wider, box_slim, constant_box, mm_box, whole_box, times_room, over_room, root_room, times_by, by_times, over_by}
use Rattle.section.proofs.SheetNumbers.{WebNumbers, FlangeNumbers}

-- a flange of width β in 0.01 mm, and u² of it and of its lip
pub record FlangeBox (n β : ℕ) (x : Flange) : Type 0 where
  pub bp : Inside n x.bp (10000 * β to 10000 * β)
  pub plane : Inside n x.plane (0 to 3325000)
  pub lip : Inside n x.lip (0 to 9580000)

-- A plane of width b (in millionths of a mm) and k of at least k₀: at most r times the thickness wide, u² at most v before it is divided by k, and at most e after.
record Plane (t fyb k₀ b r v e : ℕ) : Type 0 where
  pub thin : 0 < t
  pub strong : fyb ≤ 700
  pub least : 0 < k₀
  pub wide : b ≤ r * (10000 * t)
  pub ratio : r ≤ 500
  pub yield : r * r * 7000000000 ≤ v * 1895416
  pub modulus : v ≤ 924000000
  pub coefficient : v * 1000000 ≤ e * k₀
  pub most : e ≤ 231000000

module _ {n t fyb k₀ a b r v e : ℕ} (f : Fine n) {k w : Pair} (z : Plane t fyb k₀ b r v e) (w_box : Inside n w (a to b)) (k_in : Inside n k (k₀ to 4000000)) where
  open operations n use {◌⊗◌, ◌⊘◌}

  infixl 7 ◌⊗◌
  infixl 7 ◌⊘◌
  ratio_box : Inside n (w ⊘ mm n t) (0 to 1000000 * r)
  ratio_box = over_box 0 (1000000 * r) (scale f) (omega arith) (omega arith) w_box (mm_box f t) (omega arith) (omega arith)

  square_box : Inside n (w ⊘ mm n t ⊗ (w ⊘ mm n t)) (0 to 1000000 * (r * r))
  square_box = times_box 0 (1000000 * (r * r)) (scale f) ratio_box ratio_box (omega arith) (omega arith)

  yield_box : Inside n (w ⊘ mm n t ⊗ (w ⊘ mm n t) ⊗ whole n fyb) (0 to 700000000 * (r * r))
  yield_box = times_box 0 (700000000 * (r * r)) (scale f) square_box (whole_box f fyb) (omega arith) (omega (arith, mul-le-mul_right (r * r) z.strong))

  modulus_box : Inside n (w ⊘ mm n t ⊗ (w ⊘ mm n t) ⊗ whole n fyb ⊘ constant n 1895416 10) (0 to v)
  modulus_box = over_box 0 v (scale f) (lit< tt) (lit< tt) yield_box (constant_box f 1895416 10 189541600000 (lit< tt) refl) (omega arith) (omega arith)

  u²_box : Inside n (u² n (mm n t) (whole n fyb) k w) (0 to e)
  unfolding u²
  u²_box = over_box 0 e (scale f) z.least (lit< tt) modulus_box k_in (omega arith) z.coefficient

  slender_room : SlenderRoom n t fyb k w
  unfolding u²
  slender_room =
      let square_most : r * r ≤ 250000 = mul-le-mul z.ratio z.ratio in
      record {
        ratio = over_by f w t 100 z.thin (lit< tt) refl ratio_box (omega arith);
        square = times_room f _ _ square_box (omega arith);
        yield = times_by f _ fyb 1 (lit< tt) refl yield_box (omega arith);
        modulus = over_by f _ 1895416 10 (lit< tt) (lit< tt) refl modulus_box (omega arith);
        coefficient = over_room f _ _ z.least k_in u²_box (omega arith);
      }

module _ {n : ℕ} (f : Fine n) where
  -- half of what counts of a width, ρ being at least e in units of 0.0002
  module _ (e v : ℕ) {r w : Pair} (r_box : Inside n r (200 * e to 1000000)) (w_box : Inside n w (10000 * v to 10000 * v)) where
    half_ρ_box : Inside n (times (scale_of n) (constant n 1 2) r) (100 * e to 500000)
    half_ρ_box = times_box (100 * e) 500000 (scale f) (constant_box f 1 2 500000 (lit< tt) refl) r_box (omega arith) (lit≤ tt)

    pub half_kept_box : Inside n (half_kept n r w) (e * v to 5000 * v)
    unfolding half_kept
    half_kept_box = times_box (e * v) (5000 * v) (scale f) half_ρ_box w_box (omega arith) (omega arith)

    pub half_kept_room : v ≤ 50000 → HalfRoom n r w
    unfolding half_kept
    half_kept_room h = record { half = by_times f r 1 2 (lit< tt) refl half_ρ_box (lit≤ tt); width = times_room f _ w half_kept_box (omega arith) }

  -- a flange and its lip
  module _ {t fyb γ β : ℕ} (x : FlangeNumbers t fyb γ β) {cp bp : Pair} (cp_box : Inside n cp (5000 * γ to 5000 * γ)) (bp_box : Inside n bp (10000 * β to 10000 * β)) where
    flange_plane : Plane t fyb 4000000 (10000 * β) 60 13300000 3325000
    flange_plane = omega arith

    lip_plane : Plane t fyb 500000 (5000 * γ) 36 4790000 9580000
    lip_plane = omega arith

    q_box : Inside n (over (scale_of n) cp bp) (0 to 600000)
    q_box = over_box 0 600000 (scale f) (omega arith) (omega arith) cp_box bp_box (omega arith) (omega arith)

    k_wide : Inside n (k n (over (scale_of n) cp bp)) (500000 to 4000000)
    k_wide = wider 500000 4000000 (lit≤ tt) (lit≤ tt) (k_box f.some q_box)

    pub flange_room : FlangeRoom n t fyb cp bp
    flange_room = record {
      plane = slender_room f flange_plane bp_box (whole_box f 4);
      quotient = over_room f cp bp (omega arith) bp_box q_box (lit≤ tt);
      ratio = record { order = q_box.mid; most = q_box.high };
      lip = slender_room f lip_plane cp_box k_wide;
    }

    pub flange_box : FlangeBox n β (flange_of n (mm n t) (whole n fyb) cp bp)
    unfolding flange_of
    flange_box = record { bp = bp_box; plane = u²_box f flange_plane bp_box (whole_box f 4); lip = u²_box f lip_plane cp_box k_wide }

  -- the web
  module _ (x : Common) {d : ℕ} (v : WebNumbers x.steel.t.0 x.steel.fyb d) (hp_box : Inside n x.hp (10000 * d to 10000 * d)) where
    web_plane : Plane x.steel.t.0 x.steel.fyb 4000000 (10000 * d) 500 924000000 231000000
    web_plane = omega arith

    web_box : Inside n (u² n (core n x) (strength n x) (whole n 4) x.hp) (0 to 231000000)
    web_box = u²_box f web_plane hp_box (whole_box f 4)

    u_box : Inside n (root (scale_of n) (u² n (core n x) (strength n x) (whole n 4) x.hp)) (0 to 15200000)
    u_box = root_box 0 15200000 (scale f) web_box (lit≤ tt) (lit≤ tt)

    pub he_box : Inside n (web_kept n x) (0 to 5000 * d)
    unfolding web_kept
    he_box = wider 0 (5000 * d) (omega arith) (omega arith) (half_kept_box 300 d (ρ_web_box f.some u_box) hp_box)

    pub web_kept_room : WebKeptRoom n x
    web_kept_room = record {
      slender = slender_room f web_plane hp_box (whole_box f 4);
      radicand = root_room f web_box (lit≤ tt);
      slim = box_slim f u_box (lit≤ tt);
      half = half_kept_room 300 d (ρ_web_box f.some u_box) hp_box (omega arith);
    }
