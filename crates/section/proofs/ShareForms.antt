-- ρ at one end, as the code works it: nothing that it forms passes a word; and ρ of a u² up to the square of the limit.
use mathlib.Core.Path.{◌≡◌, refl, ap, ap₂, ◌∙◌}
use Prim.Native.Nat.{ℕ, ◌-◌, ◌*◌, ◌≤◌, ◌<◌, min}
use native.Mathlib.Nat.{mul_assoc, mul-le-mul_left}
use native.Mathlib.Omega.{arith}
use borrow.Author.Tests.{le-leb, lt-leb}
use lib.Dec.{lit<}
use Rattle.pair.specs.Pairs.{◌to◌, root}
use Rattle.pair.specs.Enclosure.{Inside}
use Rattle.pair.specs.declared.Pair.{Pair}
use Rattle.pair.proofs.Laws.{root-AtMost}
use Rattle.section.specs.Working.{scale_of, whole, units, ρ_at, ρ, ρ_plane, ρ_lip}
use Rattle.section.specs.Parts.{Fine}
use Rattle.section.specs.Room.{Slim}
use Rattle.section.specs.declared.curve.Curve.{Curve}
use Rattle.section.specs.declared.factors.Slenderness.{Slenderness}
use Rattle.section.proofs.Ends.{scale-Fine}
use Rattle.section.proofs.BoxRooms.{constant_box}

-- one end of a slenderness, with the limit and the number taken off that its ρ has
pub record Share (n limit less u : ℕ) : Type 0 where
  pub fine : Fine n
  pub most : u ≤ 40000000 * n
  pub low : 500000 * n ≤ limit
  pub high : limit ≤ 1000000 * n
  pub twice : 2 * less ≤ limit

module _ (x : Slenderness) (c : Curve) where
  pub upper_end : Share x.scale.fineness (x.scale.fineness * c.full) (x.scale.fineness * c.less) x.u.hi
  upper_end = record {
    fine = scale-Fine x.scale;
    most = x.most;
    low = omega (arith, mul-le-mul_left x.scale.fineness c.low);
    high = omega (arith, mul-le-mul_left x.scale.fineness c.high);
    twice = omega (arith, mul-le-mul_left x.scale.fineness c.twice);
  }

  pub lower_end : Share x.scale.fineness (x.scale.fineness * c.full) (x.scale.fineness * c.less) x.u.lo
  lower_end = let e = upper_end in record { fine = e.fine; most = omega (arith, x.order, x.most); low = e.low; high = e.high; twice = e.twice }

module _ {n limit less u : ℕ} (r : Share n limit less u) where
  -- rounded down or up
  module _ (quotient : ℕ → ℕ → ℕ) where
    pub full_end : u ≤ limit → scale_of n ≡ ρ_at n quotient limit less u
    unfolding ρ_at
    full_end h = rw (le-leb u limit h)

    pub share_end : limit < u → {y x : ℕ} → y ≡ quotient ((u - less) * scale_of n * scale_of n) (u * u) → x ≡ min (scale_of n) y → x ≡ ρ_at n quotient limit less u
    unfolding ρ_at
    share_end h e f =
        rw (lt-leb u limit h)
        (f ∙ ap (λ (y : ℕ). min (scale_of n) y) (e ∙ ap (λ (y : ℕ). quotient y (u * u)) (mul_assoc (u - less) (scale_of n) (scale_of n))))

-- the limits and the numbers taken off, in units
units_673 : (n : ℕ) → n * 673000 ≡ units n 673 1000
units_673 n = omega arith

units_748 : (n : ℕ) → n * 748000 ≡ units n 748 1000
units_748 n = omega arith

-- so ρ of web and flanges and ρ of the lip are what the code works
pub plane_share_is : (n : ℕ) (u : Pair) → ρ n (n * 673000) (n * 220000) u ≡ ρ_plane n u
unfolding ρ_plane
plane_share_is n u = let less : n * 220000 ≡ units n 22 100 = omega arith in ap₂ (λ (x y : ℕ). ρ n x y u) (units_673 n) less

pub lip_share_is : (n : ℕ) (u : Pair) → ρ n (n * 748000) (n * 188000) u ≡ ρ_lip n u
unfolding ρ_lip
lip_share_is n u = let less : n * 188000 ≡ units n 188 1000 = omega arith in ap₂ (λ (x y : ℕ). ρ n x y u) (units_748 n) less

-- a width whose u² is not above the limit's square counts in full

one_is : {n : ℕ} → Fine n → whole n 1 ≡ (scale_of n to scale_of n)
one_is {n} f =
    let b : Inside n (whole n 1) (1000000 to 1000000) = constant_box f 1 1 1000000 (lit< tt) refl in
    λ i. record { lo = low b i; hi = high b i }
  where
    low : {p : Pair} → Inside n p (1000000 to 1000000) → p.lo ≡ scale_of n
    low b = omega (arith, b.low, b.mid, b.high)

    high : {p : Pair} → Inside n p (1000000 to 1000000) → p.hi ≡ scale_of n
    high b = omega (arith, b.low, b.mid, b.high)

module _ {n : ℕ} (f : Fine n) (x : Pair) (slim : Slim n (root (scale_of n) x)) where
  root_most : (limit square : ℕ) → limit * limit ≡ square * 1000000 → x.hi ≤ n * square → (root (scale_of n) x).hi ≤ n * limit
  root_most limit square e h =
      (root-AtMost (scale_of n) (n * limit) {a = n * square} (record { high = h }) (omega (arith, ap (λ (y : ℕ). n * n * y) e))).high

  -- the limit and its square in millionths, then in units the limit and what is taken off
  full_share : (limit square : ℕ) → limit * limit ≡ square * 1000000 → x.hi ≤ n * square
      → (l less : ℕ) → n * limit ≡ l → whole n 1 ≡ ρ n l less (root (scale_of n) x)
  unfolding ρ ρ_at
  full_share limit square e h l less g =
      let most : (root (scale_of n) x).hi ≤ n * limit = root_most limit square e h in
      rw (le-leb (root (scale_of n) x).hi l (omega arith), le-leb (root (scale_of n) x).lo l (omega (arith, slim.order))) (one_is f)

  pub full_plane : x.hi ≤ n * 452929 → whole n 1 ≡ ρ_plane n (root (scale_of n) x)
  unfolding ρ_plane
  full_plane h = full_share 673000 452929 refl h (units n 673 1000) (units n 22 100) (units_673 n)

  pub full_lip : x.hi ≤ n * 559504 → whole n 1 ≡ ρ_lip n (root (scale_of n) x)
  unfolding ρ_lip
  full_lip h = full_share 748000 559504 refl h (units n 748 1000) (units n 188 1000) (units_748 n)

pub ruleset in_full = (scale-Fine, full_plane, full_lip)
