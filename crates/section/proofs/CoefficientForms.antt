-- k as the code works it, at one value of q and past 0.35 on the pair, and its box and its room up to 0.6.
use mathlib.Core.Path.{◌≡◌, refl, ap, ◌∙◌}
use mathlib.Core.Bool.{true}
use Prim.Native.Nat.{ℕ, ◌*◌, ◌≤◌, ◌<◌}
use native.Mathlib.Nat.{le_refl, mul-le-mul}
use native.Mathlib.Omega.{arith}
use borrow.Author.Tests.{le-leb, lt-leb}
use lib.Dec.{lit<, lit≤}
use Rattle.pair.specs.Pairs.{◌to◌, exact, ratio, minus, times, cube_root}
use Rattle.pair.specs.Fits.{ratio_fits}
use Rattle.pair.specs.Enclosure.{Inside}
use Rattle.pair.specs.declared.Pair.{Pair}
use Rattle.pair.proofs.Laws.{same_scale, inside, minus_box, times_box, cube_root_box, plus_box, minus_fits_lem, cube_root_fits_lem}
use Rattle.section.specs.Working.{scale_of, units, constant, k_past, k_at, k}
use Rattle.section.specs.Parts.{Fine}
use Rattle.section.specs.Room.{PastRoom, LipRatio}
use Rattle.section.proofs.Ends.{scale, scale-Fine, scale_positive, constant_exact, exact_ends}
use Rattle.section.proofs.Rising.{Rises, rising}
use Rattle.section.proofs.BoxRooms.{constant_box, ratio_room, plus_room, times_room, by_times}

pub half_room : {n : ℕ} → Fine n → ratio_fits (n * 1000000) 1 2 ≡ true
half_room f = ratio_room f 1 2 (lit< tt) (lit≤ tt)

pub k_at_most : (n q : ℕ) {x : Pair} → q ≤ n * 350000 → x ≡ ratio (n * 1000000) 1 2 → x ≡ k_at n q
unfolding k_at
k_at_most n q h e = rw (le-leb q (units n 35 100) (omega arith)) e

pub k_at_past : (n q : ℕ) {x : Pair} → n * 350000 < q → x ≡ k_past n (q to q) → x ≡ k_at n q
unfolding k_at
k_at_past n q h e = rw (lt-leb q (units n 35 100) (omega arith)) e

-- as the code has q, which is exact
pub k_at_exact : (n q : ℕ) {p x : Pair} → n * 350000 < q → p ≡ exact q → x ≡ k_past n p → x ≡ k_at n q
k_at_exact n q h d e = k_at_past n q h (e ∙ ap (k_past n) (d ∙ exact_ends q))

module _ {n : ℕ} {q : Pair} (f : Fine n) (r : LipRatio n q) (past : n * 350000 < q.lo) where
  -- what q is past 0.35
  abbrev d : Pair
  d = minus q (constant n 35 100)

  q_box : Inside n q (350000 to 600000)
  q_box = record { low = omega arith; mid = r.order; high = r.most }

  limit_box : Inside n (constant n 35 100) (350000 to 350000)
  limit_box = constant_box f 35 100 350000 (lit< tt) refl

  d_box : Inside n d (0 to 250000)
  d_box = minus_box q_box limit_box

  square_box : Inside n (times (scale_of n) d d) (0 to 62500)
  square_box = times_box 0 62500 (scale f) d_box d_box (lit≤ tt) (lit≤ tt)

  root_box : Inside n (cube_root (scale_of n) (times (scale_of n) d d)) (0 to 396900)
  root_box = cube_root_box 0 396900 (scale f) square_box (lit≤ tt) (lit≤ tt)

  more_box : Inside n (times (scale_of n) (constant n 83 100) (cube_root (scale_of n) (times (scale_of n) d d))) (0 to 330000)
  more_box = times_box 0 330000 (scale f) (constant_box f 83 100 830000 (lit< tt) refl) root_box (lit≤ tt) (lit≤ tt)

  pair_box : Inside n (k_past n q) (500000 to 830000)
  unfolding k_past
  pair_box = plus_box (constant_box f 1 2 500000 (lit< tt) refl) more_box

  pub past_room : PastRoom n q
  unfolding k_past
  past_room = record {
    limit = ratio_room f 35 100 (lit< tt) (lit≤ tt);
    less = minus_fits_lem q_box limit_box (le_refl _);
    square = times_room f _ _ square_box (lit≤ tt);
    cube = cube_root_fits_lem (scale_of n) (omega arith) square_box (omega (arith, f.most, mul-le-mul (mul-le-mul f.most f.most) f.most));
    slope = by_times f _ 83 100 (lit< tt) refl more_box (lit≤ tt);
    half = half_room f;
    sum = plus_room f _ _ pair_box (lit≤ tt);
  }

-- one value of q as a pair
pub at_ratio : {n q : ℕ} → q ≤ 600000 * n → LipRatio n (q to q)
at_ratio most = record { order = le_refl _; most = most }

pub past_box : {n q : ℕ} → Fine n → n * 350000 < q → q ≤ 600000 * n → Inside n (k_past n (q to q)) (500000 to 830000)
past_box f past most = pair_box f (at_ratio most) past

-- past 0.35 each end of k is that at the same end of q: a narrower q has a narrower k, and k rises with q

past_narrower : {n : ℕ} {Q q : Pair} → 0 < n → Inside 1 Q q → Inside 1 (k_past n Q) (k_past n q)
unfolding k_past
past_narrower n⁺ i = search (inside, same_scale, scale_positive, constant_exact, lit<) depth 20

pub past_rises : {n : ℕ} {q q' : Pair} → 0 < n → Rises q q' → Rises (k_past n q) (k_past n q')
unfolding k_past
past_rises n⁺ r = search (rising, scale_positive) depth 20

module _ {n : ℕ} {q : Pair} (n⁺ : 0 < n) (o : q.lo ≤ q.hi) where
  low_end : (k_past n q).lo ≡ (k_past n (q.lo to q.lo)).lo
  low_end =
      let narrow : Inside 1 (q.lo to q.lo) q = record { low = omega arith; mid = le_refl _; high = omega arith } in
      let rise : Rises (q.lo to q.lo) q = record { low = le_refl _; high = o; first = record { ends = le_refl _ }; second = record { ends = o } } in
      omega (arith, (past_narrower n⁺ narrow).low, (past_rises n⁺ rise).low)

  high_end : (k_past n q).hi ≡ (k_past n (q.hi to q.hi)).hi
  high_end =
      let narrow : Inside 1 (q.hi to q.hi) q = record { low = omega arith; mid = le_refl _; high = omega arith } in
      let rise : Rises q (q.hi to q.hi) = record { low = o; high = le_refl _; first = record { ends = o }; second = record { ends = le_refl _ } } in
      omega (arith, (past_narrower n⁺ narrow).high, (past_rises n⁺ rise).high)

pub k_past_is : {n : ℕ} {q x : Pair} → Fine n → LipRatio n q → n * 350000 < q.lo → x ≡ k_past n q → x ≡ k n q
unfolding k k_at
k_past_is {n} {q} f r past e =
    rw (lt-leb q.lo (units n 35 100) (omega arith), lt-leb q.hi (units n 35 100) (omega (arith, r.order)))
    (e ∙ (λ i. low_end f.some r.order i to high_end f.some r.order i))

pub ruleset at_one_ratio = (scale-Fine, half_room, k_at_most, k_at_exact)
