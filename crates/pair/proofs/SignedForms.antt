-- Signed pairs as the code works them: which ends give the least and the greatest result, and that every part of it fits.
use mathlib.Core.Path.{◌≡◌, ap, ap₂, ◌∙◌}
use mathlib.Core.Bool.{true, false}
use Prim.Native.Nat.{ℕ, suc, max, ◌+◌, ◌*◌, ◌/◌, ◌^◌, ◌≤◌, ◌<◌}
use native.Mathlib.Nat.{le_refl, le_trans, lt_of_le_of_lt, le-max_left, le-max_right, max_comm, mul-le-mul, mul-le-mul_right, mul-le-mul_left, div-mul-le_self}
use native.Mathlib.Omega.{arith}
use lib.Dec.{leb}
use lib.IntN.{ℤ, pos, negsuc, neg_ℤ, nat_abs, ◌+ℤ◌, ◌-ℤ◌, ◌*ℤ◌}
use lib.Signed.{lt_z}
use Rattle.std.proofs.lemmas.Int.{ints, to_z-of_z, to_z_pos, fits_signed_from_abs}
use Rattle.pair.specs.Rounding.{ceil_div}
use Rattle.pair.specs.Integers.{above, below, ◌≼ℤ◌, leb_ℤ, least, floor_over}
use Rattle.pair.specs.SignedPairs.{SignedPair, signed, opposite, least_product, signed_times, signed_over, reach}
use Rattle.pair.specs.Fits.{signed_ordered, signed_plus_fits, signed_times_fits, signed_over_fits}
use Rattle.pair.specs.declared.Pair.{Pair}
use Rattle.pair.proofs.Quotients.{ceil_le, le_ceil, le_floor}
use Rattle.pair.proofs.IntegerParts.{neg_above, neg_below, neg_size, plus_size}
use Rattle.pair.proofs.IntegerLaws.{min_is_least, of_least, le_trans_ℤ, pos-le, neg_pos-le, neg_scaled, scaled_le, scaled_one, least_left, least_right, le-least, least_first, least_second}
use Rattle.pair.proofs.IntegerRounding.{floor_least, floor_neg}
use Rattle.pair.proofs.Opposites.{zero_less, zero_less_size, times_opposite, over_opposite}
use Rattle.pair.proofs.SignedBounds.{PlusRoom, TimesRoom, OverRoom, plus_room, times_room, over_room}

-- sums and differences

pub low_plus : (a b : SignedPair) → signed_plus_fits a b ≡ true → nat_abs (a.lo +ℤ b.lo) < 2 ^ 64
unfolding reach
low_plus a b e = let r : PlusRoom a b = plus_room _ _ e in omega (arith, r.room, plus_size a.lo b.lo)

pub high_plus : (a b : SignedPair) → signed_plus_fits a b ≡ true → nat_abs (a.hi +ℤ b.hi) < 2 ^ 64
unfolding reach
high_plus a b e = let r : PlusRoom a b = plus_room _ _ e in omega (arith, r.room, plus_size a.hi b.hi)

pub low_minus : (a b : SignedPair) → signed_plus_fits a b ≡ true → nat_abs (a.lo -ℤ b.hi) < 2 ^ 64
unfolding reach
low_minus a b e = let r : PlusRoom a b = plus_room _ _ e in omega (arith, r.room, plus_size a.lo (neg_ℤ b.hi), neg_size b.hi)

pub high_minus : (a b : SignedPair) → signed_plus_fits a b ≡ true → nat_abs (a.hi -ℤ b.lo) < 2 ^ 64
unfolding reach
high_minus a b e = let r : PlusRoom a b = plus_room _ _ e in omega (arith, r.room, plus_size a.hi (neg_ℤ b.lo), neg_size b.lo)

pub ruleset sums = (to_z-of_z, fits_signed_from_abs, low_plus, high_plus, low_minus, high_minus)

-- no product and no quotient of sizes within the reach passes 64 bits

pub times_word : {s : ℕ} {x y : SignedPair} {n k : ℕ} → TimesRoom s x y → n ≤ reach x → k ≤ reach y → ceil_div (n * k) s < 2 ^ 64
times_word r h k = lt_of_le_of_lt (ceil_le r.scale (le_trans (mul-le-mul h k) (le_ceil r.scale))) r.room

pub over_word : {s : ℕ} {x : SignedPair} {q : Pair} {n d : ℕ} → OverRoom s x q → n ≤ reach x → q.lo ≤ d → ceil_div (n * s) d < 2 ^ 64
over_word {s} {x} {q} r h k =
    let d⁺ = le_trans r.some k in
    lt_of_le_of_lt (ceil_le d⁺ (le_trans (mul-le-mul_right s h) (le_trans (le_ceil r.some) (mul-le-mul_left _ k)))) r.room

pub low_reach : (a : SignedPair) → nat_abs a.lo ≤ reach a
unfolding reach
low_reach a = le-max_left _ _

pub high_reach : (a : SignedPair) → nat_abs a.hi ≤ reach a
unfolding reach
high_reach a = le-max_right _ _

pub pair_low : (p : Pair) → p.lo ≤ reach (signed p)
unfolding signed reach
pair_low p = le-max_left _ _

pub pair_high : (p : Pair) → p.hi ≤ reach (signed p)
unfolding signed reach
pair_high p = le-max_right _ _

-- the ends of a pair are in order as those of the signed pair

ends_of : (p : Pair) → (signed p).lo ≼ℤ (signed p).hi → p.lo ≤ p.hi
unfolding signed
ends_of p h = omega arith

-- the scale of a product is above zero

pub times_scale : (s : ℕ) (a b : SignedPair) → signed_times_fits s a b ≡ true → 0 < s
times_scale s a b e = let r : TimesRoom s a b = times_room s a b e in r.scale

-- the product with a pair none of which is below zero rests on one of its ends

pub times_low_fits : (s : ℕ) (a : SignedPair) (p : Pair) → signed_times_fits s a (signed p) ≡ true → ceil_div (nat_abs a.lo * p.lo) s < 2 ^ 64
times_low_fits s a p e = times_word (times_room s a (signed p) e) (low_reach a) (pair_low p)

pub times_high_fits : (s : ℕ) (a : SignedPair) (p : Pair) → signed_times_fits s a (signed p) ≡ true → ceil_div (nat_abs a.lo * p.hi) s < 2 ^ 64
times_high_fits s a p e = times_word (times_room s a (signed p) e) (low_reach a) (pair_high p)

falls : (x : ℤ) {c d : ℕ} → lt_z x (pos 0) ≡ true → c ≤ d → x *ℤ pos d ≼ℤ x *ℤ pos c
falls (pos n) e h = absurd (grind (arith, ints))
falls (negsuc n) {c} {d} e h = neg_pos-le (mul-le-mul_left (suc n) h)

rises : (x : ℤ) {c d : ℕ} → lt_z x (pos 0) ≡ false → c ≤ d → x *ℤ pos c ≼ℤ x *ℤ pos d
rises (pos n) e h = pos-le (mul-le-mul_left n h)
rises (negsuc n) e h = absurd (grind (arith, ints))

lows : (a : SignedPair) (p : Pair) → a.lo ≼ℤ a.hi → least (a.lo *ℤ pos p.lo) (a.lo *ℤ pos p.hi) ≡ least_product a (signed p)
unfolding least_product signed
lows a p o = least_first (le-least (le_trans_ℤ (least_left _ _) (scaled_le p.lo o)) (le_trans_ℤ (least_right _ _) (scaled_le p.hi o)))

pub times_below : (s : ℕ) (a : SignedPair) (p : Pair) → signed_times_fits s a (signed p) ≡ true → lt_z a.lo (pos 0) ≡ true
    → floor_over (a.lo *ℤ pos p.hi) s ≡ (signed_times s a (signed p)).lo
unfolding signed_times
times_below s a p e t =
    let r : TimesRoom s a (signed p) = times_room s a (signed p) e in
    ap (λ (z : ℤ). floor_over z s) (least_second (falls a.lo t (ends_of p r.second)) ∙ lows a p r.first)

pub times_above : (s : ℕ) (a : SignedPair) (p : Pair) → signed_times_fits s a (signed p) ≡ true → lt_z a.lo (pos 0) ≡ false
    → floor_over (a.lo *ℤ pos p.lo) s ≡ (signed_times s a (signed p)).lo
unfolding signed_times
times_above s a p e t =
    let r : TimesRoom s a (signed p) = times_room s a (signed p) e in
    ap (λ (z : ℤ). floor_over z s) (least_first (rises a.lo t (ends_of p r.second)) ∙ lows a p r.first)

pub ruleset low_times = (to_z-of_z, to_z_pos, times_scale, times_low_fits, times_high_fits, times_below, times_above)

-- the least product of two ends

up_less : {m n s : ℕ} → 0 < s → m ≤ n → ceil_div n s < 2 ^ 64 → ceil_div m s < 2 ^ 64
up_less s⁺ h k = lt_of_le_of_lt (ceil_le s⁺ (le_trans h (le_ceil s⁺))) k

pub by_low_fits : (n s : ℕ) (b : SignedPair) → 0 < s → ceil_div (n * reach b) s < 2 ^ 64 → ceil_div (n * nat_abs b.lo) s < 2 ^ 64
by_low_fits n s b s⁺ h = up_less s⁺ (mul-le-mul_left n (low_reach b)) h

pub by_high_fits : (n s : ℕ) (b : SignedPair) → 0 < s → ceil_div (n * reach b) s < 2 ^ 64 → ceil_div (n * nat_abs b.hi) s < 2 ^ 64
by_high_fits n s b s⁺ h = up_less s⁺ (mul-le-mul_left n (high_reach b)) h

pub least_size : (x y : ℤ) → nat_abs x < 2 ^ 64 → nat_abs y < 2 ^ 64 → nat_abs (least x y) < 2 ^ 64
least_size x y h k = of_least (λ z. nat_abs z < 2 ^ 64) x y h k

pub ruleset least_of_two = (to_z-of_z, min_is_least, by_low_fits, by_high_fits, least_size)

pub low_fits : (s : ℕ) (a b : SignedPair) → signed_times_fits s a b ≡ true → ceil_div (nat_abs a.lo * reach b) s < 2 ^ 64
low_fits s a b e = let r : TimesRoom s a b = times_room s a b e in times_word r (low_reach a) (le_refl (reach b))

pub high_fits : (s : ℕ) (a b : SignedPair) → signed_times_fits s a b ≡ true → ceil_div (nat_abs a.hi * reach b) s < 2 ^ 64
high_fits s a b e = let r : TimesRoom s a b = times_room s a b e in times_word r (high_reach a) (le_refl (reach b))

pub least_of_four : (s : ℕ) (a b : SignedPair) → signed_times_fits s a b ≡ true
    → least (least (floor_over (a.lo *ℤ b.lo) s) (floor_over (a.lo *ℤ b.hi) s)) (least (floor_over (a.hi *ℤ b.lo) s) (floor_over (a.hi *ℤ b.hi) s)) ≡ (signed_times s a b).lo
unfolding signed_times least_product
least_of_four s a b e =
    let s⁺ : 0 < s = times_scale s a b e in
    ap₂ least (floor_least _ _ s⁺) (floor_least _ _ s⁺) ∙ floor_least _ _ s⁺

pub ruleset low_product = (to_z-of_z, min_is_least, least_size, times_scale, low_fits, high_fits, least_of_four)

-- a quotient rests on one end of the divisor

up_falls : (n : ℕ) {c d : ℕ} → 0 < c → c ≤ d → ceil_div n d ≤ ceil_div n c
up_falls n {c} c⁺ h = ceil_le (le_trans c⁺ h) (le_trans (le_ceil c⁺) (mul-le-mul_left (ceil_div n c) h))

down_falls : (n : ℕ) {c d : ℕ} → 0 < c → c ≤ d → n / d ≤ n / c
down_falls n {d} c⁺ h = le_floor c⁺ (le_trans (mul-le-mul_left (n / d) h) (div-mul-le_self n d))

floor_rises : (x : ℤ) (s : ℕ) {c d : ℕ} → 0 < c → c ≤ d → lt_z x (pos 0) ≡ true → floor_over (x *ℤ pos s) c ≼ℤ floor_over (x *ℤ pos s) d
floor_rises (pos n) s c⁺ h e = absurd (grind (arith, ints))
floor_rises (negsuc n) s {c} {d} c⁺ h e = rw (neg_scaled (suc n) s, floor_neg (suc n * s) c⁺, floor_neg (suc n * s) (le_trans c⁺ h)) (neg_pos-le (up_falls (suc n * s) c⁺ h))

floor_falls : (x : ℤ) (s : ℕ) {c d : ℕ} → 0 < c → c ≤ d → lt_z x (pos 0) ≡ false → floor_over (x *ℤ pos s) d ≼ℤ floor_over (x *ℤ pos s) c
unfolding floor_over
floor_falls (pos n) s c⁺ h e = pos-le (down_falls (n * s) c⁺ h)
floor_falls (negsuc n) s c⁺ h e = absurd (grind (arith, ints))

pub over_some : (s : ℕ) (a : SignedPair) (q : Pair) → signed_over_fits s a q ≡ true → (0 < q.lo) × (0 < q.hi)
over_some s a q e = let r : OverRoom s a q = over_room s a q e in (r.some, le_trans r.some r.ends)

pub over_low_fits : (s : ℕ) (a : SignedPair) (q : Pair) → signed_over_fits s a q ≡ true → ceil_div (nat_abs a.lo * s) q.lo < 2 ^ 64
over_low_fits s a q e = over_word (over_room s a q e) (low_reach a) (le_refl q.lo)

pub over_high_fits : (s : ℕ) (a : SignedPair) (q : Pair) → signed_over_fits s a q ≡ true → ceil_div (nat_abs a.lo * s) q.hi < 2 ^ 64
over_high_fits s a q e = let r : OverRoom s a q = over_room s a q e in over_word r (low_reach a) r.ends

pub over_below : (s : ℕ) (a : SignedPair) (q : Pair) → signed_over_fits s a q ≡ true → lt_z a.lo (pos 0) ≡ true → floor_over (a.lo *ℤ pos s) q.lo ≡ (signed_over s a q).lo
unfolding signed_over
over_below s a q e t = let r : OverRoom s a q = over_room s a q e in least_first (floor_rises a.lo s r.some r.ends t)

pub over_above : (s : ℕ) (a : SignedPair) (q : Pair) → signed_over_fits s a q ≡ true → lt_z a.lo (pos 0) ≡ false → floor_over (a.lo *ℤ pos s) q.hi ≡ (signed_over s a q).lo
unfolding signed_over
over_above s a q e t = let r : OverRoom s a q = over_room s a q e in least_second (floor_falls a.lo s r.some r.ends t)

pub ruleset low_over = (to_z-of_z, to_z_pos, over_some, over_low_fits, over_high_fits, over_below, over_above)

-- what fits, fits on the other side of zero, and the lower end there is the upper one here

reach-opposite : (a : SignedPair) → reach (opposite a) ≡ reach a
unfolding reach opposite
reach-opposite a = ap₂ max (neg_size a.hi) (neg_size a.lo) ∙ max_comm _ _

ordered_opposite : (a : SignedPair) → signed_ordered (opposite a) ≡ signed_ordered a
unfolding signed_ordered leb_ℤ opposite
ordered_opposite a =
    let low : above (neg_ℤ a.hi) + below (neg_ℤ a.lo) ≡ above a.lo + below a.hi = omega (arith, neg_above a.hi, neg_below a.lo) in
    let high : above (neg_ℤ a.lo) + below (neg_ℤ a.hi) ≡ above a.hi + below a.lo = omega (arith, neg_above a.lo, neg_below a.hi) in
    ap₂ leb low high

pub opposite_times_fits : (s : ℕ) (a b : SignedPair) → signed_times_fits s a b ≡ true → signed_times_fits s (opposite a) b ≡ true
unfolding signed_times_fits
opposite_times_fits s a b e = rw (reach-opposite a, ordered_opposite a) e

pub opposite_over_fits : (s : ℕ) (a : SignedPair) (q : Pair) → signed_over_fits s a q ≡ true → signed_over_fits s (opposite a) q ≡ true
unfolding signed_over_fits
opposite_over_fits s a q e = rw (reach-opposite a) e

pub high_times : (s : ℕ) (a b : SignedPair) → signed_times_fits s a b ≡ true → pos 0 -ℤ (signed_times s (opposite a) b).lo ≡ (signed_times s a b).hi
high_times s a b e = zero_less _ ∙ times_opposite a b (times_scale s a b e)

pub high_over : (s : ℕ) (a : SignedPair) (q : Pair) → signed_over_fits s a q ≡ true → pos 0 -ℤ (signed_over s (opposite a) q).lo ≡ (signed_over s a q).hi
high_over s a q e = let r : OverRoom s a q = over_room s a q e in zero_less _ ∙ over_opposite s a q r.some (le_trans r.some r.ends)

pub ruleset highs = (to_z-of_z, zero_less_size, fits_signed_from_abs, opposite_times_fits, opposite_over_fits, high_times, high_over)

-- in a coarser unit

pub unit_fits : (n k : ℕ) → 0 < k → n < 2 ^ 64 → ceil_div (n * 1) k < 2 ^ 64
unit_fits n k k⁺ h = lt_of_le_of_lt (ceil_le {n = n * 1} {x = n} k⁺ (mul-le-mul_left n k⁺)) h

pub ruleset coarsened = (to_z-of_z, unit_fits, scaled_one)
