-- How far from zero the results of signed pairs reach, and that operations on bounded operands fit.
use mathlib.Core.Path.{◌≡◌, refl}
use mathlib.Core.Bool.{true, ◌&&◌}
use Prim.Native.Nat.{ℕ, zero, suc, max, ◌+◌, ◌*◌, ◌/◌, ◌^◌, ◌≤◌, ◌<◌}
use native.Mathlib.Nat.{le_trans, lt_of_le_of_lt, max-le, le-max_left, le-max_right, mul-le-mul, mul-le-mul_right, mul-le-mul_left, le-mul_of_pos_right}
use native.Mathlib.Omega.{arith}
use borrow.Author.Tests.{leb-true, ltb-true, le-leb, lt-ltb}
use lib.Dec.{ltb}
use lib.IntN.{ℤ, pos, negsuc, neg_ℤ, nat_abs, ◌+ℤ◌, ◌-ℤ◌, ◌*ℤ◌}
use Rattle.pair.specs.Rounding.{ceil_div}
use Rattle.pair.specs.Integers.{◌≼ℤ◌, floor_over, ceil_over}
use Rattle.pair.specs.SignedPairs.{SignedPair, signed, difference, signed_plus, signed_minus, signed_times, signed_over, coarser, reach}
use Rattle.pair.specs.Fits.{word, ordered, signed_ordered, signed_plus_fits, signed_times_fits, signed_over_fits}
use Rattle.pair.specs.Enclosure.{Ordered, SignedOrdered, AtLeast, AtMost, Reaches}
use Rattle.pair.specs.declared.Pair.{Pair}
use Rattle.pair.proofs.Quotients.{ceil_le, floor_le_ceil}
use Rattle.std.proofs.lemmas.Bool.{and_from, and_parts}
use Rattle.pair.proofs.IntegerParts.{sub_size, neg_size, plus_size}
use Rattle.pair.proofs.IntegerLaws.{of_least, of_greatest, leb_ℤ-true, le-leb_ℤ}
use Rattle.pair.proofs.SignedProducts.{of_least_product, of_greatest_product}

-- an integer no further than b from zero
pub record Within (b : ℕ) (x : ℤ) : Type 0 where
  pub size : nat_abs x ≤ b

pub low_within : {b : ℕ} {a : SignedPair} → Reaches b a → Within b a.lo
unfolding reach
low_within r = record { size = le_trans (le-max_left _ _) r.size }

pub high_within : {b : ℕ} {a : SignedPair} → Reaches b a → Within b a.hi
unfolding reach
high_within r = record { size = le_trans (le-max_right _ _) r.size }

pub reaches : {b : ℕ} (a : SignedPair) → Within b a.lo → Within b a.hi → Reaches b a
unfolding reach
reaches a h k = record { size = max-le h.size k.size }

-- sizes of integers

pub times_size : (x y : ℤ) → nat_abs (x *ℤ y) ≡ nat_abs x * nat_abs y
times_size (pos a) (pos b) = refl
times_size (pos a) (negsuc b) = neg_size (pos (a * suc b))
times_size (negsuc a) (pos b) = neg_size (pos (suc a * b))
times_size (negsuc a) (negsuc b) = refl

pub less_size : (a b : ℕ) → nat_abs (pos a -ℤ pos b) ≤ max a b
less_size a zero = omega arith
less_size a (suc b) = sub_size a (suc b)

plus-Within : {a b : ℕ} {x y : ℤ} → Within a x → Within b y → Within (a + b) (x +ℤ y)
plus-Within {x} {y} h k = omega (arith, plus_size x y)

neg_within : {b : ℕ} {x : ℤ} → Within b x → Within b (neg_ℤ x)
neg_within {x} h = omega (arith, neg_size x)

pub times-Within : {a b : ℕ} {x y : ℤ} → Within a x → Within b y → Within (a * b) (x *ℤ y)
times-Within {x} {y} h k = record { size = rw (times_size x y) (mul-le-mul h.size k.size) }

down_le : {n d x : ℕ} → 0 < d → n ≤ x * d → n / d ≤ x
down_le {n} d⁺ h = le_trans (floor_le_ceil n d⁺) (ceil_le d⁺ h)

pub floor_within : {n c d : ℕ} {z : ℤ} → 0 < d → n ≤ c * d → Within n z → Within c (floor_over z d)
unfolding floor_over
floor_within {z = pos a} d⁺ h w = record { size = down_le d⁺ (le_trans w.size h) }
floor_within {d} {z = negsuc a} d⁺ h w = record { size = rw (neg_size (pos (ceil_div (suc a) d))) (ceil_le d⁺ (le_trans w.size h)) }

pub ceil_within : {n c d : ℕ} {z : ℤ} → 0 < d → n ≤ c * d → Within n z → Within c (ceil_over z d)
unfolding ceil_over
ceil_within {z = pos a} d⁺ h w = record { size = ceil_le d⁺ (le_trans w.size h) }
ceil_within {d} {z = negsuc a} d⁺ h w = record { size = rw (neg_size (pos (suc a / d))) (down_le d⁺ (le_trans w.size h)) }

-- the bound of each result

pub signed-Reaches : {a : ℕ} {p : Pair} → Ordered p → AtMost a p → Reaches a (signed p)
unfolding signed reach
signed-Reaches o h = omega arith

pub difference-Reaches : {a b : ℕ} {p q : Pair} → Ordered p → Ordered q → AtMost a p → AtMost b q → Reaches (max a b) (difference p q)
unfolding difference
difference-Reaches {a} {b} {p} {q} o r h k = reaches _ (omega (arith, less_size p.lo q.hi)) (omega (arith, less_size p.hi q.lo))

pub signed_plus-Reaches : {a b : ℕ} {x y : SignedPair} → Reaches a x → Reaches b y → Reaches (a + b) (signed_plus x y)
unfolding signed_plus
signed_plus-Reaches r t = reaches _ (plus-Within (low_within r) (low_within t)) (plus-Within (high_within r) (high_within t))

pub signed_minus-Reaches : {a b : ℕ} {x y : SignedPair} → Reaches a x → Reaches b y → Reaches (a + b) (signed_minus x y)
unfolding signed_minus
signed_minus-Reaches r t = reaches _ (plus-Within (low_within r) (neg_within (high_within t))) (plus-Within (high_within r) (neg_within (low_within t)))

pub signed_times-Reaches : {a b c s : ℕ} {x y : SignedPair} → 0 < s → Reaches a x → Reaches b y → a * b ≤ c * s → Reaches c (signed_times s x y)
unfolding signed_times
signed_times-Reaches {a} {b} {c} {s} {x} {y} s⁺ r t h =
    let ll : Within (a * b) (x.lo *ℤ y.lo) = times-Within (low_within r) (low_within t) in
    let lh : Within (a * b) (x.lo *ℤ y.hi) = times-Within (low_within r) (high_within t) in
    let hl : Within (a * b) (x.hi *ℤ y.lo) = times-Within (high_within r) (low_within t) in
    let hh : Within (a * b) (x.hi *ℤ y.hi) = times-Within (high_within r) (high_within t) in
    reaches _ (floor_within s⁺ h (of_least_product (Within (a * b)) x y ll lh hl hh)) (ceil_within s⁺ h (of_greatest_product (Within (a * b)) x y ll lh hl hh))

pub signed_over-Reaches : (s : ℕ) {a b c : ℕ} {x : SignedPair} {q : Pair} → Ordered q → AtLeast b q → 0 < b → Reaches a x → a * s ≤ c * b → Reaches c (signed_over s x q)
unfolding signed_over
signed_over-Reaches s {a} {b} {c} {x} {q} o l b⁺ r h =
    let lo⁺ : 0 < q.lo = le_trans b⁺ l.low in
    let hi⁺ : 0 < q.hi = le_trans lo⁺ o.ends in
    let lo : a * s ≤ c * q.lo = le_trans h (mul-le-mul_left c l.low) in
    let hi : a * s ≤ c * q.hi = le_trans lo (mul-le-mul_left c o.ends) in
    let u : Within (a * s) (x.lo *ℤ pos s) = times-Within (low_within r) (omega arith) in
    let v : Within (a * s) (x.hi *ℤ pos s) = times-Within (high_within r) (omega arith) in
    reaches _
    (of_least (Within c) _ _ (floor_within lo⁺ lo u) (floor_within hi⁺ hi u))
    (of_greatest (Within c) _ _ (ceil_within lo⁺ lo v) (ceil_within hi⁺ hi v))

pub coarser-Reaches : {a k : ℕ} {x : SignedPair} → 0 < k → Reaches a x → Reaches a (coarser k x)
unfolding coarser
coarser-Reaches {a} {k} k⁺ r =
    let h : a ≤ a * k = le-mul_of_pos_right a k⁺ in
    reaches _ (floor_within k⁺ h (low_within r)) (ceil_within k⁺ h (high_within r))

-- what each operation asks, from bounds

word_of : {n c : ℕ} → n ≤ c → c < 2 ^ 64 → word n ≡ true
unfolding word
word_of h k = lt-ltb _ _ (lt_of_le_of_lt h k)

pub signed_plus_fits_lem : {a b : ℕ} {x y : SignedPair} → Reaches a x → Reaches b y → a + b < 2 ^ 64 → signed_plus_fits x y ≡ true
unfolding signed_plus_fits
signed_plus_fits_lem r t h = word_of (omega arith) h

pub signed_times_fits_lem : {a b c s : ℕ} {x y : SignedPair} → 0 < s → SignedOrdered x → SignedOrdered y → Reaches a x → Reaches b y → a * b ≤ c * s → c < 2 ^ 64 → signed_times_fits s x y ≡ true
unfolding signed_times_fits signed_ordered
signed_times_fits_lem s⁺ o p r t h k =
    and_from _ _ (and_from _ _ (and_from _ _ (lt-ltb _ _ s⁺) (le-leb_ℤ _ _ o.ends)) (le-leb_ℤ _ _ p.ends))
    (word_of (ceil_le s⁺ (le_trans (mul-le-mul r.size t.size) h)) k)

pub signed_over_fits_lem : (s : ℕ) {a b c : ℕ} {x : SignedPair} {q : Pair} → Ordered q → AtLeast b q → 0 < b → Reaches a x → a * s ≤ c * b → c < 2 ^ 64 → signed_over_fits s x q ≡ true
unfolding signed_over_fits ordered
signed_over_fits_lem s {c} o l b⁺ r h k =
    let lo⁺ = le_trans b⁺ l.low in
    and_from _ _ (and_from _ _ (lt-ltb _ _ lo⁺) (le-leb _ _ o.ends))
    (word_of (ceil_le lo⁺ (le_trans (mul-le-mul_right s r.size) (le_trans h (mul-le-mul_left c l.low)))) k)

-- and what it tells

pub record PlusRoom (x y : SignedPair) : Type 0 where
  pub room : reach x + reach y < 2 ^ 64

pub record TimesRoom (s : ℕ) (x y : SignedPair) : Type 0 where
  pub scale : 0 < s
  pub first : x.lo ≼ℤ x.hi
  pub second : y.lo ≼ℤ y.hi
  pub room : ceil_div (reach x * reach y) s < 2 ^ 64

pub record OverRoom (s : ℕ) (x : SignedPair) (q : Pair) : Type 0 where
  pub some : 0 < q.lo
  pub ends : q.lo ≤ q.hi
  pub room : ceil_div (reach x * s) q.lo < 2 ^ 64

pub plus_room : (x y : SignedPair) → signed_plus_fits x y ≡ true → PlusRoom x y
unfolding signed_plus_fits word
plus_room x y h = record { room = ltb-true _ _ h }

pub times_room : (s : ℕ) (x y : SignedPair) → signed_times_fits s x y ≡ true → TimesRoom s x y
unfolding signed_times_fits signed_ordered word
times_room s x y h =
    let all = and_parts (ltb 0 s && signed_ordered x && signed_ordered y) _ h in
    let ends = and_parts (ltb 0 s && signed_ordered x) _ all.0 in
    let first = and_parts (ltb 0 s) _ ends.0 in
    record { scale = ltb-true _ _ first.0; first = leb_ℤ-true _ _ first.1; second = leb_ℤ-true _ _ ends.1; room = ltb-true _ _ all.1 }

pub over_room : (s : ℕ) (x : SignedPair) (q : Pair) → signed_over_fits s x q ≡ true → OverRoom s x q
unfolding signed_over_fits ordered word
over_room s x q h =
    let all = and_parts (ltb 0 q.lo && ordered q) _ h in
    let pair = and_parts (ltb 0 q.lo) _ all.0 in
    record { some = ltb-true _ _ pair.0; ends = leb-true _ _ pair.1; room = ltb-true _ _ all.1 }
