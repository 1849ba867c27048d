-- Formulas of document 01 at fineness n, at a scale of n × 1,000,000: at fineness m × n they lie inside. Shown from pair's laws alone,
-- by search over its ruleset: no definition of pair is opened.
use Prim.Native.Nat.{ℕ, ◌*◌, ◌<◌}
use mathlib.Core.Path.{◌≡◌}
use mathlib.Core.Bool.{true}
use native.Mathlib.Omega.{arith}
use lib.Dec.{lit<}
use Rattle.pair.specs.Pairs.{ratio, plus, times, over, root}
use Rattle.pair.specs.SignedPairs.{SignedPair, difference, signed, signed_times}
use Rattle.pair.specs.Fits.{exact_ratio}
use Rattle.pair.specs.Enclosure.{Finer, Inside, SignedInside, Positive}
use Rattle.pair.specs.declared.Pair.{Pair}
use Rattle.pair.proofs.Bounds.{exact_ratio_lem}
use Rattle.pair.proofs.Nesting.{inside}

scale : (n m : ℕ) → 0 < n → 0 < m → Finer m (n * 1000000) (m * n * 1000000)
scale n m h k = record { many = k; some = omega arith; scale = omega arith }

whole_exact : (n a : ℕ) → 0 < n → exact_ratio (n * 1000000) a 1 ≡ true
whole_exact n a h = exact_ratio_lem (n * 1000000) a 1 (omega arith) (lit< tt) (omega arith)

hundredths_exact : (n a : ℕ) → 0 < n → exact_ratio (n * 1000000) a 100 ≡ true
hundredths_exact n a h = exact_ratio_lem (n * 1000000) a 100 (omega arith) (lit< tt) (omega arith)

module _ (n : ℕ) where
  infixl 6 ◌⊕◌
  abbrev ◌⊕◌ : Pair → Pair → Pair
  p ⊕ q = plus p q

  infixl 7 ◌⊗◌
  abbrev ◌⊗◌ : Pair → Pair → Pair
  p ⊗ q = times (n * 1000000) p q

  infixl 7 ◌⊘◌
  abbrev ◌⊘◌ : Pair → Pair → Pair
  p ⊘ q = over (n * 1000000) p q

  abbrev whole : ℕ → Pair
  whole a = ratio (n * 1000000) a 1

  -- be2×t×t÷12 + c×c×c÷12 + c×c×c×be2÷(4×a)
  unfoldable inertia : Pair → Pair → Pair → Pair → Pair
  inertia be2 t c a = be2 ⊗ t ⊗ t ⊘ whole 12 ⊕ c ⊗ c ⊗ c ⊘ whole 12 ⊕ c ⊗ c ⊗ c ⊗ be2 ⊘ (whole 4 ⊗ a)

  -- the root of the root of D÷J×T×T×0.91÷1000000
  unfoldable slenderness : Pair → Pair → Pair → Pair
  slenderness d j t =
      root (n * 1000000) (root (n * 1000000) (d ⊘ j ⊗ t ⊗ t ⊗ ratio (n * 1000000) 91 100 ⊘ whole 1000000))

  -- c×χ×(hp − c÷2), which may lie below zero
  unfoldable moment : Pair → Pair → Pair → SignedPair
  moment hp c χ = signed_times (n * 1000000) (signed (c ⊗ χ)) (difference hp (c ⊘ whole 2))

module _ (n m : ℕ) (n⁺ : 0 < n) (m⁺ : 0 < m) where
  inertia-Inside : {be2 t c a be2' t' c' a' : Pair} → Inside m be2' be2 → Inside m t' t → Inside m c' c → Inside m a' a
      → Positive (times (n * 1000000) (whole n 4) a) → Inside m (inertia (m * n) be2' t' c' a') (inertia n be2 t c a)
  unfolding inertia
  inertia-Inside be2 t c a z = search (inside, scale, whole_exact, lit<) depth 20

  slenderness-Inside : {d j t d' j' t' : Pair} → Inside m d' d → Inside m j' j → Inside m t' t → Positive j
      → Inside m (slenderness (m * n) d' j' t') (slenderness n d j t)
  unfolding slenderness
  slenderness-Inside d j t z = search (inside, scale, whole_exact, hundredths_exact, lit<) depth 20

  moment-Inside : {hp c χ hp' c' χ' : Pair} → Inside m hp' hp → Inside m c' c → Inside m χ' χ → SignedInside m (moment (m * n) hp' c' χ') (moment n hp c χ)
  unfolding moment
  moment-Inside hp c χ = search (inside, scale, whole_exact, lit<) depth 20
