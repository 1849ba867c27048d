-- A claim's test is true exactly where the claim holds.
use Prim.Native.Nat.{ℕ}
use mathlib.Core.Path.{◌≡◌, refl, sym, subst}
use mathlib.Core.Logic.{◌⊎◌, inl, inr}
use mathlib.Core.Bool.{Bool, true, false, ◌||◌}
use native.Mathlib.Omega.{arith}
use borrow.Author.Tests.{leb-true, le-leb, eqb-true, eq-eqb}
use lib.IntN.{ℤ}
use Rattle.std.proofs.Math.Bool.{or-true}
use Rattle.std.proofs.lemmas.Bool.{and_parts, false_from_ne_true}
use Rattle.pair.specs.Integers.{leb_ℤ}
use Rattle.pair.proofs.Numbers.{leb_ℤ-true, le-leb_ℤ, le_antisym_ℤ}
use Rattle.questions.specs.Claims.{Claim, ◌≤?◌, ◌≡?◌, ◌is◌, ◌and◌, ◌or◌, Holds, test}

either_true : (s t : Bool) → (s || t) ≡ true → (s ≡ true) ⊎ (t ≡ true)
either_true true t e = inl refl
either_true false t e = inr e

at_most_same : (x y : ℤ) → x ≡ y → leb_ℤ x y ≡ true
at_most_same x y e = subst (λ (z : ℤ). leb_ℤ x z ≡ true) e (le-leb_ℤ x x (omega arith))

pub test-Holds : (a : Claim) → test a ≡ true → Holds a
test-Holds (m ≤? n) e = leb-true m n e
test-Holds (m ≡? n) e = eqb-true m n e
test-Holds (x is y) e = let p = and_parts (leb_ℤ x y) (leb_ℤ y x) e in le_antisym_ℤ (leb_ℤ-true x y p.0) (leb_ℤ-true y x p.1)
test-Holds (a and b) e = let p = and_parts (test a) (test b) e in (test-Holds a p.0, test-Holds b p.1)
test-Holds (a or b) e = elim (either_true (test a) (test b) e) [ inl p ↦ inl (test-Holds a p) | inr p ↦ inr (test-Holds b p) ]

pub Holds-test : (a : Claim) → Holds a → test a ≡ true
Holds-test (m ≤? n) h = le-leb m n h
Holds-test (m ≡? n) h = eq-eqb m n h
Holds-test (x is y) h = rw (at_most_same x y h, at_most_same y x (sym h))
Holds-test (a and b) h = rw (Holds-test a h.0) (Holds-test b h.1)
Holds-test (a or b) (inl h) = rw (Holds-test a h)
Holds-test (a or b) (inr h) = rw (Holds-test b h) (or-true (test a))

pub fails_test : (a : Claim) → (Holds a → ⊥) → test a ≡ false
fails_test a n = false_from_ne_true (test a) (λ e. n (test-Holds a e))

by_test : (a : Claim) (t : Bool) → test a ≡ t → (Holds a × (test a ≡ true)) ⊎ ((Holds a → ⊥) × (test a ≡ false))
by_test a true e = inl (test-Holds a e, e)
by_test a false e = inr (λ h. no_true (Holds-test a h) e, e)
  where
    no_true : test a ≡ true → test a ≡ false → ⊥
    no_true p n = let z : ◌≡◌ {A = ℕ} 0 1 = cc in omega arith

pub decided : (a : Claim) → (Holds a × (test a ≡ true)) ⊎ ((Holds a → ⊥) × (test a ≡ false))
decided a = by_test a (test a) refl
