-- Claims of whole numbers and integers: what they say, and the test that runs.
use Rattle.std.specs.Prelude.{ℕ, ◌≤◌, List, [], ◌∷◌, ◌≡◌, ◌⊎◌, Bool, ◌&&◌, ◌||◌, leb, eqb, ℤ}
use Rattle.pair.specs.Integers.{leb_ℤ}

infix 45 ◌≤?◌
infix 45 ◌≡?◌
infix 45 ◌is◌
infixr 40 ◌and◌
infixr 38 ◌or◌
pub data Claim : Type 0 where
  ◌≤?◌ : ℕ → ℕ → Claim
  ◌≡?◌ : ℕ → ℕ → Claim
  ◌is◌ : ℤ → ℤ → Claim
  ◌and◌ : Claim → Claim → Claim
  ◌or◌ : Claim → Claim → Claim

-- what a claim says
abbrev pub Holds : Claim → Type 0
Holds (m ≤? n) = m ≤ n
Holds (m ≡? n) = m ≡ n
Holds (x is y) = x ≡ y
Holds (a and b) = Holds a × Holds b
Holds (a or b) = Holds a ⊎ Holds b

-- the same as a test
abbrev pub test : Claim → Bool
test (m ≤? n) = leb m n
test (m ≡? n) = eqb m n
test (x is y) = leb_ℤ x y && leb_ℤ y x
test (a and b) = test a && test b
test (a or b) = test a || test b

-- the claims that two lists make, place by place
unfoldable pub pairwise : {A B : Type 0} → (A → B → Claim) → List A → List B → List Claim
pairwise f [] ys = []
pairwise f (a ∷ xs) [] = []
pairwise f (a ∷ xs) (b ∷ ys) = f a b ∷ pairwise f xs ys
