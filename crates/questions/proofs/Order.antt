-- The questions in order: a claim that fails decides, one that holds passes on to the next.
use Rattle.std.specs.Prelude.{Bool, true, false, cond, not, Some, Result, Ok, Err}
use Rattle.std.specs.List.{position_from, zip}
use native.Mathlib.Omega.{arith}
use Prim.Native.Nat.{ℕ, ◌+◌, ◌≤◌, ◌<◌}
use mathlib.Core.Path.{◌≡◌, refl, sym, ap, ◌∙◌}
use mathlib.Core.List.{List, [], ◌∷◌, ◌++◌, map}
use native.Mathlib.Numerals.{add-one}
use lib.ListN.{length, get_or, drop, drop_of_length-le}
use lib.Seq.{drop-cons}
use Rattle.questions.specs.Claims.{Claim, test, pairwise}
use Rattle.questions.specs.Asking.{Asked, asked_from, found_at, ◌then◌, first_of, first_in}

-- some questions, then others
module _ {R : Type 0} where
  pub then_nothing : (f : Result Unit R) → (f then (Ok tt)) ≡ f
  then_nothing (Ok tt) = refl
  then_nothing (Err r) = refl

  then_then : (f g h : Result Unit R) → (f then (g then h)) ≡ ((f then g) then h)
  then_then (Ok tt) g h = refl
  then_then (Err r) g h = refl

  pub in_turn : (ps qs : List (List (Asked R))) → first_in (ps ++ qs) ≡ (first_in ps then first_in qs)
  unfolding first_in
  in_turn [] qs = refl
  in_turn (cs ∷ ps) qs = rw (in_turn ps qs) (then_then (first_of cs) (first_in ps) (first_in qs))

-- the same claims of a list that is made of another
pub pairwise-map : {A B C : Type 0} (f : C → B → Claim) (g : A → C) (xs : List A) (ys : List B) → pairwise f (map g xs) ys ≡ pairwise (λ x y. f (g x) y) xs ys
unfolding pairwise
pairwise-map f g [] ys = refl
pairwise-map f g (x ∷ xs) [] = refl
pairwise-map f g (x ∷ xs) (y ∷ ys) = ap (λ (l : List Claim). f (g x) y ∷ l) (pairwise-map f g xs ys)

-- claims asked line by line: the first of them fails, or passes on to the others
module _ {R : Type 0} (refuse : ℕ → R) (line : ℕ) {a : Claim} {cs ds : List Claim} (e : cs ≡ a ∷ ds) where
  pub asked_fails : test a ≡ false → first_of (asked_from refuse line cs) ≡ Err (refuse line)
  unfolding asked_from first_of
  asked_fails n = ap (λ (l : List Claim). first_of (asked_from refuse line l)) e ∙ rw n

  pub asked_passes : test a ≡ true → first_of (asked_from refuse line cs) ≡ first_of (asked_from refuse (line + 1) ds)
  unfolding asked_from first_of
  asked_passes h = ap (λ (l : List Claim). first_of (asked_from refuse line l)) e ∙ rw h

pub none_asked : {R : Type 0} (refuse : ℕ → R) (line : ℕ) → first_of (asked_from refuse line []) ≡ Ok tt
unfolding asked_from first_of
none_asked refuse line = refl

-- claims that two lists make place by place, asked line by line: what is found from place i on
module _ {A B R : Type 0} (f : A → B → Claim) (refuse : ℕ → R) (line : ℕ) (xs : List A) (ys : List B) (i : ℕ) where
  module _ (d : A) (e : B) (a : i < length xs) (b : i < length ys) where
    here : pairwise f (drop i xs) (drop i ys) ≡ f (get_or xs i d) (get_or ys i e) ∷ pairwise f (drop (i + 1) xs) (drop (i + 1) ys)
    unfolding pairwise
    here = rw (add-one i, drop-cons xs i d a, drop-cons ys i e b)

    pub line_fails : test (f (get_or xs i d) (get_or ys i e)) ≡ false → first_of (asked_from refuse line (pairwise f (drop i xs) (drop i ys))) ≡ Err (refuse line)
    line_fails n = asked_fails refuse line here n

    pub line_passes : test (f (get_or xs i d) (get_or ys i e)) ≡ true
        → first_of (asked_from refuse line (pairwise f (drop i xs) (drop i ys))) ≡ first_of (asked_from refuse (line + 1) (pairwise f (drop (i + 1) xs) (drop (i + 1) ys)))
    line_passes h = asked_passes refuse line here h

  pub lines_pass : length xs ≤ i → first_of (asked_from refuse line (pairwise f (drop i xs) (drop i ys))) ≡ Ok tt
  unfolding asked_from first_of pairwise
  lines_pass h = ap (λ (l : List A). first_of (asked_from refuse line (pairwise f l (drop i ys)))) (drop_of_length-le xs {i = i} h)

-- and what is found of them all: the refusal of the first place whose claim's test fails
module _ {A B R : Type 0} (f : A → B → Claim) (refuse : ℕ → R) (line : ℕ) where
  found_from : (i : ℕ) (xs : List A) (ys : List B)
      → found_at refuse line (position_from (λ p. not (test (f p.0 p.1))) i (zip xs ys)) ≡ first_of (asked_from refuse (i + line) (pairwise f xs ys))
  unfolding asked_from first_of pairwise
  found_from i [] ys = sym (lines_pass f refuse (i + line) [] ys 0 (omega arith))
  found_from i (x ∷ xs) [] = refl
  found_from i (x ∷ xs) (y ∷ ys) =
      let next : i + 1 + line ≡ i + line + 1 = omega arith in
      by_test (test (f x y)) refl (found_from (i + 1) xs ys ∙ ap (λ (n : ℕ). first_of (asked_from refuse n (pairwise f xs ys))) next)
    where
      by_test : (t : Bool) → test (f x y) ≡ t
          → found_at refuse line (position_from (λ p. not (test (f p.0 p.1))) (i + 1) (zip xs ys)) ≡ first_of (asked_from refuse (i + line + 1) (pairwise f xs ys))
          → found_at refuse line (cond (not t) (Some i) (position_from (λ p. not (test (f p.0 p.1))) (i + 1) (zip xs ys)))
          ≡ first_of (asked_from refuse (i + line) (pairwise f (x ∷ xs) (y ∷ ys)))
      by_test true h e = e ∙ sym (line_passes f refuse (i + line) (x ∷ xs) (y ∷ ys) 0 x y (omega arith) (omega arith) h)
      by_test false n e = sym (line_fails f refuse (i + line) (x ∷ xs) (y ∷ ys) 0 x y (omega arith) (omega arith) n)

  pub found_in_turn : (xs : List A) (ys : List B)
      → found_at refuse line (position_from (λ p. not (test (f p.0 p.1))) 0 (zip xs ys)) ≡ first_of (asked_from refuse line (pairwise f xs ys))
  found_in_turn xs ys = let here : 0 + line ≡ line = omega arith in found_from 0 xs ys ∙ ap (λ (n : ℕ). first_of (asked_from refuse n (pairwise f xs ys))) here
