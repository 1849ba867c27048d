-- Lines of bytes that stand behind others, and how many.
use Prim.Native.Nat.{ℕ, suc, ◌+◌, ◌-◌, ◌≤◌, ◌<◌}
use mathlib.Core.Bool.{Bool, false, cond, not}
use mathlib.Core.List.{List, [], ◌∷◌, ◌++◌, append-nil}
use mathlib.Core.Path.{◌≡◌, refl, ap, ◌∙◌}
use native.Mathlib.Omega.{arith}
use borrow.Author.Tests.{eq-eqb, ne_eqb}
use lib.Dec.{eqb}
use lib.ListN.{length, get_or, length-append}
use Rattle.std.specs.Prelude.{◌==◌, Option, None, Some, MatchOption, IfSome}
use Rattle.std.specs.Borrow.{Bor}
use Rattle.std.specs.List.{count_by}
use Rattle.std.proofs.lemmas.List.Sums.{sum_by-cons, count_by-le-length}
use Rattle.questions.proofs.Laws.{by_test}
use Rattle.lines.specs.Ascii.{newline}
use Rattle.lines.specs.Splitting.{lengthened, split_lines, newlines, unended}
use Rattle.lines.proofs.SplitLaws.{by_byte, split_here, split_onward, count_here, count_onward, split_count, split_some}

pub newlines-append : (s t : List ℕ) → newlines (s ++ t) ≡ newlines s + newlines t
unfolding newlines
newlines-append [] t = omega arith
newlines-append (b ∷ s) t =
    by_byte b
    (λ e. omega (arith, count_here b (s ++ t) e, count_here b s e, newlines-append s t))
    (λ n. omega (arith, count_onward b (s ++ t) n, count_onward b s n, newlines-append s t))

-- newlines are counted as the library counts
pub newlines_counted : (s : List ℕ) → count_by (λ b. b == newline) s ≡ newlines s
unfolding newlines
newlines_counted [] = refl
newlines_counted (b ∷ s) =
    by_byte b
    (λ e. rw (sum_by-cons (λ b. cond (b == newline) 1 0) b s, eq-eqb b newline e) (omega (arith, newlines_counted s)))
    (λ n. rw (sum_by-cons (λ b. cond (b == newline) 1 0) b s, ne_eqb b newline n) (omega (arith, newlines_counted s)))

-- no more newlines than bytes
pub newlines_most : (s : List ℕ) → newlines s ≤ length s
newlines_most s = rw (← newlines_counted s) (count_by-le-length (λ b. b == newline) s)

pub unended_none : unended [] ≡ 0
unfolding unended
unended_none = refl

unended_behind : (b : ℕ) (s : List ℕ) → 0 < length s → unended (b ∷ s) ≡ unended s
unfolding unended
unended_behind b [] h = absurd (omega arith)
unended_behind b (c ∷ s) h = refl

pub unended-append : (s t : List ℕ) → 0 < length t → unended (s ++ t) ≡ unended t
unended-append [] t h = refl
unended-append (b ∷ s) t h = unended_behind b (s ++ t) (omega (arith, length-append s t)) ∙ unended-append s t h

-- whole lines behind whole lines
pub unended_join : (s t : List ℕ) → unended s ≡ 0 → unended t ≡ 0 → unended (s ++ t) ≡ 0
unended_join s [] g h = ap unended (append-nil s) ∙ g
unended_join s (b ∷ t) g h = unended-append s (b ∷ t) (omega arith) ∙ h

-- the last byte tells
pub unended_last : (s : List ℕ) (d : ℕ) → 0 < length s → unended s ≡ cond (eqb (get_or s (length s - 1) d) newline) 0 1
unfolding unended
unended_last [] d h = absurd (omega arith)
unended_last (b ∷ []) d h = refl
unended_last (b ∷ c ∷ s) d h =
    let next : suc (suc (length s) - 1) ≡ suc (suc (length s)) - 1 = omega arith in
    unended_last (c ∷ s) d (omega arith) ∙ ap (λ (k : ℕ). cond (eqb (get_or (b ∷ c ∷ s) k d) newline) 0 1) next

-- as the library gives it
pub unended_told : (s : List ℕ) (last : Option (Bor ℕ)) (r : Bool) → MatchOption last (length s ≤ 0) (λ b. 0 < length s)
    → IfSome last (λ b. b.now ≡ get_or s (length s - 1) b.now) → MatchOption last (r ≡ false) (λ b. r ≡ not (b.now == newline)) → r ≡ (unended s == 1)
unfolding unended
unended_told [] None r some is told = told
unended_told (x ∷ s) None r some is told = absurd (omega arith)
unended_told s (Some b) r some is told =
    told ∙ rw (unended_last s b.now some, ← is) (by_byte b.now (λ e. rw (eq-eqb b.now newline e) refl) (λ n. rw (ne_eqb b.now newline n) refl))

pub unended_most : (s : List ℕ) → unended s ≤ 1
unfolding unended
unended_most [] = omega arith
unended_most (b ∷ []) = by_test (eqb b newline) (λ t. cond t 0 1 ≤ 1) (λ e. omega arith) (λ e. omega arith)
unended_most (b ∷ c ∷ s) = unended_most (c ∷ s)

lengthened-append : (b : ℕ) (ls ms : List (List ℕ)) → 0 < length ls → lengthened b (ls ++ ms) ≡ lengthened b ls ++ ms
unfolding lengthened
lengthened-append b [] ms h = absurd (omega arith)
lengthened-append b (l ∷ ls) ms h = refl

lengthened_most : (b : ℕ) (ls : List (List ℕ)) → length (lengthened b ls) ≤ suc (length ls)
unfolding lengthened
lengthened_most b [] = omega arith
lengthened_most b (l ∷ ls) = omega arith

-- whole lines before other bytes
pub split_append : (s t : List ℕ) → unended s ≡ 0 → split_lines (s ++ t) ≡ split_lines s ++ split_lines t
unfolding split_lines unended
split_append [] t h = refl
split_append (b ∷ []) t h =
    by_byte b
    (λ e. rw (eq-eqb b newline e))
    (λ n. absurd (omega (arith, rw (ne_eqb b newline n) at h)))
split_append (b ∷ c ∷ s) t h =
    by_byte b
    (λ e. rw (eq-eqb b newline e) (ap (λ (ls : List (List ℕ)). (b ∷ []) ∷ ls) (split_append (c ∷ s) t h)))
    (λ n.
    rw (ne_eqb b newline n)
    (ap (lengthened b) (split_append (c ∷ s) t h) ∙ lengthened-append b (split_lines (c ∷ s)) (split_lines t) (split_some (c ∷ s) (omega arith))))

-- bytes behind others take no line away
pub split_front : (s t : List ℕ) → length (split_lines s) ≤ length (split_lines (s ++ t))
split_front s [] = rw append-nil (omega arith)
split_front s (b ∷ t) =
    let some : 0 < length (b ∷ t) = omega arith in
    omega (
      arith,
      split_count s,
      split_count (s ++ b ∷ t),
      split_count (b ∷ t),
      newlines-append s (b ∷ t),
      unended-append s (b ∷ t) some,
      unended_most s,
      split_some (b ∷ t) some,
    )

-- no more lines than bytes
pub split_most : (s : List ℕ) → length (split_lines s) ≤ length s
unfolding split_lines
split_most [] = omega arith
split_most (b ∷ s) =
    by_byte b
    (λ e. omega (arith, ap length (split_here b s e), split_most s))
    (λ n. omega (arith, ap length (split_onward b s n), lengthened_most b (split_lines s), split_most s))
