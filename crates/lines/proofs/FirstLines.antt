-- The first lines of some bytes: they are a part of them, and the lines behind are those of the bytes behind.
use Prim.Native.Nat.{ℕ, zero, suc, ◌+◌}
use mathlib.Core.List.{List, [], ◌∷◌, ◌++◌, append-nil}
use mathlib.Core.Logic.{inl}
use mathlib.Core.Path.{◌≡◌, refl, sym, ap, ◌∙◌}
use native.Mathlib.Omega.{arith}
use lib.ListN.{length, take, drop, length-append, take-append-drop}
use lib.Seq.{take-append_seam, drop-append_seam, take-add}
use Rattle.lines.specs.Splitting.{first_line, split_lines, joined, LinesOf}
use Rattle.lines.proofs.SplitLaws.{split_joined, split_lines_lem, split_unique, split_next}
use Rattle.lines.proofs.RunLaws.{joined-append}

-- the lines behind the first k are lines
lines_dropped : (k : ℕ) (ls : List (List ℕ)) → LinesOf ls → LinesOf (drop k ls)
unfolding LinesOf
lines_dropped zero ls h = h
lines_dropped (suc k) [] h = tt
lines_dropped (suc zero) (l ∷ []) h = tt
lines_dropped (suc (suc k)) (l ∷ []) h = tt
lines_dropped (suc k) (l ∷ m ∷ ls) h = lines_dropped k (m ∷ ls) h.1

-- The first k lines of some bytes, and the bytes behind them.
module _ (k : ℕ) (s : List ℕ) where
  abbrev pub front : List ℕ
  front = joined (take k (split_lines s))

  front_then : s ≡ front ++ joined (drop k (split_lines s))
  front_then = sym (sym (joined-append (take k (split_lines s)) (drop k (split_lines s))) ∙ ap joined (take-append-drop k (split_lines s)) ∙ split_joined s)

  behind_front : drop (length front) s ≡ joined (drop k (split_lines s))
  behind_front = ap (drop (length front)) front_then ∙ drop-append_seam front (joined (drop k (split_lines s)))

  pub front_taken : front ≡ take (length front) s
  front_taken = sym (ap (take (length front)) front_then ∙ take-append_seam front (joined (drop k (split_lines s))))

  pub lines_behind_front : split_lines (drop (length front) s) ≡ drop k (split_lines s)
  lines_behind_front = ap split_lines behind_front ∙ split_unique (drop k (split_lines s)) (lines_dropped k (split_lines s) (split_lines_lem s))

first_joined : (s : List ℕ) → joined (take 1 (split_lines s)) ≡ first_line s
unfolding joined split_lines first_line
first_joined [] = refl
first_joined (b ∷ s) = ap (λ (ls : List (List ℕ)). joined (take 1 ls)) (split_next (b ∷ s) (omega arith)) ∙ append-nil (first_line (b ∷ s))

-- one line more
pub front_next : (k : ℕ) (s : List ℕ) → length (front (k + 1) s) ≡ length (front k s) + length (first_line (drop (length (front k s)) s))
front_next k s =
    let ls = split_lines s in
    let more : front (k + 1) s ≡ front k s ++ joined (take 1 (drop k ls)) =
    ap joined (take-add k 1 ls) ∙ joined-append (take k ls) (take 1 (drop k ls)) in
    let line : joined (take 1 (drop k ls)) ≡ first_line (drop (length (front k s)) s) =
    ap (λ (x : List (List ℕ)). joined (take 1 x)) (sym (lines_behind_front k s)) ∙ first_joined (drop (length (front k s)) s) in
    omega (arith, ap length more, length-append (front k s) (joined (take 1 (drop k ls))), ap length line)

lines_taken : (k : ℕ) (ls : List (List ℕ)) → LinesOf ls → LinesOf (take k ls)
unfolding LinesOf
lines_taken zero ls h = tt
lines_taken (suc k) [] h = tt
lines_taken (suc zero) (l ∷ []) h = h
lines_taken (suc (suc k)) (l ∷ []) h = h
lines_taken (suc zero) (l ∷ m ∷ ls) h = inl h.0
lines_taken (suc (suc k)) (l ∷ m ∷ ls) h = (h.0, lines_taken (suc k) (m ∷ ls) h.1)

-- the first lines are those of their bytes
pub lines_of_front : (k : ℕ) (s : List ℕ) → split_lines (front k s) ≡ take k (split_lines s)
lines_of_front k s = split_unique (take k (split_lines s)) (lines_taken k (split_lines s) (split_lines_lem s))
