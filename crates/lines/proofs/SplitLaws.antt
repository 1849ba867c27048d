-- Bytes split into lines: the place behind a line; the lines joined are the bytes; each but the last ends with its only newline; how many.
use Prim.Native.Nat.{ℕ, suc, ◌+◌, ◌≤◌, ◌<◌}
use mathlib.Core.Bool.{cond}
use mathlib.Core.List.{List, [], ◌∷◌, ◌++◌, append_assoc, append-nil}
use mathlib.Core.Logic.{inl, inr, ⊎_elim}
use mathlib.Core.Path.{◌≡◌, refl, sym, ap, ◌∙◌, subst}
use native.Mathlib.Omega.{arith}
use borrow.Author.Tests.{eq-eqb, ne_eqb, eqb-true, eqb-false}
use lib.Dec.{eqb}
use lib.ListN.{length, get_or, drop}
use lib.Seq.{drop-cons}
use Rattle.std.specs.Prelude.{Some, None, ◌==◌}
use Rattle.std.specs.List.{position_from}
use Rattle.questions.proofs.Laws.{by_test}
use Rattle.lines.specs.Ascii.{newline}
use Rattle.lines.specs.Splitting.{first_line, line_end, lengthened, split_lines, joined, newlines, unended, Whole, CutShort, LinesOf}

pub by_byte : {P : Type 0} (b : ℕ) → (b ≡ newline → P) → ((b ≡ newline → ⊥) → P) → P
by_byte {P} b p q = by_test (eqb b newline) (λ t. P) (λ e. p (eqb-true b newline e)) (λ e. q (eqb-false b newline e))

-- The place behind the line that goes on at `at`.
module _ (s : List ℕ) (at : ℕ) (inside : at < length s) where
  first_line_lem : first_line (drop at s) ≡ cond (eqb (get_or s at 0) newline) (get_or s at 0 ∷ []) (get_or s at 0 ∷ first_line (drop (suc at) s))
  unfolding first_line
  first_line_lem = ap first_line (drop-cons s at 0 inside)

  pub end_here : get_or s at 0 ≡ newline → line_end s at ≡ at + 1
  end_here e =
      let one : first_line (drop at s) ≡ get_or s at 0 ∷ [] = first_line_lem ∙ rw (eq-eqb (get_or s at 0) newline e) in
      omega (arith, ap length one)

  pub end_more : (get_or s at 0 ≡ newline → ⊥) → line_end s at ≡ line_end s (at + 1)
  end_more n =
      let next : suc at ≡ at + 1 = omega arith in
      let more : first_line (drop at s) ≡ get_or s at 0 ∷ first_line (drop (suc at) s) = first_line_lem ∙ rw (ne_eqb (get_or s at 0) newline n) in
      omega (arith, ap length more, ap (λ (k : ℕ). length (first_line (drop k s))) next)

  -- a line has at least one byte
  pub end_behind : at < line_end s at
  end_behind =
      by_byte (get_or s at 0)
      (λ e. omega (arith, end_here e))
      (λ n. omega (arith, end_more n))

-- the first line by the place of its newline, where places count from i on
pub line_found : (i k : ℕ) (s : List ℕ) → position_from (λ b. b == newline) i s ≡ Some k → i + length (first_line s) ≡ k + 1
unfolding first_line
line_found i k [] e = absurd (let z : ◌≡◌ {A = ℕ} 0 1 = cc in omega arith)
line_found i k (b ∷ s) e =
    by_byte b
    (λ h. let here : Some i ≡ Some k = sym (rw (eq-eqb b newline h)) ∙ e in let one : i ≡ k = cc in rw (eq-eqb b newline h) (omega arith))
    (λ n. let onward : position_from (λ b. b == newline) (i + 1) s ≡ Some k = sym (rw (ne_eqb b newline n)) ∙ e in
    rw (ne_eqb b newline n) (omega (arith, line_found (i + 1) k s onward)))

pub first_line_most : (s : List ℕ) → length (first_line s) ≤ length s
unfolding first_line
first_line_most [] = omega arith
first_line_most (b ∷ s) =
    by_byte b
    (λ e. rw (eq-eqb b newline e) (omega arith))
    (λ n. rw (ne_eqb b newline n) (omega (arith, first_line_most s)))

pub line_unended : (i : ℕ) (s : List ℕ) → position_from (λ b. b == newline) i s ≡ None → length (first_line s) ≡ length s
unfolding first_line
line_unended i [] e = refl
line_unended i (b ∷ s) e =
    by_byte b
    (λ h. let here : Some i ≡ None = sym (rw (eq-eqb b newline h)) ∙ e in absurd (let z : ◌≡◌ {A = ℕ} 0 1 = cc in omega arith))
    (λ n. let onward : position_from (λ b. b == newline) (i + 1) s ≡ None = sym (rw (ne_eqb b newline n)) ∙ e in
    rw (ne_eqb b newline n) (omega (arith, line_unended (i + 1) s onward)))

-- how long the first line is, with a newline or without
pub ruleset first_lengths = (line_found, line_unended, first_line_most)

-- By the first byte: it is a newline, or not.
module _ (b : ℕ) (s : List ℕ) where
  pub split_here : b ≡ newline → split_lines (b ∷ s) ≡ (b ∷ []) ∷ split_lines s
  unfolding split_lines
  split_here e = rw (eq-eqb b newline e)

  pub split_onward : (b ≡ newline → ⊥) → split_lines (b ∷ s) ≡ lengthened b (split_lines s)
  unfolding split_lines
  split_onward n = rw (ne_eqb b newline n)

  first_here : b ≡ newline → first_line (b ∷ s) ≡ b ∷ []
  unfolding first_line
  first_here e = rw (eq-eqb b newline e)

  first_onward : (b ≡ newline → ⊥) → first_line (b ∷ s) ≡ b ∷ first_line s
  unfolding first_line
  first_onward n = rw (ne_eqb b newline n)

  pub count_here : b ≡ newline → newlines (b ∷ s) ≡ suc (newlines s)
  unfolding newlines
  count_here e = rw (eq-eqb b newline e)

  pub count_onward : (b ≡ newline → ⊥) → newlines (b ∷ s) ≡ newlines s
  unfolding newlines
  count_onward n = rw (ne_eqb b newline n)

pub split_none : split_lines [] ≡ []
unfolding split_lines
split_none = refl

joined-lengthened : (b : ℕ) (ls : List (List ℕ)) → joined (lengthened b ls) ≡ b ∷ joined ls
unfolding joined lengthened
joined-lengthened b [] = refl
joined-lengthened b (l ∷ ls) = refl

-- the lines joined are the bytes
pub split_joined : (s : List ℕ) → joined (split_lines s) ≡ s
unfolding joined split_lines
split_joined [] = refl
split_joined (b ∷ s) =
    by_byte b
    (λ e. ap joined (split_here b s e) ∙ ap (λ (l : List ℕ). b ∷ l) (split_joined s))
    (λ n. ap joined (split_onward b s n) ∙ joined-lengthened b (split_lines s) ∙ ap (λ (l : List ℕ). b ∷ l) (split_joined s))

-- a whole line before others
Whole-before : (l : List ℕ) (ls : List (List ℕ)) → Whole l → LinesOf ls → LinesOf (l ∷ ls)
unfolding LinesOf
Whole-before l [] w h = inl w
Whole-before l (m ∷ ls) w h = (w, h)

newline-Whole : (b : ℕ) → b ≡ newline → Whole (b ∷ [])
unfolding newlines
newline-Whole b e = record { before = []; none = refl; text = ap (λ (x : ℕ). x ∷ []) e }

Whole-lengthened : (b : ℕ) (l : List ℕ) → (b ≡ newline → ⊥) → Whole l → Whole (b ∷ l)
Whole-lengthened b l n w = record { before = b ∷ w.before; none = count_onward b w.before n ∙ w.none; text = ap (λ (x : List ℕ). b ∷ x) w.text }

cut_lengthened : (b : ℕ) (l : List ℕ) → (b ≡ newline → ⊥) → newlines l ≡ 0 → CutShort (b ∷ l)
cut_lengthened b l n z = record { some = λ e. absurd (omega (arith, ap length e)); none = count_onward b l n ∙ z }

lengthened_lines : (b : ℕ) (ls : List (List ℕ)) → (b ≡ newline → ⊥) → LinesOf ls → LinesOf (lengthened b ls)
unfolding LinesOf lengthened newlines
lengthened_lines b [] n h = inr (cut_lengthened b [] n refl)
lengthened_lines b (l ∷ []) n h = ⊎_elim (λ w. inl (Whole-lengthened b l n w)) (λ c. inr (cut_lengthened b l n c.none)) h
lengthened_lines b (l ∷ m ∷ ls) n h = (Whole-lengthened b l n h.0, h.1)

-- each line but the last ends with its only newline; the last too, or it has none and is not empty
pub split_lines_lem : (s : List ℕ) → LinesOf (split_lines s)
unfolding split_lines LinesOf
split_lines_lem [] = tt
split_lines_lem (b ∷ s) =
    by_byte b
    (λ e. subst LinesOf (sym (split_here b s e)) (Whole-before (b ∷ []) (split_lines s) (newline-Whole b e) (split_lines_lem s)))
    (λ n. subst LinesOf (sym (split_onward b s n)) (lengthened_lines b (split_lines s) n (split_lines_lem s)))

-- the first line, and those behind it, with a byte more in front
first_lengthened : (b : ℕ) (s : List ℕ) → lengthened b (split_lines s) ≡ (b ∷ first_line s) ∷ split_lines (drop (length (first_line s)) s)
unfolding lengthened split_lines first_line
first_lengthened b [] = refl
first_lengthened b (c ∷ s) =
    by_byte c
    (λ e. ap (lengthened b) (split_here c s e) ∙ ap (λ (l : List ℕ). (b ∷ l) ∷ split_lines (drop (length l) (c ∷ s))) (sym (first_here c s e)))
    (λ n.
    ap (lengthened b) (split_onward c s n ∙ first_lengthened c s)
    ∙ ap (λ (l : List ℕ). (b ∷ l) ∷ split_lines (drop (length l) (c ∷ s))) (sym (first_onward c s n)))

-- the first line, and those behind it
pub split_next : (s : List ℕ) → 0 < length s → split_lines s ≡ first_line s ∷ split_lines (drop (length (first_line s)) s)
split_next [] h = absurd (omega arith)
split_next (b ∷ s) h =
    by_byte b
    (λ e. split_here b s e ∙ ap (λ (l : List ℕ). l ∷ split_lines (drop (length l) (b ∷ s))) (sym (first_here b s e)))
    (λ n. split_onward b s n ∙ first_lengthened b s ∙ ap (λ (l : List ℕ). l ∷ split_lines (drop (length l) (b ∷ s))) (sym (first_onward b s n)))

-- some bytes have a line
pub split_some : (s : List ℕ) → 0 < length s → 0 < length (split_lines s)
split_some s h = omega (arith, ap length (split_next s h))

lengthened_count : (b : ℕ) (ls : List (List ℕ)) → 0 < length ls → length (lengthened b ls) ≡ length ls
unfolding lengthened
lengthened_count b [] h = absurd (omega arith)
lengthened_count b (l ∷ ls) h = refl

-- so many lines as newlines, and one more where bytes stand behind the last
pub split_count : (s : List ℕ) → length (split_lines s) ≡ newlines s + unended s
unfolding split_lines newlines unended lengthened
split_count [] = refl
split_count (b ∷ []) = by_test (eqb b newline) (λ t. length (cond t ((b ∷ []) ∷ []) ((b ∷ []) ∷ [])) ≡ cond t 1 0 + cond t 0 1) (λ e. refl) (λ e. refl)
split_count (b ∷ c ∷ s) =
    by_byte b
    (λ e. ap length (split_here b (c ∷ s) e) ∙ omega (arith, split_count (c ∷ s), count_here b (c ∷ s) e))
    (λ n.
    ap length (split_onward b (c ∷ s) n)
    ∙ lengthened_count b (split_lines (c ∷ s)) (split_some (c ∷ s) (omega arith))
    ∙ omega (arith, split_count (c ∷ s), count_onward b (c ∷ s) n))

-- bytes with no newline, and what stands behind them
none_before : (x : List ℕ) (l t : List ℕ) → newlines x ≡ 0 → split_lines t ≡ l ∷ split_lines (drop (length l) t)
    → split_lines (x ++ t) ≡ (x ++ l) ∷ split_lines (drop (length l) t)
unfolding lengthened
none_before [] l t z e = e
none_before (b ∷ x) l t z e =
    by_byte b
    (λ g. absurd (omega (arith, count_here b x g)))
    (λ n. split_onward b (x ++ t) n ∙ ap (lengthened b) (none_before x l t (sym (count_onward b x n) ∙ z) e))

-- a whole line before other bytes is the first line
pub split_whole : (l t : List ℕ) → Whole l → split_lines (l ++ t) ≡ l ∷ split_lines t
split_whole l t w =
    ap (λ (x : List ℕ). split_lines (x ++ t)) w.text
    ∙ ap split_lines (append_assoc w.before (newline ∷ []) t)
    ∙ none_before w.before (newline ∷ []) (newline ∷ t) w.none (split_here newline t refl)
    ∙ ap (λ (x : List ℕ). x ∷ split_lines t) (sym w.text)

none_behind : (b : ℕ) (l : List ℕ) → newlines (b ∷ l) ≡ 0 → split_lines (b ∷ l) ≡ (b ∷ l) ∷ []
unfolding split_lines lengthened
none_behind b [] z = by_test (eqb b newline) (λ t. cond t ((b ∷ []) ∷ []) ((b ∷ []) ∷ []) ≡ (b ∷ []) ∷ []) (λ e. refl) (λ e. refl)
none_behind b (c ∷ l) z =
    by_byte b
    (λ e. absurd (omega (arith, count_here b (c ∷ l) e)))
    (λ n. split_onward b (c ∷ l) n ∙ ap (lengthened b) (none_behind c l (sym (count_onward b (c ∷ l) n) ∙ z)))

pub split_short : (l : List ℕ) → CutShort l → split_lines l ≡ l ∷ []
split_short [] c = absurd (c.some refl)
split_short (b ∷ l) c = none_behind b l c.none

-- lines joined are split into those lines
pub split_unique : (ls : List (List ℕ)) → LinesOf ls → split_lines (joined ls) ≡ ls
unfolding LinesOf joined split_lines
split_unique [] h = refl
split_unique (l ∷ []) h =
    ⊎_elim
    (λ w. split_whole l [] w)
    (λ c. ap split_lines (append-nil l) ∙ split_short l c)
    h
split_unique (l ∷ m ∷ ls) h = split_whole l (joined (m ∷ ls)) h.0 ∙ ap (λ (x : List (List ℕ)). l ∷ x) (split_unique (m ∷ ls) h.1)
