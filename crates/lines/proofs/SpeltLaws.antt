-- Values that can stand in the lines of a table: of tables behind each other, by their kind, and how long their text can be.
use Prim.Native.Nat.{ℕ, suc, ◌+◌, ◌-◌, ◌^◌, ◌≤◌, ◌<◌}
use mathlib.Core.Bool.{Bool, true, false, ◌&&◌}
use mathlib.Core.List.{List, [], ◌∷◌, ◌++◌, map}
use mathlib.Core.Path.{◌≡◌, refl, sym, ap, ◌∙◌}
use native.Mathlib.Omega.{arith}
use borrow.Author.Tests.{ne_eqb}
use lib.IntN.{ℤ, pos, negsuc, nat_abs}
use lib.ListN.{length, take, drop, length-append}
use Rattle.std.proofs.lemmas.Bool.{and_parts}
use Rattle.lines.specs.declared.keys.Kind.{Kind}
use Rattle.lines.specs.declared.keys.Kind.TheVariants.{Letter, Number, Signed}
use Rattle.lines.specs.Decimal.{integer_text}
use Rattle.lines.specs.Fields.{Field}
use Rattle.lines.specs.Texts.{most_digits, value_text, line_text, lines_text, SpeltAs, Spelt, SpeltIn, longest_value, longest_line, longest}
use Rattle.lines.proofs.DecimalLaws.{decimal-length}
use Rattle.lines.proofs.LineLaws.{line_size}

-- there are as many values as lines
pub spelt_count : (T : List Field) (vs : List ℤ) → SpeltIn T vs → length vs ≡ length T
unfolding SpeltIn
spelt_count [] [] h = refl
spelt_count [] (v ∷ vs) h = absurd h
spelt_count (F ∷ T) [] h = absurd h
spelt_count (F ∷ T) (v ∷ vs) h = ap suc (spelt_count T vs h.1)

-- values in their lines, one before others
pub spelt_none : SpeltIn [] []
unfolding SpeltIn
spelt_none = tt

pub Spelt-more : (F : Field) (T : List Field) (v : ℤ) (vs : List ℤ) → Spelt F v → SpeltIn T vs → SpeltIn (F ∷ T) (v ∷ vs)
unfolding SpeltIn
Spelt-more F T v vs g h = (g, h)

-- the values of lines and of those behind them
pub spelt_join : (T U : List Field) (us vs : List ℤ) → SpeltIn T us → SpeltIn U vs → SpeltIn (T ++ U) (us ++ vs)
unfolding SpeltIn
spelt_join [] U [] vs g h = h
spelt_join [] U (u ∷ us) vs g h = absurd g
spelt_join (F ∷ T) U [] vs g h = absurd g
spelt_join (F ∷ T) U (u ∷ us) vs g h = (g.0, spelt_join T U us vs g.1 h)

-- the same of values that are not split yet
pub spelt_parts : (T U : List Field) (vs : List ℤ) → SpeltIn (T ++ U) vs → SpeltIn T (take (length T) vs) × SpeltIn U (drop (length T) vs)
unfolding SpeltIn
spelt_parts [] U vs h = (tt, h)
spelt_parts (F ∷ T) U [] h = absurd h
spelt_parts (F ∷ T) U (v ∷ vs) h = let r = spelt_parts T U vs h.1 in ((h.0, r.0), r.1)

-- Which values can stand in a line, by its kind.
module _ (F : Field) where
  pub letter_spelt : (x y n : ℕ) → F.kind ≡ Letter x y → (x ≡ y → ⊥) → n < 2 → Spelt F (pos n)
  unfolding Spelt
  letter_spelt x y n e other h = rw (e, ne_eqb x y other) h

  pub number_spelt : (n : ℕ) → F.kind ≡ Number → n < 10 ^ most_digits → Spelt F (pos n)
  unfolding Spelt
  number_spelt n e h = rw e h

  pub signed_spelt : (v : ℤ) → F.kind ≡ Signed → nat_abs v < 10 ^ most_digits → Spelt F v
  unfolding Spelt
  signed_spelt v e h = rw e h

-- whether no line of a table has a value that may have a minus
abbrev pub unsigned : Kind → Bool
unsigned (Letter x y) = true
unsigned Number = true
unsigned Signed = false

abbrev pub all_unsigned : List Field → Bool
all_unsigned [] = true
all_unsigned (F ∷ T) = unsigned F.kind && all_unsigned T

value_above : (k : Kind) (v : ℤ) → unsigned k ≡ true → SpeltAs k v → v ≡ pos (nat_abs v)
value_above (Letter x y) (pos n) u h = refl
value_above (Letter x y) (negsuc n) u h = absurd h
value_above Number (pos n) u h = refl
value_above Number (negsuc n) u h = absurd h
value_above Signed v u h = absurd (let z : ◌≡◌ {A = ℕ} 0 1 = cc in omega arith)

-- values that stand in letters' and numbers' lines are not below zero
pub numbers_above : (T : List Field) (vs : List ℤ) → all_unsigned T ≡ true → SpeltIn T vs → map (λ v. pos (nat_abs v)) vs ≡ vs
unfolding SpeltIn Spelt
numbers_above [] [] u h = refl
numbers_above [] (v ∷ vs) u h = absurd h
numbers_above (F ∷ T) [] u h = absurd h
numbers_above (F ∷ T) (v ∷ vs) u h =
    let plain = and_parts (unsigned F.kind) (all_unsigned T) u in
    ap (λ (w : ℤ). w ∷ map (λ v. pos (nat_abs v)) vs) (sym (value_above F.kind v plain.0 h.0))
    ∙ ap (λ (ws : List ℤ). v ∷ ws) (numbers_above T vs plain.1 h.1)

-- how long a text can be

integer_at_most : (v : ℤ) → SpeltAs Signed v → length (integer_text v) ≤ most_digits + 1
unfolding integer_text
integer_at_most (pos n) h = omega (arith, decimal-length (most_digits - 1) n h)
integer_at_most (negsuc n) h = omega (arith, decimal-length (most_digits - 1) (suc n) h)

value_at_most : (k : Kind) (v : ℤ) → SpeltAs k v → length (value_text k v) ≤ longest_value k
unfolding value_text integer_text
value_at_most (Letter x y) v h = omega arith
value_at_most Number (pos n) h = decimal-length (most_digits - 1) n h
value_at_most Number (negsuc n) h = absurd h
value_at_most Signed v h = integer_at_most v h

pub line_at_most : (F : Field) (v : ℤ) → Spelt F v → length (line_text F v) ≤ longest_line F
unfolding Spelt longest_line
line_at_most F v h = omega (arith, line_size F v, value_at_most F.kind v h)

-- a text is no longer than the longest of its table
pub text_at_most : (T : List Field) (vs : List ℤ) → SpeltIn T vs → length (lines_text T vs) ≤ longest T
unfolding SpeltIn lines_text longest
text_at_most [] vs h = omega arith
text_at_most (F ∷ T) [] h = absurd h
text_at_most (F ∷ T) (v ∷ vs) h = omega (arith, length-append (line_text F v) (lines_text T vs), line_at_most F v h.0, text_at_most T vs h.1)

pub longest_join : (T U : List Field) → longest (T ++ U) ≡ longest T + longest U
unfolding longest
longest_join [] U = omega arith
longest_join (F ∷ T) U = omega (arith, longest_join T U)
