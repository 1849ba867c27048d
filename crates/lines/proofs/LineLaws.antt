-- Lines: their lengths, the first, and those behind it.
use Prim.Native.Nat.{ℕ, ◌+◌, ◌^◌, ◌≤◌, ◌<◌}
use mathlib.Core.List.{List, [], ◌∷◌, ◌++◌, map, append_assoc}
use mathlib.Core.Logic.{◌⊎◌, inl, inr}
use mathlib.Core.Path.{◌≡◌, refl, sym, ap, ◌∙◌}
use native.Mathlib.Omega.{arith}
use lib.IntN.{ℤ, pos, nat_abs}
use lib.ListN.{length, length-append}
use Rattle.lines.specs.declared.keys.Kind.TheVariants.{Letter, Number, Signed}
use Rattle.lines.specs.declared.keys.Kind.{Kind}
use Rattle.lines.specs.Decimal.{integer_text}
use Rattle.lines.specs.Ascii.{newline}
use Rattle.lines.specs.declared.keys.Key.{Key}
use Rattle.lines.specs.Fields.{Field, field}
use Rattle.lines.specs.Texts.{value_text, line_text, lines_text}
use Rattle.lines.proofs.DecimalLaws.{decimal-length, integer_most}
use Rattle.lines.proofs.LentParts.{length_snoc}

module _ (F : Field) (v : ℤ) where
  pub line_is : line_text F v ≡ (F.key ++ value_text F.kind v) ++ (newline ∷ [])
  unfolding line_text
  line_is = sym (append_assoc F.key (value_text F.kind v) (newline ∷ []))

  pub line_size : length (line_text F v) ≡ length F.key + length (value_text F.kind v) + 1
  line_size = ap length line_is ∙ length_snoc (F.key ++ value_text F.kind v) newline ∙ ap (λ (n : ℕ). n + 1) (length-append F.key (value_text F.kind v))

-- a line with a number of at most twenty digits
pub number_line_lem : (F : Field) (n : ℕ) → F.kind ≡ Number → n < 10 ^ 20 → length (line_text F (pos n)) ≤ length F.key + 21
unfolding value_text integer_text
number_line_lem F n e h = omega (arith, line_size F (pos n), ap (λ (k : Kind). length (value_text k (pos n))) e, decimal-length 19 n h)

-- and with an integer whose size fits a word
pub line_most : (F : Field) (v : ℤ) → nat_abs v < 10 ^ 20 → length (line_text F v) ≤ length F.key + 22
unfolding value_text
line_most F v h = omega (arith, line_size F v, of_kind F.kind)
  where
    of_kind : (k : Kind) → length (value_text k v) ≤ 21
    of_kind (Letter x y) = omega arith
    of_kind Number = integer_most v h
    of_kind Signed = integer_most v h

-- the first line, and those behind it; none where keys or values have ended
module _ (keys : List Key) (vs : List ℤ) where
  pub lines_first_is : (k : Key) (v : ℤ) (ks : List Key) (us : List ℤ) → keys ≡ k ∷ ks → vs ≡ v ∷ us
      → lines_text (map field keys) vs ≡ line_text (field k) v ++ lines_text (map field ks) us
  unfolding lines_text
  lines_first_is k v ks us e h = rw (e, h)

  pub lines_ended : (keys ≡ []) ⊎ (vs ≡ []) → lines_text (map field keys) vs ≡ []
  unfolding lines_text
  lines_ended h = elim h [ inl e ↦ rw e | inr e ↦ rw e (none keys) ]
    where
      none : (ks : List Key) → lines_text (map field ks) [] ≡ []
      none [] = refl
      none (k ∷ ks) = refl

-- lines and those behind them
pub lines_join : (T U : List Field) (us vs : List ℤ) → length us ≡ length T → lines_text (T ++ U) (us ++ vs) ≡ lines_text T us ++ lines_text U vs
unfolding lines_text
lines_join [] U [] vs h = refl
lines_join [] U (u ∷ us) vs h = absurd (omega arith)
lines_join (F ∷ T) U [] vs h = absurd (omega arith)
lines_join (F ∷ T) U (u ∷ us) vs h =
    ap (λ (l : List ℕ). line_text F u ++ l) (lines_join T U us vs (omega arith))
    ∙ sym (append_assoc (line_text F u) (lines_text T us) (lines_text U vs))
