-- The arrays of the code: the keys, and those made of another element by element.
use Prim.Native.Nat.{ℕ, ◌<◌, ◌≤◌}
use mathlib.Core.List.{List, [], ◌∷◌, map}
use native.Mathlib.Omega.{arith}
use denote.Param.Members.{Mut, Called}
use mathlib.Core.Path.{◌≡◌, refl, sym, ap, ◌∙◌, subst}
use lib.ListN.{length, length-map, get_or, get_or-map, take}
use lib.Seq.{length-take-le}
use Rattle.std.proofs.lemmas.List.{take-map, ext_get_or}
use Rattle.std.specs.Array.{list_steps, IsMapOf}
use Rattle.std.specs.Iterator.{Yields, CallableAtEachTurn}
use Rattle.lines.specs.declared.keys.Key.{Key}
use Rattle.lines.specs.Fields.{field}
use Rattle.section.specs.Sheets.{sheet_lines}
use Rattle.certificate.specs.Keys.{sheet_fields, figure_fields, certificate_lines, certificate_fields}

-- the first keys of a certificate are those of its first lines, and of a sheet
pub fields_of_first : (count : ℕ) (ks : List Key) → map field ks ≡ certificate_fields → map field (take count ks) ≡ take count certificate_fields
fields_of_first count ks e = sym (take-map field count ks) ∙ ap (take count) e

pub count_of_first : (count : ℕ) (ks : List Key) → length ks ≡ certificate_lines → count ≤ certificate_lines → length (take count ks) ≡ count
count_of_first count ks n h = length-take-le count ks (omega (arith, n))

pub ruleset first_keys = (fields_of_first, count_of_first)

pub sheet_keys : (ks : List Key) → map field ks ≡ certificate_fields → map field (take sheet_lines ks) ≡ sheet_fields
unfolding certificate_fields sheet_fields figure_fields
sheet_keys ks e = fields_of_first sheet_lines ks e

pub sheet_field_count : length sheet_fields ≡ sheet_lines
unfolding sheet_fields
sheet_field_count = refl

-- behind the items xs of a list comes the one at that place
given : {A : Type 0} (s xs t u : List A) (x e : A) → Yields list_steps s xs t → t ≡ x ∷ u → (length xs < length s) × (get_or s (length xs) e ≡ x)
given s [] t u x e y h = rw (y ∙ h) (omega arith, refl)
given s (z ∷ xs) t u x e y h = let more = given y.0 xs t u x e y.2 h in rw y.1 (omega (arith, more.0), more.1)

-- so a call may be made of each in turn, where it may be of the element at each place
pub callable : {A P : Type 0} {R : P → A → P → Type 0} {Q : P → A → Type 0} (s : List A) (e : A) {p : P} → ((q : P) (i : ℕ) → i < length s → Q q (get_or s i e))
    → CallableAtEachTurn list_steps R Q s p
callable {Q = Q} s e may = record {
  at = λ xs t q x u y f n. let here = given s xs t u x e y n in subst (Q q) here.1 (may q (length xs) here.0);
}

-- an array that is made of another, each element by a call that gives h of it
pub mapped : {A B F : Type 0} {g : Mut F (A × Unit {0}) B} {f : F} {xs : List A} {ys : List B} {n : ℕ} (h : A → B) (e : A) → IsMapOf g f xs ys n → length xs ≡ n
    → ((p q : F) (x : A) (y : B) → Called g p (x, tt) y q → y ≡ h x) → ys ≡ map h xs
mapped {xs = xs} {ys = ys} h e made n each =
    ext_get_or (h e) ys (map h xs) (omega (arith, made.long, n, length-map xs h))
    (λ k inside. let c = made.at k e (h e) (omega (arith, made.long, inside)) in each c.0 c.1 _ _ c.2 ∙ sym (get_or-map h xs k e))
