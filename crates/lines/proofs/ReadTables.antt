-- Reading the lines of a table gives exactly the values whose text stands there, and otherwise the first bad line; a text says which
-- values it has; no byte behind the longest text decides.
use Prim.Native.Nat.{ℕ, zero, suc, ◌+◌, ◌-◌, ◌≤◌, ◌<◌}
use mathlib.Core.List.{List, [], ◌∷◌, ◌++◌, append_assoc, append-nil}
use mathlib.Core.Logic.{◌↔◌}
use mathlib.Core.Path.{◌≡◌, refl, sym, ap, ◌∙◌, subst}
use native.Mathlib.Nat.{add-zero}
use native.Mathlib.Omega.{arith}
use lib.IntN.{ℤ}
use lib.ListN.{length, take, drop, take-append-drop}
use lib.Seq.{take-append-add}
use Rattle.lines.specs.Fields.{Field}
use Rattle.lines.specs.Texts.{line_text, lines_text, SpeltIn, longest_line, longest, TextOf, Begins, Unfit, FirstBad}
use Rattle.lines.specs.Reading.{Front, got, bad, read_line, Reading, values, bad_line, prepend, read_end, and_then, read_from, read_lines}
use Rattle.lines.proofs.ReadFound.{bad_not_got, line_found}
use Rattle.lines.proofs.ReadBack.{line_back}
use Rattle.lines.proofs.SpeltLaws.{line_at_most}

-- reading a line gives a value, or none
by_line : {P : Type 0} (F : Field) (s : List ℕ) → ((v : ℤ) (t : List ℕ) → read_line F s ≡ got v t → P) → (read_line F s ≡ bad → P) → P
by_line {P} F s p q = by_outcome (read_line F s) refl
  where
    by_outcome : (f : Front) → read_line F s ≡ f → P
    by_outcome (got v t) e = p v t e
    by_outcome bad e = q e

pub values_not_bad : {vs : List ℤ} {l : ℕ} → bad_line l ≡ values vs → ⊥
values_not_bad e = let z : ◌≡◌ {A = ℕ} 0 1 = cc in omega arith

pub values_same : {us vs : List ℤ} → values us ≡ values vs → us ≡ vs
values_same e = cc

pub bad_same : {l m : ℕ} → bad_line l ≡ bad_line m → l ≡ m
bad_same e = cc

-- The line of F, line l, comes first, and then the lines of T.
module _ (l : ℕ) (F : Field) (T : List Field) (s : List ℕ) where
  pub line_next : (v : ℤ) (t : List ℕ) → read_line F s ≡ got v t → read_from l (F ∷ T) s ≡ prepend v (read_from (suc l) T t)
  unfolding read_from and_then
  line_next v t e = ap (λ (f : Front). and_then l f (read_from (suc l) T)) e

  pub line_stop : read_line F s ≡ bad → read_from l (F ∷ T) s ≡ bad_line l
  unfolding read_from and_then
  line_stop e = ap (λ (f : Front). and_then l f (read_from (suc l) T)) e

module _ (F : Field) (s : List ℕ) where
  none_begins : read_line F s ≡ bad → Begins F s → ⊥
  none_begins e b = bad_not_got (sym e ∙ ap (read_line F) b.text ∙ line_back F b.value b.behind b.spelt)

  not_begun : (Begins F s → ⊥) → read_line F s ≡ bad
  not_begun none =
      by_line F s
      (λ v t e. let f = line_found F s v t e in absurd (none (record { value = v; behind = t; spelt = f.0; text = f.1 })))
      (λ e. e)

-- values that are read before others
abbrev pub behind : List ℤ → Reading → Reading
behind [] r = r
behind (v ∷ vs) r = prepend v (behind vs r)

pub behind_snoc : (us : List ℤ) (v : ℤ) (r : Reading) → behind (us ++ (v ∷ [])) r ≡ behind us (prepend v r)
behind_snoc [] v r = refl
behind_snoc (u ∷ us) v r = ap (prepend u) (behind_snoc us v r)

pub behind_bad : (us : List ℤ) (l : ℕ) → behind us (bad_line l) ≡ bad_line l
unfolding prepend
behind_bad [] l = refl
behind_bad (u ∷ us) l = ap (prepend u) (behind_bad us l)

pub behind-values : (us vs : List ℤ) → behind us (values vs) ≡ values (us ++ vs)
unfolding prepend
behind-values [] vs = refl
behind-values (u ∷ us) vs = ap (prepend u) (behind-values us vs)

-- the text of the first lines is read, and then what is behind it
pub lines_back : (l : ℕ) (T U : List Field) (us : List ℤ) (t : List ℕ) → SpeltIn T us
    → read_from l (T ++ U) (lines_text T us ++ t) ≡ behind us (read_from (l + length T) U t)
unfolding SpeltIn lines_text
lines_back l [] U [] t h = ap (λ (k : ℕ). read_from k U t) (sym (add-zero l))
lines_back l [] U (u ∷ us) t h = absurd h
lines_back l (F ∷ T) U [] t h = absurd h
lines_back l (F ∷ T) U (u ∷ us) t h =
    let next : suc l + length T ≡ l + suc (length T) = omega arith in
    ap (read_from l (F ∷ (T ++ U))) (append_assoc (line_text F u) (lines_text T us) t)
    ∙ line_next l F (T ++ U) (line_text F u ++ (lines_text T us ++ t)) u (lines_text T us ++ t) (line_back F u (lines_text T us ++ t) h.0)
    ∙ ap (prepend u) (lines_back (suc l) T U us t h.1)
    ∙ ap (λ (k : ℕ). prepend u (behind us (read_from k U t))) next

-- what was read behind a value
record Tail (v : ℤ) (r : Reading) (vs : List ℤ) : Type 0 where
  tail : List ℤ
  read : r ≡ values tail
  whole : v ∷ tail ≡ vs

Tail-of : (v : ℤ) (r : Reading) (vs : List ℤ) → prepend v r ≡ values vs → Tail v r vs
unfolding prepend
Tail-of v (values us) vs e = record { tail = us; read = refl; whole = values_same e }
Tail-of v (bad_line l) vs e = absurd (values_not_bad e)

bad_behind : (v : ℤ) (r : Reading) (l : ℕ) → prepend v r ≡ bad_line l → r ≡ bad_line l
unfolding prepend
bad_behind v (values us) l e = absurd (values_not_bad (sym e))
bad_behind v (bad_line m) l e = e

values_found : (l : ℕ) (T : List Field) (s : List ℕ) (vs : List ℤ) → read_from l T s ≡ values vs → SpeltIn T vs × (s ≡ lines_text T vs)
unfolding read_from read_end SpeltIn lines_text
values_found l [] [] vs e = subst (λ (us : List ℤ). SpeltIn [] us × ([] ≡ lines_text [] us)) (values_same e) (tt, refl)
values_found l [] (b ∷ s) vs e = absurd (values_not_bad e)
values_found l (F ∷ T) s vs e =
    by_line F s
    (λ v t g.
    let f = line_found F s v t g in
    let r = Tail-of v (read_from (suc l) T t) vs (sym (line_next l F T s v t g) ∙ e) in
    let h = values_found (suc l) T t r.tail r.read in
    subst (λ (us : List ℤ). SpeltIn (F ∷ T) us × (s ≡ lines_text (F ∷ T) us)) r.whole
    ((f.0, h.0), f.1 ∙ ap (λ (x : List ℕ). line_text F v ++ x) h.1))
    (λ g. absurd (values_not_bad (sym (line_stop l F T s g) ∙ e)))

-- reading gives the values vs exactly when the bytes are their text
pub reads_values : (T : List Field) (s : List ℕ) (vs : List ℤ) → (read_lines T s ≡ values vs) ↔ TextOf T vs s
unfolding read_from read_end
reads_values T s vs = (λ e. let f = values_found 1 T s vs e in record { spelt = f.0; text = f.1 }, back)
  where
    back : TextOf T vs s → read_lines T s ≡ values vs
    back h =
        ap (read_lines T) (h.text ∙ sym (append-nil (lines_text T vs)))
        ∙ ap (λ (U : List Field). read_lines U (lines_text T vs ++ [])) (sym (append-nil T))
        ∙ lines_back 1 T [] vs [] h.spelt
        ∙ behind-values vs [] ∙ ap values (append-nil vs)

-- reading gives values, or names a bad line
pub by_reading : {P : Type 0} (T : List Field) (s : List ℕ) → ((vs : List ℤ) → read_lines T s ≡ values vs → P)
    → ((l : ℕ) → read_lines T s ≡ bad_line l → P) → P
by_reading {P} T s p q = by_outcome (read_lines T s) refl
  where
    by_outcome : (r : Reading) → read_lines T s ≡ r → P
    by_outcome (values vs) e = p vs e
    by_outcome (bad_line l) e = q l e

-- `FirstBad` where the first line is line k
record BadFrom (k : ℕ) (T : List Field) (s : List ℕ) (l : ℕ) : Type 0 where
  first : List Field
  others : List Field
  table : T ≡ first ++ others
  right : List ℤ
  behind : List ℕ
  spelt : SpeltIn first right
  text : s ≡ lines_text first right ++ behind
  number : l ≡ k + length first
  unfit : Unfit others behind

bad_found : (k : ℕ) (T : List Field) (s : List ℕ) (l : ℕ) → read_from k T s ≡ bad_line l → BadFrom k T s l
unfolding read_from read_end SpeltIn lines_text Unfit
bad_found k [] [] l e = absurd (values_not_bad (sym e))
bad_found k [] (b ∷ s) l e = record {
  first = [];
  others = [];
  table = refl;
  right = [];
  behind = b ∷ s;
  spelt = tt;
  text = refl;
  number = omega (arith, bad_same e);
  unfit = λ q. absurd (omega (arith, ap length q));
}
bad_found k (F ∷ T) s l e =
    by_line F s
    (λ v t g.
    let f = line_found F s v t g in
    let r = bad_found (suc k) T t l (bad_behind v (read_from (suc k) T t) l (sym (line_next k F T s v t g) ∙ e)) in
    record {
      first = F ∷ r.first;
      others = r.others;
      table = ap (λ (U : List Field). F ∷ U) r.table;
      right = v ∷ r.right;
      behind = r.behind;
      spelt = (f.0, r.spelt);
      text = f.1 ∙ ap (λ (x : List ℕ). line_text F v ++ x) r.text ∙ sym (append_assoc (line_text F v) (lines_text r.first r.right) r.behind);
      number = omega (arith, r.number);
      unfit = r.unfit;
    })
    (λ g. record {
      first = [];
      others = F ∷ T;
      table = refl;
      right = [];
      behind = s;
      spelt = tt;
      text = refl;
      number = omega (arith, bad_same (sym (line_stop k F T s g) ∙ e));
      unfit = none_begins F s g;
    })

Unfit-bad : (l : ℕ) (T : List Field) (s : List ℕ) → Unfit T s → read_from l T s ≡ bad_line l
unfolding read_from read_end Unfit
Unfit-bad l [] [] h = absurd (h refl)
Unfit-bad l [] (b ∷ s) h = refl
Unfit-bad l (F ∷ T) s h = line_stop l F T s (not_begun F s h)

-- reading gives the bad line l exactly when l is the first that is bad
pub reads_bad : (T : List Field) (s : List ℕ) (l : ℕ) → (read_lines T s ≡ bad_line l) ↔ FirstBad T s l
reads_bad T s l = (there, back)
  where
    there : read_lines T s ≡ bad_line l → FirstBad T s l
    there e =
        let f = bad_found 1 T s l e in
        record {
          first = f.first;
          others = f.others;
          table = f.table;
          right = f.right;
          behind = f.behind;
          spelt = f.spelt;
          text = f.text;
          number = omega (arith, f.number);
          unfit = f.unfit;
        }

    back : FirstBad T s l → read_lines T s ≡ bad_line l
    back h =
        let line : 1 + length h.first ≡ l = omega (arith, h.number) in
        ap (λ (U : List Field). read_lines U s) h.table
        ∙ ap (read_lines (h.first ++ h.others)) h.text
        ∙ lines_back 1 h.first h.others h.right h.behind h.spelt
        ∙ ap (behind h.right) (Unfit-bad (1 + length h.first) h.others h.behind h.unfit)
        ∙ behind_bad h.right (1 + length h.first) ∙ ap bad_line line

-- a text has one list of values
pub text_tells_values : (T : List Field) (us vs : List ℤ) → SpeltIn T us → SpeltIn T vs → lines_text T us ≡ lines_text T vs → us ≡ vs
text_tells_values T us vs g h e =
    values_same
    (sym ((reads_values T (lines_text T us) us).1 (record { spelt = g; text = refl }))
    ∙ (reads_values T (lines_text T us) vs).1 (record { spelt = h; text = e }))

-- Input cut behind its first m bytes.
module _ (m : ℕ) (s : List ℕ) (F : Field) where
  cut_right : (v : ℤ) (t : List ℕ) → longest_line F ≤ m → read_line F s ≡ got v t → read_line F (take m s) ≡ got v (take (m - length (line_text F v)) t)
  cut_right v t h e =
      let f = line_found F s v t e in
      let size = length (line_text F v) in
      let split : m ≡ size + (m - size) = omega (arith, line_at_most F v f.0) in
      ap (λ (l : List ℕ). read_line F (take m l)) f.1
      ∙ ap (λ (k : ℕ). read_line F (take k (line_text F v ++ t))) split
      ∙ ap (read_line F) (take-append-add (line_text F v) t (m - size))
      ∙ line_back F v (take (m - size) t) f.0

  cut_wrong : read_line F s ≡ bad → read_line F (take m s) ≡ bad
  cut_wrong e =
      by_line F (take m s)
      (λ v t g.
      let f = line_found F (take m s) v t g in
      let whole : s ≡ line_text F v ++ (t ++ drop m s) =
      sym (take-append-drop m s) ∙ ap (λ (l : List ℕ). l ++ drop m s) f.1 ∙ append_assoc (line_text F v) t (drop m s) in
      absurd (none_begins F s e (record { value = v; behind = t ++ drop m s; spelt = f.0; text = whole })))
      (λ g. g)

cut_from : (l : ℕ) (T : List Field) (m : ℕ) (s : List ℕ) → longest T < m → read_from l T (take m s) ≡ read_from l T s
unfolding longest read_from read_end
cut_from l [] zero s h = absurd (omega arith)
cut_from l [] (suc m) [] h = refl
cut_from l [] (suc m) (b ∷ s) h = refl
cut_from l (F ∷ T) m s h =
    by_line F s
    (λ v t g.
    let size = length (line_text F v) in
    line_next l F T (take m s) v (take (m - size) t) (cut_right m s F v t (omega arith) g)
    ∙ ap (prepend v) (cut_from (suc l) T (m - size) t (omega (arith, line_at_most F v (line_found F s v t g).0)))
    ∙ sym (line_next l F T s v t g))
    (λ g. line_stop l F T (take m s) (cut_wrong m s F g) ∙ sym (line_stop l F T s g))

-- no byte behind the longest text and one more decides what is read
pub cut_behind : (T : List Field) (m : ℕ) (s : List ℕ) → longest T < m → read_lines T (take m s) ≡ read_lines T s
cut_behind T m s h = cut_from 1 T m s h
