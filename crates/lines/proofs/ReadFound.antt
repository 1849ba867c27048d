-- What reading a line finds stands there: the text of its value.
use Prim.Native.Nat.{ℕ, zero, suc, ◌+◌, ◌-◌, ◌*◌, ◌/◌, ◌%◌, ◌^◌, ◌≤◌, ◌<◌}
use mathlib.Core.Bool.{Bool, true, false, cond}
use mathlib.Core.List.{List, [], ◌∷◌, ◌++◌, append_assoc}
use mathlib.Core.Path.{◌≡◌, refl, sym, ap, ◌∙◌, subst}
use native.Mathlib.Nat.{le_trans, mul-le-mul_left, one-le-pow}
use native.Mathlib.Omega.{arith}
use borrow.Author.Tests.{eqb-true, eqb-false, ne_eqb}
use lib.Dec.{eqb}
use lib.IntN.{ℤ, pos, neg_ℤ, nat_abs}
use lib.ListN.{length, drop, length-append}
use Rattle.std.proofs.lemmas.Bool.{and_parts}
use Rattle.questions.proofs.Laws.{by_test}
use Rattle.lines.specs.Ascii.{newline, digit0, minus}
use Rattle.lines.specs.Decimal.{decimal, integer_text}
use Rattle.lines.specs.declared.keys.Kind.{Kind}
use Rattle.lines.specs.declared.keys.Kind.TheVariants.{Letter, Number, Signed}
use Rattle.lines.specs.Fields.{Field}
use Rattle.lines.specs.Texts.{letter_of, letter_values, most_digits, value_text, line_text, SpeltAs, Spelt}
use Rattle.lines.specs.Reading.{Front, got, bad, first, rest, is_digit, ended}
use Rattle.lines.specs.Reading.{read_digits, read_number, negated, read_signed, read_letter, read_value, begins, read_line}
use Rattle.lines.proofs.DecimalLaws.{decimal_small, decimal_step}
use Rattle.lines.proofs.ReadSteps.{digit_range, digits_bound}

-- Two ways of a test, one of which gave the answer.
pub taken : {P : Type 0} (t : Bool) (f g : Front) {v : ℤ} {s : List ℕ} → cond t f g ≡ got v s → (t ≡ true → f ≡ got v s → P) → (t ≡ false → g ≡ got v s → P) → P
taken true f g h p q = p refl h
taken false f g h p q = q refl h

pub bad_not_got : {v : ℤ} {s : List ℕ} → bad ≡ got v s → ⊥
bad_not_got e = let z : ◌≡◌ {A = ℕ} 0 1 = cc in omega arith

pub got_value : {v w : ℤ} {s t : List ℕ} → got v s ≡ got w t → v ≡ w
got_value e = cc

pub got_rest : {v w : ℤ} {s t : List ℕ} → got v s ≡ got w t → s ≡ t
got_rest e = cc

-- a byte that is not 0 stands first
pub first_is : (s : List ℕ) (b : ℕ) → 0 < b → first s ≡ b → s ≡ b ∷ rest s
first_is [] b h e = absurd (omega arith)
first_is (x ∷ s) b h e = ap (λ (y : ℕ). y ∷ s) e

pub ended_text : (v w : ℤ) (s t : List ℕ) → ended v s ≡ got w t → (v ≡ w) × (s ≡ newline ∷ t)
unfolding ended
ended_text v w s t h =
    taken (eqb (first s) newline) _ _ h
    (λ e g. (got_value g, first_is s newline (omega arith) (eqb-true (first s) newline e) ∙ ap (λ (l : List ℕ). newline ∷ l) (got_rest g)))
    (λ e g. absurd (bad_not_got g))

-- one digit more behind a number above zero
decimal_more : (n d : ℕ) → 0 < n → d < 10 → decimal (n * 10 + d) ≡ decimal n ++ ((digit0 + d) ∷ [])
decimal_more n d h k =
    let upper : (n * 10 + d) / 10 ≡ n = omega arith in
    let last : (n * 10 + d) % 10 ≡ d = omega arith in
    decimal_step (n * 10 + d) (omega arith) ∙ ap (λ (m : ℕ). decimal m ++ ((digit0 + (n * 10 + d) % 10) ∷ [])) upper
    ∙ ap (λ (m : ℕ). decimal n ++ ((digit0 + m) ∷ [])) last

-- what was read is a number m, whose digits and newline stand in s; below most
record NumberText (most : ℕ) (s : List ℕ) (v : ℤ) (t : List ℕ) : Type 0 where
  m : ℕ
  value : v ≡ pos m
  text : s ≡ decimal m ++ (newline ∷ t)
  size : m < most

-- digits that go on behind the number n
digits_text : (left n : ℕ) (s : List ℕ) (v : ℤ) (t : List ℕ) → 0 < n → read_digits left n s ≡ got v t → NumberText (suc n * 10 ^ left) (decimal n ++ s) v t
unfolding read_digits
digits_text zero n s v t h e =
    let r = ended_text (pos n) v s t e in
    record { m = n; value = sym r.0; text = ap (λ (l : List ℕ). decimal n ++ l) r.1; size = omega arith }
digits_text (suc left) n s v t h e =
    taken (is_digit (first s)) _ _ e
    (λ g k. more (digit_range (first s) g) (digits_text left (n * 10 + (first s - digit0)) (rest s) v t (omega arith) k))
    (λ g k.
    let r = ended_text (pos n) v s t k in
    record { m = n; value = sym r.0; text = ap (λ (l : List ℕ). decimal n ++ l) r.1; size = mul-one-le (one-le-pow (suc left) 10 (omega arith)) })
  where
    mul-one-le : {x : ℕ} → 1 ≤ x → n < suc n * x
    mul-one-le {x} k = omega (arith, mul-le-mul_left {m = 1} {n = x} (suc n) k)

    grown : (d : ℕ) → d < 10 → digit0 + d ≡ first s → decimal n ++ (first s ∷ []) ≡ decimal (n * 10 + d)
    grown d k g = ap (λ (b : ℕ). decimal n ++ (b ∷ [])) (sym g) ∙ sym (decimal_more n d h k)

    more : (digit0 ≤ first s) × (first s ≤ digit0 + 9)
        → NumberText (suc (n * 10 + (first s - digit0)) * 10 ^ left) (decimal (n * 10 + (first s - digit0)) ++ rest s) v t
        → NumberText (suc n * 10 ^ suc left) (decimal n ++ s) v t
    more d r = record {
      m = r.m;
      value = r.value;
      text =
          ap (λ (l : List ℕ). decimal n ++ l) (first_is s (first s) (omega arith) refl)
          ∙ sym (append_assoc (decimal n) (first s ∷ []) (rest s))
          ∙ ap (λ (l : List ℕ). l ++ rest s) (grown (first s - digit0) (omega arith) (omega arith))
          ∙ r.text;
      size = le_trans r.size (digits_bound (suc n * 10 ^ suc left) left n (first s - digit0) (omega arith) (omega arith));
    }

number_text : (s : List ℕ) (v : ℤ) (t : List ℕ) → read_number s ≡ got v t → NumberText (10 ^ most_digits) s v t
unfolding read_number
number_text s v t e =
    taken (eqb (first s) digit0) _ _ e
    (λ g k. zero_text (first_is s digit0 (omega arith) (eqb-true (first s) digit0 g)) (ended_text (pos 0) v (rest s) t k))
    (λ g k.
    taken (is_digit (first s)) _ _ k
    (λ d r. digit_text (first s - digit0) (digit_range (first s) d) (eqb-false (first s) digit0 g) refl r)
    (λ d r. absurd (bad_not_got r)))
  where
    zero_text : s ≡ digit0 ∷ rest s → (pos 0 ≡ v) × (rest s ≡ newline ∷ t) → NumberText (10 ^ most_digits) s v t
    zero_text z r = record {
      m = 0;
      value = sym r.0;
      text = z ∙ ap (λ (l : List ℕ). digit0 ∷ l) r.1 ∙ ap (λ (l : List ℕ). l ++ (newline ∷ t)) (sym (decimal_small 0 (omega arith)));
      size = omega arith;
    }

    digit_text : (d : ℕ) → (digit0 ≤ first s) × (first s ≤ digit0 + 9) → (first s ≡ digit0 → ⊥) → d ≡ first s - digit0
        → read_digits (most_digits - 1) d (rest s) ≡ got v t → NumberText (10 ^ most_digits) s v t
    digit_text d range other is k =
        let r = digits_text (most_digits - 1) d (rest s) v t (omega arith) k in
        let one : digit0 + d ≡ first s = omega arith in
        record {
          m = r.m;
          value = r.value;
          text =
              first_is s (first s) (omega arith) refl ∙ ap (λ (b : ℕ). b ∷ rest s) (sym one)
              ∙ ap (λ (l : List ℕ). l ++ rest s) (sym (decimal_small d (omega arith))) ∙ r.text;
          size = omega (arith, r.size);
        }

-- SpeltAs and the text, for each kind of value
record Found (k : Kind) (s : List ℕ) (v : ℤ) (t : List ℕ) : Type 0 where
  spelt : SpeltAs k v
  text : s ≡ value_text k v ++ (newline ∷ t)

number_value : (s : List ℕ) (v : ℤ) (t : List ℕ) → NumberText (10 ^ most_digits) s v t → Found Number s v t
unfolding value_text integer_text
number_value s v t r =
    record { spelt = subst (SpeltAs Number) (sym r.value) r.size; text = r.text ∙ ap (λ (w : ℤ). integer_text w ++ (newline ∷ t)) (sym r.value) }

signed_value : (s : List ℕ) (v : ℤ) (t : List ℕ) → NumberText (10 ^ most_digits) s v t → Found Signed s v t
unfolding value_text integer_text
signed_value s v t r =
    record { spelt = subst (SpeltAs Signed) (sym r.value) r.size; text = r.text ∙ ap (λ (w : ℤ). integer_text w ++ (newline ∷ t)) (sym r.value) }

-- a number behind a minus
record Negated (f : Front) (v : ℤ) (t : List ℕ) : Type 0 where
  w : ℤ
  before : f ≡ got w t
  some : nat_abs w ≡ 0 → ⊥
  value : v ≡ neg_ℤ (pos (nat_abs w))

negated_text : (f : Front) (v : ℤ) (t : List ℕ) → negated f ≡ got v t → Negated f v t
unfolding negated
negated_text bad v t e = absurd (bad_not_got e)
negated_text (got w s) v t e =
    taken (eqb (nat_abs w) 0) _ _ e
    (λ g k. absurd (bad_not_got k))
    (λ g k. record { w = w; before = ap (got w) (got_rest k); some = eqb-false (nat_abs w) 0 g; value = sym (got_value k) })

minus_value : (n : ℕ) (t : List ℕ) → (n ≡ 0 → ⊥) → n < 10 ^ most_digits → Found Signed (minus ∷ (decimal n ++ (newline ∷ t))) (neg_ℤ (pos n)) t
unfolding value_text integer_text
minus_value zero t some h = absurd (some refl)
minus_value (suc n) t some h = record { spelt = h; text = refl }

signed_text : (s : List ℕ) (v : ℤ) (t : List ℕ) → read_signed s ≡ got v t → Found Signed s v t
unfolding read_signed
signed_text s v t e =
    taken (eqb (first s) minus) _ _ e
    (λ g k. below (first_is s minus (omega arith) (eqb-true (first s) minus g)) (negated_text (read_number (rest s)) v t k))
    (λ g k. signed_value s v t (number_text s v t k))
  where
    below : s ≡ minus ∷ rest s → Negated (read_number (rest s)) v t → Found Signed s v t
    below z r =
        let n = number_text (rest s) r.w t r.before in
        let size : nat_abs r.w ≡ n.m = ap nat_abs n.value in
        let f = minus_value n.m t (λ q. r.some (size ∙ q)) n.size in
        let v_is : neg_ℤ (pos n.m) ≡ v = sym (r.value ∙ ap (λ (k : ℕ). neg_ℤ (pos k)) size) in
        subst (λ (w : ℤ). Found Signed s w t) v_is (subst (λ (l : List ℕ). Found Signed l (neg_ℤ (pos n.m)) t)
        (sym (z ∙ ap (λ (l : List ℕ). minus ∷ l) n.text)) f)

-- two letters tell one value apart from none, and two from each other where they differ
one_letter : (x y : ℕ) → 0 < letter_values x y
one_letter x y = by_test (eqb x y) (λ t. 0 < cond t 1 2) (λ e. omega arith) (λ e. omega arith)

two_letters : (x y : ℕ) → (x ≡ y → ⊥) → 1 < letter_values x y
two_letters x y n = rw (ne_eqb x y n) (omega arith)

-- a byte stands first where others stand behind it
first_before : (s t : List ℕ) (b : ℕ) → first s ≡ b → rest s ≡ newline ∷ t → s ≡ b ∷ rest s
first_before [] t b e h = absurd (omega (arith, ap length h))
first_before (x ∷ s) t b e h = ap (λ (y : ℕ). y ∷ s) e

letter_text : (x y : ℕ) (s : List ℕ) (v : ℤ) (t : List ℕ) → read_letter x y s ≡ got v t → Found (Letter x y) s v t
unfolding read_letter value_text letter_of
letter_text x y s v t e =
    taken (eqb (first s) x) _ _ e
    (λ g k. is (pos 0) (one_letter x y) x refl (eqb-true (first s) x g) (ended_text (pos 0) v (rest s) t k))
    (λ g k.
    taken (eqb (first s) y) _ _ k
    (λ d r. is (pos 1) (two_letters x y (λ q. eqb-false (first s) x g (eqb-true (first s) y d ∙ sym q))) y refl (eqb-true (first s) y d)
    (ended_text (pos 1) v (rest s) t r))
    (λ d r. absurd (bad_not_got r)))
  where
    is : (w : ℤ) → SpeltAs (Letter x y) w → (b : ℕ) → letter_of x y w ≡ b → first s ≡ b → (w ≡ v) × (rest s ≡ newline ∷ t) → Found (Letter x y) s v t
    is w h b eb z r =
        subst (λ (u : ℤ). Found (Letter x y) s u t) r.0
        (record { spelt = h; text = first_before s t b z r.1 ∙ ap (λ (l : List ℕ). b ∷ l) r.1 ∙ ap (λ (c : ℕ). c ∷ (newline ∷ t)) (sym eb) })

value_text_lem : (k : Kind) (s : List ℕ) (v : ℤ) (t : List ℕ) → read_value k s ≡ got v t → Found k s v t
unfolding read_value
value_text_lem (Letter x y) s v t e = letter_text x y s v t e
value_text_lem Number s v t e = number_value s v t (number_text s v t e)
value_text_lem Signed s v t e = signed_text s v t e

-- a key stands where it is found
pub begins_text : (k s : List ℕ) → begins k s ≡ true → s ≡ k ++ drop (length k) s
unfolding begins
begins_text [] s e = refl
begins_text (b ∷ k) [] e = absurd (let z : ◌≡◌ {A = ℕ} 0 1 = cc in omega arith)
begins_text (b ∷ k) (c ∷ s) e =
    let h = and_parts (eqb c b) (begins k s) e in
    ap (λ (x : ℕ). x ∷ s) (eqb-true c b h.0) ∙ ap (λ (l : List ℕ). b ∷ l) (begins_text k s h.1)

pub line_of : (F : Field) (v : ℤ) (t : List ℕ) → line_text F v ++ t ≡ F.key ++ (value_text F.kind v ++ (newline ∷ t))
unfolding line_text
line_of F v t = simp append_assoc

-- what reading the line of a field finds stands there
pub line_found : (F : Field) (s : List ℕ) (v : ℤ) (t : List ℕ) → read_line F s ≡ got v t → Spelt F v × (s ≡ line_text F v ++ t)
unfolding read_line Spelt
line_found F s v t e =
    taken (begins F.key s) _ _ e
    (λ g k.
    let f = value_text_lem F.kind (drop (length F.key) s) v t k in
    (f.spelt, begins_text F.key s g ∙ ap (λ (l : List ℕ). F.key ++ l) f.text ∙ sym (line_of F v t)))
    (λ g k. absurd (bad_not_got k))

-- what stands behind a line is shorter than what the line was read from
pub line_shorter : (F : Field) (s : List ℕ) (v : ℤ) (t : List ℕ) → read_line F s ≡ got v t → length t < length s
line_shorter F s v t e =
    let text : s ≡ F.key ++ (value_text F.kind v ++ (newline ∷ t)) = (line_found F s v t e).1 ∙ line_of F v t in
    omega (arith, ap length text, length-append F.key (value_text F.kind v ++ (newline ∷ t)), length-append (value_text F.kind v) (newline ∷ t))
