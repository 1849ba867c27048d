-- Questions in order, and their claims with the lines that they name: the first "no" is found exactly where there is a reason. Over any type R of
-- refusals, of which `told` says what is answered.
use Rattle.std.specs.Prelude.{true, false, Result, Ok, Err}
use Prim.Native.Nat.{ℕ, zero, suc, ◌+◌, ◌-◌, ◌<◌}
use mathlib.Core.Path.{◌≡◌, refl, sym, ap, ◌∙◌, subst}
use mathlib.Core.Logic.{◌⊎◌, inl, inr, ◌↔◌}
use mathlib.Core.List.{List, [], ◌∷◌}
use native.Mathlib.Omega.{arith}
use lib.ListN.{length, take, get_or}
use Rattle.questions.specs.declared.Answer.{Answer}
use Rattle.questions.specs.Claims.{Claim, Holds, test}
use Rattle.questions.specs.Answers.{answer}
use Rattle.questions.specs.Asking.{Asked, ◌else◌, asked_from, ◌then◌, first_of, first_in}
use Rattle.questions.specs.Reasons.{Lined, ◌at_line◌, lined_from, So, AllSo, FirstNo, place, length_reported, Reason, FoundAs}
use Rattle.questions.proofs.Tests.{decided, Holds-test, fails_test}

module _ {R : Type 0} where
  -- all that a question asks is so
  abbrev pub All : List (Asked R) → Type 0
  All [] = Unit
  All ((a else r) ∷ cs) = Holds a × All cs

  -- r stands at the first claim that is not so
  abbrev pub NoAt : List (Asked R) → R → Type 0
  NoAt [] r = ⊥
  NoAt ((a else r₀) ∷ cs) r = ((Holds a → ⊥) × (r₀ ≡ r)) ⊎ (Holds a × NoAt cs r)

  -- one question

  pub All-when_met : (cs : List (Asked R)) → first_of cs ≡ Ok tt → All cs
  unfolding first_of
  All-when_met [] e = tt
  All-when_met ((a else r) ∷ cs) e =
      elim (decided a) [
        | inl p ↦ (p.0, All-when_met cs (rw p.1 at e))
        | inr p ↦ let e' : Err r ≡ Ok tt = rw p.1 at e in let z : ◌≡◌ {A = ℕ} 0 1 = cc in absurd (omega arith)
      ]

  pub met_when_all : (cs : List (Asked R)) → All cs → first_of cs ≡ Ok tt
  unfolding first_of
  met_when_all [] h = refl
  met_when_all ((a else r) ∷ cs) h = rw (Holds-test a h.0) (met_when_all cs h.1)

  pub no_when_refused : (cs : List (Asked R)) (r : R) → first_of cs ≡ Err r → NoAt cs r
  unfolding first_of
  no_when_refused [] r e = let z : ◌≡◌ {A = ℕ} 0 1 = cc in absurd (omega arith)
  no_when_refused ((a else r₀) ∷ cs) r e =
      elim (decided a) [
        | inl p ↦ inr (p.0, no_when_refused cs r (rw p.1 at e))
        | inr p ↦ let e' : Err r₀ ≡ Err r = rw p.1 at e in inl (p.0, cc)
      ]

  pub refused_when_no : (cs : List (Asked R)) (r : R) → NoAt cs r → first_of cs ≡ Err r
  unfolding first_of
  refused_when_no [] r n = absurd n
  refused_when_no ((a else r₀) ∷ cs) r (inl p) = rw (fails_test a p.0) (ap Err p.1)
  refused_when_no ((a else r₀) ∷ cs) r (inr p) = rw (Holds-test a p.0) (refused_when_no cs r p.1)

  then_met : (f g : Result Unit R) → (f then g) ≡ Ok tt → (f ≡ Ok tt) × (g ≡ Ok tt)
  then_met (Ok tt) g e = (refl, e)
  then_met (Err r) g e = let z : ◌≡◌ {A = ℕ} 0 1 = cc in absurd (omega arith)

  then_refused : (f g : Result Unit R) (r : R) → (f then g) ≡ Err r → (f ≡ Err r) ⊎ ((f ≡ Ok tt) × (g ≡ Err r))
  then_refused (Ok tt) g r e = inr (refl, e)
  then_refused (Err r₀) g r e = inl e

  -- a question, and those behind it
  module _ (cs : List (Asked R)) (qs : List (List (Asked R))) where
    pub first_refuses : {r : R} → first_of cs ≡ Err r → first_in (cs ∷ qs) ≡ Err r
    unfolding first_in
    first_refuses e = rw e

    pub first_passes : first_of cs ≡ Ok tt → first_in (cs ∷ qs) ≡ first_in qs
    unfolding first_in
    first_passes e = rw e

  -- the first claim of a question: one that fails decides, one that holds passes on to the next
  module _ (a : Claim) (r : R) (cs : List (Asked R)) (qs : List (List (Asked R))) where
    pub fails_by : test a ≡ false → first_in (((a else r) ∷ cs) ∷ qs) ≡ Err r
    unfolding first_of first_in
    fails_by e = rw e

    pub passes_by : test a ≡ true → first_in (((a else r) ∷ cs) ∷ qs) ≡ first_in (cs ∷ qs)
    unfolding first_of first_in
    passes_by e = rw e

    pub fails : (Holds a → ⊥) → first_in (((a else r) ∷ cs) ∷ qs) ≡ Err r
    fails n = fails_by (fails_test a n)

    pub passes : Holds a → first_in (((a else r) ∷ cs) ∷ qs) ≡ first_in (cs ∷ qs)
    passes h = passes_by (Holds-test a h)

  pub next : (qs : List (List (Asked R))) → first_in ([] ∷ qs) ≡ first_in qs
  unfolding first_of first_in
  next qs = refl

  pub none_left : first_in {R = R} [] ≡ Ok tt
  unfolding first_in
  none_left = refl

-- Claims asked line by line, the first of them on this line: all are so, or one is the first that is not.
module _ {R : Type 0} (refuse : ℕ → R) (d : Claim) where
  pub All-asked : (line : ℕ) (cs : List Claim) → ((i : ℕ) → i < length cs → Holds (get_or cs i d)) → All (asked_from refuse line cs)
  unfolding asked_from
  All-asked line [] h = tt
  All-asked line (a ∷ cs) h = (h 0 (omega arith), All-asked (line + 1) cs (λ i inside. h (suc i) (omega arith)))

  pub each_asked : (line : ℕ) (cs : List Claim) → All (asked_from refuse line cs) → (i : ℕ) → i < length cs → Holds (get_or cs i d)
  unfolding asked_from
  each_asked line [] h i inside = absurd (omega arith)
  each_asked line (a ∷ cs) h zero inside = h.0
  each_asked line (a ∷ cs) h (suc i) inside = each_asked (line + 1) cs h.1 i (omega arith)

  pub record NoAmong (line : ℕ) (cs : List Claim) (r : R) : Type 0 where
    pub at : ℕ
    pub inside : at < length cs
    pub before : (i : ℕ) → i < at → Holds (get_or cs i d)
    pub here : Holds (get_or cs at d) → ⊥
    pub which : refuse (line + at) ≡ r

  pub no_among : (line : ℕ) (cs : List Claim) (r : R) → NoAt (asked_from refuse line cs) r → NoAmong line cs r
  unfolding asked_from
  no_among line [] r n = absurd n
  no_among line (a ∷ cs) r (inl p) =
      let here : line + 0 ≡ line = omega arith in
      record { at = 0; inside = omega arith; before = λ i below. absurd (omega arith); here = p.0; which = ap refuse here ∙ p.1 }
  no_among line (a ∷ cs) r (inr p) =
      let m = no_among (line + 1) cs r p.1 in
      let next : line + suc m.at ≡ line + 1 + m.at = omega arith in
      record { at = suc m.at; inside = omega (arith, m.inside); before = before_next p.0 m.before; here = m.here; which = ap refuse next ∙ m.which }
    where
      before_next : {k : ℕ} → Holds a → ((i : ℕ) → i < k → Holds (get_or cs i d)) → (i : ℕ) → i < suc k → Holds (get_or (a ∷ cs) i d)
      before_next h b zero below = h
      before_next h b (suc i) below = b i (omega arith)

  no_from : (line at : ℕ) (cs : List Claim) (r : R) → at < length cs → ((i : ℕ) → i < at → Holds (get_or cs i d)) → (Holds (get_or cs at d) → ⊥) → refuse (line + at) ≡ r
      → NoAt (asked_from refuse line cs) r
  unfolding asked_from
  no_from line at [] r inside b n e = absurd (omega arith)
  no_from line zero (a ∷ cs) r inside b n e = let here : line ≡ line + 0 = omega arith in inl (n, ap refuse here ∙ e)
  no_from line (suc at) (a ∷ cs) r inside b n e =
      let next : line + 1 + at ≡ line + suc at = omega arith in
      inr (b 0 (omega arith), no_from (line + 1) at cs r (omega arith) (λ i below. b (suc i) (omega arith)) n (ap refuse next ∙ e))

  pub no_asked : (line : ℕ) (cs : List Claim) (r : R) → NoAmong line cs r → NoAt (asked_from refuse line cs) r
  no_asked line cs r m = no_from line m.at cs r m.inside m.before m.here m.which

-- What is told. Each claim's refusal tells the question's number k, the claim's line and the length.
module _ {R : Type 0} (refusal_answer : R → Answer) (needed : ℕ) where
  abbrev telling : ℕ → ℕ → Answer
  telling k line = answer k line (length_reported needed k)

  abbrev pub Told : ℕ → List (Asked R) → List Lined → Type 0
  Told k [] [] = Unit
  Told k [] (l ∷ ls) = ⊥
  Told k (c ∷ cs) [] = ⊥
  Told k ((a else r) ∷ cs) ((b at_line l) ∷ ls) = (a ≡ b) × (refusal_answer r ≡ telling k l) × Told k cs ls

  -- the same of several questions, numbered from k on
  abbrev pub ToldFrom : ℕ → List (List (Asked R)) → List (List Lined) → Type 0
  ToldFrom k [] [] = Unit
  ToldFrom k [] (l ∷ ls) = ⊥
  ToldFrom k (cs ∷ qs) [] = ⊥
  ToldFrom k (cs ∷ qs) (l ∷ ls) = Told k cs l × ToldFrom (suc k) qs ls

  -- a claim to each line, where each refusal tells its line
  pub Told-lines : (k : ℕ) (refuse : ℕ → R) → ((l : ℕ) → refusal_answer (refuse l) ≡ telling k l) → (line : ℕ) (cs : List Claim)
      → Told k (asked_from refuse line cs) (lined_from line cs)
  unfolding asked_from lined_from
  Told-lines k refuse tells line [] = tt
  Told-lines k refuse tells line (a ∷ cs) = (refl, tells line, Told-lines k refuse tells (line + 1) cs)

  pub All-So : (k : ℕ) (cs : List (Asked R)) (ls : List Lined) → Told k cs ls → All cs ↔ So ls
  All-So k [] [] t = (λ h. tt, λ h. tt)
  All-So k [] (l ∷ ls) t = absurd t
  All-So k (c ∷ cs) [] t = absurd t
  All-So k ((a else r) ∷ cs) ((b at_line l) ∷ ls) t =
      let more = All-So k cs ls t.2 in
      (λ h. (subst Holds t.0 h.0, more.0 h.1), λ h. (subst Holds (sym t.0) h.0, more.1 h.1))

  -- the line and the answer at the first "no", and the other way round
  line_told : (k : ℕ) (cs : List (Asked R)) (ls : List Lined) (r : R) → Told k cs ls → NoAt cs r → (l : ℕ) × FirstNo ls l × (refusal_answer r ≡ telling k l)
  line_told k [] ls r t n = absurd n
  line_told k (c ∷ cs) [] r t n = absurd t
  line_told k ((a else r₀) ∷ cs) ((b at_line l) ∷ ls) r t (inl p) =
      (l, inl (λ h. p.0 (subst Holds (sym t.0) h), refl), ap refusal_answer (sym p.1) ∙ t.1)
  line_told k ((a else r₀) ∷ cs) ((b at_line l) ∷ ls) r t (inr p) =
      let m = line_told k cs ls r t.2 p.1 in
      (m.0, inr (subst Holds t.0 p.0, m.1), m.2)

  refusal_told : (k : ℕ) (cs : List (Asked R)) (ls : List Lined) (l : ℕ) → Told k cs ls → FirstNo ls l → (r : R) × NoAt cs r × (refusal_answer r ≡ telling k l)
  refusal_told k [] [] l t n = absurd n
  refusal_told k [] (m ∷ ls) l t n = absurd t
  refusal_told k (c ∷ cs) [] l t n = absurd t
  refusal_told k ((a else r) ∷ cs) ((b at_line m) ∷ ls) l t (inl p) =
      (r, inl (λ h. p.0 (subst Holds t.0 h), refl), t.1 ∙ ap (telling k) p.1)
  refusal_told k ((a else r) ∷ cs) ((b at_line m) ∷ ls) l t (inr p) =
      let x = refusal_told k cs ls l t.2 p.1 in
      (x.0, inr (subst Holds (sym t.0) p.0, x.1), x.2)

  -- no refusal is found exactly where all claims are so
  pub met_when_so : (k : ℕ) (qs : List (List (Asked R))) (ls : List (List Lined)) → ToldFrom k qs ls → (first_in qs ≡ Ok tt) ↔ AllSo ls
  unfolding first_in
  met_when_so k [] [] t = (λ e. tt, λ h. refl)
  met_when_so k [] (l ∷ ls) t = absurd t
  met_when_so k (cs ∷ qs) [] t = absurd t
  met_when_so k (cs ∷ qs) (l ∷ ls) t =
      let here = All-So k cs l t.0 in
      let more = met_when_so (suc k) qs ls t.1 in (
        λ e.
            let p = then_met (first_of cs) (first_in qs) e in
            (here.0 (All-when_met cs p.0), more.0 p.1),
        λ h. rw (met_when_all cs (here.1 h.0)) (more.1 h.1),
      )

  -- a refusal r at place i, on this line
  record At (k : ℕ) (ls : List (List Lined)) (r : R) (i : ℕ) (line : ℕ) : Type 0 where
    before : AllSo (take i ls)
    first : FirstNo (get_or ls i []) line
    tells : refusal_answer r ≡ telling (k + i) line

  At-when_refused : (k : ℕ) (qs : List (List (Asked R))) (ls : List (List Lined)) (r : R) → ToldFrom k qs ls → first_in qs ≡ Err r
      → (i : ℕ) × (line : ℕ) × At k ls r i line
  unfolding first_in
  At-when_refused k [] ls r t e = let z : ◌≡◌ {A = ℕ} 0 1 = cc in absurd (omega arith)
  At-when_refused k (cs ∷ qs) [] r t e = absurd t
  At-when_refused k (cs ∷ qs) (l ∷ ls) r t e =
      elim (then_refused (first_of cs) (first_in qs) r e) [
        | inl p ↦
            let m = line_told k cs l r t.0 (no_when_refused cs r p) in
            let here : k ≡ k + 0 = omega arith in
            (0, m.0, record { before = tt; first = m.1; tells = m.2 ∙ ap (λ (n : ℕ). telling n m.0) here })
        | inr p ↦
            let a = At-when_refused (suc k) qs ls r t.1 p.1 in
            let next : suc k + a.0 ≡ k + suc a.0 = omega arith in (
              suc a.0,
              a.1,
              record {
                before = ((All-So k cs l t.0).0 (All-when_met cs p.0), a.2.before);
                first = a.2.first;
                tells = a.2.tells ∙ ap (λ (n : ℕ). telling n a.1) next;
              },
            )
      ]

  refused_when_at : (k i : ℕ) (qs : List (List (Asked R))) (ls : List (List Lined)) (line : ℕ) → ToldFrom k qs ls → AllSo (take i ls) → FirstNo (get_or ls i []) line
      → FoundAs refusal_answer (first_in qs) (telling (k + i) line)
  unfolding first_in
  refused_when_at k i [] [] line t b n = absurd n
  refused_when_at k i [] (l ∷ ls) line t b n = absurd t
  refused_when_at k i (cs ∷ qs) [] line t b n = absurd t
  refused_when_at k zero (cs ∷ qs) (l ∷ ls) line t b n =
      let x = refusal_told k cs l line t.0 n in
      let here : k ≡ k + 0 = omega arith in
      record { what = x.0; found = rw (refused_when_no cs x.0 x.1); tells = x.2 ∙ ap (λ (n : ℕ). telling n line) here }
  refused_when_at k (suc i) (cs ∷ qs) (l ∷ ls) line t b n =
      let f = refused_when_at (suc k) i qs ls line t.1 b.1 n in
      let next : suc k + i ≡ k + suc i = omega arith in
      record {
        what = f.what;
        found = rw (met_when_all cs ((All-So k cs l t.0).1 b.0)) f.found;
        tells = f.tells ∙ ap (λ (n : ℕ). telling n line) next;
      }

  -- a refusal that tells a is found exactly where there is a reason for a
  module _ (k : ℕ) (qs : List (List (Asked R))) (ls : List (List Lined)) (t : ToldFrom k qs ls) where
    Reason-at : (i line : ℕ) → AllSo (take i ls) → FirstNo (get_or ls i []) line → Reason k ls needed (telling (k + i) line)
    Reason-at i line b n =
        let here : i ≡ k + i - k = omega arith in
        record {
          numbered = omega arith;
          before = subst (λ (n : ℕ). AllSo (take n ls)) here b;
          first = subst (λ (n : ℕ). FirstNo (get_or ls n []) line) here n;
          size = refl;
        }

    pub found_with_reason : (a : Answer) → FoundAs refusal_answer (first_in qs) a ↔ Reason k ls needed a
    found_with_reason a = (
      λ f.
          let at = At-when_refused k qs ls f.what t f.found in
          subst (Reason k ls needed) (sym at.2.tells ∙ f.tells) (Reason-at at.0 at.1 at.2.before at.2.first),
      λ h.
          let number : k + place k a ≡ a.refusal = omega (arith, h.numbered) in
          let f = refused_when_at k (place k a) qs ls a.line t h.before h.first in
          record {
            what = f.what;
            found = f.found;
            tells = f.tells ∙ ap (λ (n : ℕ). telling n a.line) number ∙ ap (answer a.refusal a.line) (sym h.size);
          },
    )
