-- The fifteenth question, both ways: all sheets meet the first question of a sheet, or one is the first that does not.
use Rattle.std.specs.Prelude.{Ok, Err}
use Prim.Native.Nat.{ℕ, zero, suc, ◌+◌, ◌-◌, ◌≤◌, ◌<◌}
use mathlib.Core.List.{List, [], map}
use mathlib.Core.Logic.{◌⊎◌, inl, inr, ◌↔◌}
use mathlib.Core.Path.{◌≡◌, refl, sym, ap, ◌∙◌, subst}
use native.Mathlib.Omega.{arith}
use lib.ListN.{length, get_or, get_or-map, length-map}
use Rattle.questions.specs.Claims.{Claim, Holds}
use Rattle.questions.specs.Asking.{first_of}
use Rattle.questions.proofs.Laws.{All-when_met, met_when_all, no_when_refused, refused_when_no, All-asked, each_asked, no_among, no_asked}
use Rattle.lines.specs.Texts.{longest}
use Rattle.certificate.specs.Keys.{certificate_fields}
use Rattle.certificate.proofs.Laws.{fails_first, meets_first}
use Rattle.catalogue.specs.declared.ReportRefusal.{ReportRefusal}
use Rattle.catalogue.specs.declared.ReportRefusal.TheVariants.{Misspelt}
use Rattle.catalogue.specs.Catalogues.{certified, number_of}
use Rattle.catalogue.specs.Outcome.{spelt, question15}
use Rattle.catalogue.specs.Promises.{Spelt, Unspelt, sheet_at, AllSpelt, FirstAt}
use Rattle.catalogue.proofs.EntryLaws.{spelt_holds}

-- One sheet: what is claimed of its number.
number_other : (n : ℕ) → (n ≡ 0) ⊎ (2 ≤ n) → n ≡ 1 → ⊥
number_other n (inl z) e = omega arith
number_other n (inr m) e = omega arith

number_one : (n : ℕ) → ((n ≡ 0) ⊎ (2 ≤ n) → ⊥) → n ≡ 1
number_one zero h = absurd (h (inl refl))
number_one (suc zero) h = refl
number_one (suc (suc n)) h = absurd (h (inr (omega arith)))

module _ (p : List ℕ) where
  pub not_one : Spelt p → number_of p ≡ 1 → ⊥
  unfolding number_of certified
  not_one s = (meets_first p (longest certificate_fields)).1 (s.sheet, s.question1)

  pub spelt_is : Holds (spelt p) ↔ Spelt p
  unfolding number_of certified
  spelt_is = (
    λ h. let q = (meets_first p (longest certificate_fields)).0 (number_other (number_of p) h) in record { sheet = q.0; question1 = q.1 },
    λ s. spelt_holds (number_of p) (not_one s),
  )

  pub Unspelt-is : (Holds (spelt p) → ⊥) ↔ Unspelt p
  unfolding number_of certified
  Unspelt-is = (
    λ n. let b = (fails_first p (longest certificate_fields)).0 (number_one (number_of p) n) in record { line = b.0; bad = b.1 },
    λ u h. number_other (number_of p) h ((fails_first p (longest certificate_fields)).1 (u.line, u.bad)),
  )

-- Several sheets.
module _ (ps : List (List ℕ)) where
  abbrev claims : List Claim
  claims = map spelt ps

  claimed : (i : ℕ) → Holds (get_or claims i (spelt [])) ↔ Spelt (get_or ps i [])
  claimed i = let h = spelt_is (get_or ps i []) in (λ c. h.0 (subst Holds (get_or-map spelt ps i []) c), λ s. subst Holds (sym (get_or-map spelt ps i [])) (h.1 s))

  -- sheet i stands at place i + 1
  pub at_index : (i : ℕ) → sheet_at ps (suc i) ≡ get_or ps i []
  at_index i = let same : suc i - 1 ≡ i = omega arith in ap (λ (k : ℕ). get_or ps k []) same

  pub all_spelt : (first_of (question15 ps) ≡ Ok tt) ↔ AllSpelt ps
  unfolding question15
  all_spelt = (
    λ e. record {
      each = λ place h. (claimed (place - 1)).0 (each_asked Misspelt (spelt []) 1 claims (All-when_met (question15 ps) e) (place - 1) (omega (arith, h.0, h.1, length-map ps spelt)));
    },
    λ h.
        met_when_all (question15 ps)
        (All-asked Misspelt (spelt []) 1 claims
        (λ i inside. (claimed i).1 (subst Spelt (at_index i) (h.each (suc i) (omega arith, omega (arith, inside, length-map ps spelt)))))),
  )

  -- so `write` answers none of them with 1
  pub none_misspelt : AllSpelt ps → (i : ℕ) → i < length ps → number_of (get_or ps i []) ≡ 1 → ⊥
  none_misspelt s i inside = not_one (get_or ps i []) (subst Spelt (at_index i) (s.each (suc i) (omega arith, omega arith)))

  -- the first that does not, at its place
  pub first_found : {r : ReportRefusal} → first_of (question15 ps) ≡ Err r → (place : ℕ) × FirstAt ps place × (r ≡ Misspelt place)
  unfolding question15
  first_found {r} e =
      let m = no_among Misspelt (spelt []) 1 claims r (no_when_refused (question15 ps) r e) in
      let i = m.at in
      let next : 1 + i ≡ suc i = omega arith in (
        suc i,
        record {
          within = (omega arith, omega (arith, m.inside, length-map ps spelt));
          before = λ k one below. (claimed (k - 1)).0 (m.before (k - 1) (omega arith));
          here = subst Unspelt (sym (at_index i)) ((Unspelt-is (get_or ps i [])).0 (λ h. m.here (subst Holds (sym (get_or-map spelt ps i [])) h)));
        },
        sym m.which ∙ ap Misspelt next,
      )

  pub first_told : (place : ℕ) → FirstAt ps place → first_of (question15 ps) ≡ Err (Misspelt place)
  unfolding question15
  first_told place f =
      let i = place - 1 in
      let next : 1 + i ≡ place = omega (arith, f.within.0) in
      refused_when_no (question15 ps) (Misspelt place)
      (no_asked Misspelt (spelt []) 1 claims (Misspelt place) (record {
        at = i;
        inside = omega (arith, f.within.0, f.within.1, length-map ps spelt);
        before = λ k below. (claimed k).1 (subst Spelt (at_index k) (f.before (suc k) (omega arith) (omega (arith, below))));
        here = λ h. (Unspelt-is (get_or ps i [])).1 f.here (subst Holds (get_or-map spelt ps i []) h);
        which = ap Misspelt next;
      }))
