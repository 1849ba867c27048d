-- What a lookup answers, within the table's ratios and outside them.
use Prim.Native.Nat.{ℕ, ◌+◌, ◌-◌, ◌*◌, ◌/◌, ◌≤◌, ◌<◌}
use mathlib.Core.List.{List}
use mathlib.Core.Logic.{inl}
use mathlib.Core.Path.{◌≡◌, refl, sym, ap, ◌∙◌}
use native.Mathlib.Omega.{arith}
use lib.Dec.{lit<}
use lib.ListN.{get_or}
use Rattle.pair.proofs.Numbers.{ceil_le, le_ceil}
use Rattle.std.specs.Prelude.{Result, Ok, Err}
use Rattle.questions.specs.Asking.{first_of}
use Rattle.questions.specs.Answers.{answer}
use Rattle.questions.proofs.Laws.{met_when_all, refused_when_no}
use Rattle.lip_table.specs.declared.Coefficient.{Coefficient}
use Rattle.lip_table.specs.declared.entries.Entry.{Entry}
use Rattle.lip_table.specs.declared.LipRefusal.{LipRefusal}
use Rattle.lip_table.specs.declared.LipRefusal.TheVariants.{Ratio}
use Rattle.lip_table.specs.Tables.{least_ratio, most_ratio, step, entry_count, entry_below, entry_above, ends}
use Rattle.lip_table.specs.Forms.{table_entries}
use Rattle.lip_table.specs.Outcome.{lip_answer, question16, told_with, told, ends_if, found_ends, coefficient_at}
use Rattle.lip_table.proofs.Places.{lower_at, upper_at}

-- what is answered where these ends are found, or this refusal
abbrev told_by : Result (ℕ × ℕ) LipRefusal → Coefficient
told_by (Ok p) = told_with (answer 0 0 0) p.0 p.1
told_by (Err r) = told_with (lip_answer r) 0 0

module _ (ratio : ℕ) where
  -- how far the entry at or below, and the one at or above, can be off
  pub below_near : (entry_below ratio * step ≤ ratio - least_ratio) × (ratio - least_ratio < entry_below ratio * step + step)
  unfolding entry_below
  below_near = (omega arith, omega arith)

  pub above_near : (ratio - least_ratio ≤ entry_above ratio * step) × (entry_above ratio * step < ratio - least_ratio + step)
  unfolding entry_above
  above_near =
      let n = ratio - least_ratio in
      let most = ceil_le {n = n} {d = step} {x = (n + 999) / step} (lit< tt) (omega arith) in
      (omega (arith, le_ceil {n = n} {d = step} (lit< tt)), omega (arith, most))

  found_inside : least_ratio ≤ ratio → ratio ≤ most_ratio → first_of (question16 ratio) ≡ Ok tt
  found_inside l h = met_when_all (question16 ratio) ((l, h), tt)

  found_outside : ((least_ratio ≤ ratio) × (ratio ≤ most_ratio) → ⊥) → first_of (question16 ratio) ≡ Err Ratio
  found_outside n = refused_when_no (question16 ratio) Ratio (inl (n, refl))

  pub told_inside : least_ratio ≤ ratio → ratio ≤ most_ratio → coefficient_at ratio ≡ told_with (answer 0 0 0) (ends ratio).lo (ends ratio).hi
  unfolding told coefficient_at
  told_inside l h = ap (told ratio) (found_inside l h)

  pub told_outside : ((least_ratio ≤ ratio) × (ratio ≤ most_ratio) → ⊥) → coefficient_at ratio ≡ told_with (lip_answer Ratio) 0 0
  unfolding told coefficient_at
  told_outside n = ap (told ratio) (found_outside n)

  -- by the code's entries, at the places of these, the question being met
  pub ends_found : {t : List Entry} {below above : ℕ} (d : Entry) → least_ratio ≤ ratio → ratio ≤ most_ratio → t ≡ table_entries
      → below ≡ entry_below ratio → above ≡ entry_above ratio → below < entry_count → above < entry_count → Ok ((get_or t below d).0, (get_or t above d).1) ≡ found_ends ratio
  unfolding ends
  ends_found {t} {below} {above} d l h e eb ea b a = rw (found_inside l h, lower_at d e below b, upper_at d e above a, eb, ea)

  -- the answer that goes with the ends, or with the refusal
  by_found : (f : Result Unit LipRefusal) → told_by (ends_if f ratio) ≡ told ratio f
  unfolding told
  by_found (Ok u) = refl
  by_found (Err r) = refl

  pub told_of_ends : {p : ℕ × ℕ} → found_ends ratio ≡ Ok p → told_with (answer 0 0 0) p.0 p.1 ≡ coefficient_at ratio
  unfolding coefficient_at
  told_of_ends e = ap told_by (sym e) ∙ by_found (first_of (question16 ratio))

  pub told_of_refusal : {r : LipRefusal} → found_ends ratio ≡ Err r → told_with (lip_answer r) 0 0 ≡ coefficient_at ratio
  unfolding coefficient_at
  told_of_refusal e = ap told_by (sym e) ∙ by_found (first_of (question16 ratio))
