-- `entries::Entries::enter_sheets` meets its contract.
use Prim.Native.Nat.{ℕ, ◌+◌}
use mathlib.Core.Bool.{true≢false}
use mathlib.Core.List.{List}
use mathlib.Core.Path.{◌≡◌, sym, ap, ◌∙◌}
use Rattle.std.specs.Prelude.{Result, Err}
use Rattle.std.proofs.lemmas.Bool.Decides.{Decides-eqb}
use Rattle.certificate.specs.declared.Refusal.{Refusal}
use Rattle.catalogue.specs.declared.ReportRefusal.{ReportRefusal}
use Rattle.catalogue.specs.declared.ReportRefusal.TheVariants.{Misspelt}
use Rattle.catalogue.specs.declared.judging.Row.{Row}
use Rattle.catalogue.specs.Catalogues.{certified}
use Rattle.catalogue.specs.Forms.{row_of, number_answered}
use Rattle.catalogue.proofs.EntryLoop.{Begun-none, all_spelt_right, all_counted_so, all_rows, number_below, count_below, row_room, stopped, entered_next}
use Rattle.catalogue.proofs.entries.Entries.enter_sheets.Goals as goal

-- what is judged of the sheet at a place, as the code numbers it
judged_at : {judged : Result Row Refusal} {i place : ℕ} {sheet p : List ℕ} → judged ≡ row_of (i + 1) (certified sheet) → i ≡ place → sheet ≡ p
    → judged ≡ row_of (place + 1) (certified p)
judged_at e k h = rw (sym k, sym h) e

pub loop-i-init : goal.loop-i-init
loop-i-init c =
    rw (c.into_iter-i-iterator.ensures.into_iter_gives, c.enumerate-i-items.ensures.source, c.enumerate-i-items.ensures.count)
    (Begun-none _ _ _ c.requires.no_counts c.requires.no_rows)

pub returns-then-is_misspelt-clause-finds : goal.returns-then-is_misspelt-clause-finds
returns-then-is_misspelt-clause-finds c =
    let h = c.in-Some.ensures.steps in
    let one = (Decides-eqb (number_answered c.judge-judged.result) 1).0 (sym c.is_misspelt.ensures ∙ c.if-is_misspelt.true) in
    ap {B = Result Unit ReportRefusal} (λ (n : ℕ). Err (Misspelt (n + 1))) h.1
    ∙ sym (stopped c.loop-i.invariant h.0.0 (judged_at c.judge-judged.ensures h.1 h.0.1) one)

pub enter-requires : goal.enter-requires
enter-requires c =
    let h = c.in-Some.ensures.steps in
    let e = judged_at c.judge-judged.ensures h.1 h.0.1 in
    record {
      number = number_below c.loop-i.invariant h.0.0 e;
      count_below = count_below c.loop-i.invariant h.0.0 e c.requires.few_sheets;
      room = row_room c.loop-i.invariant h.0.0 c.requires.few_sheets;
    }

pub loop-i-preserved : goal.loop-i-preserved
loop-i-preserved c =
    let h = c.in-Some.ensures.steps in
    let e = judged_at c.judge-judged.ensures h.1 h.0.1 in
    let number = number_answered c.judge-judged.result in
    let other : number ≡ 1 → ⊥ = λ one. true≢false (sym ((Decides-eqb number 1).1 one) ∙ sym c.is_misspelt.ensures ∙ c.if-is_misspelt.false) in
    rw (h.0.2, h.2) (entered_next c.loop-i.invariant h.0.0 e other c.enter.ensures.counts c.enter.ensures.rows)

pub returns : goal.returns
returns c =
    let i = c.loop-i.invariant in
    let done = c.in-None.ensures.steps.0 in
    record { finds = sym (all_spelt_right i done); counts = all_counted_so i done; rows = all_rows i done }
