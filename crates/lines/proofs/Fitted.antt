-- A text that is written if it fits, as questions tell it over any refusals.
use Rattle.std.specs.Prelude.{Result, Ok, Err, nat_le}
use Prim.Native.Nat.{ℕ}
use mathlib.Core.Bool.{cond}
use mathlib.Core.List.{List}
use mathlib.Core.Path.{◌≡◌, sym, ap, ◌∙◌}
use native.Mathlib.Omega.{arith}
use borrow.Author.Tests.{leb-true, leb-false}
use lib.ListN.{length}
use Rattle.questions.specs.Buffers.{over}
use Rattle.questions.specs.Outcomes.{length_in, buffer_in, fitted}
use Rattle.questions.proofs.Laws.{fits, too_long, length_refused, length_written, buffer_refused, buffer_written}
use Rattle.lines.specs.declared.texts.TooShort.{TooShort}
use Rattle.lines.specs.Fitting.{fitted as fitted·text, buffer_fitted}
use Rattle.questions.proofs.Laws.{by_test}

not_both : {A E : Type 0} {x : A} {e : E} → ◌≡◌ {A = Result A E} (Ok x) (Err e) → ⊥
not_both h = let z : ◌≡◌ {A = ℕ} 0 1 = cc in omega arith

-- What a refusal says of the length that is needed; the text; the buffer.
module _ {R : Type 0} (short : ℕ → R) (t b : List ℕ) where
  pub buffer_as_told : buffer_fitted t b ≡ buffer_in (λ room. fitted short room t) b
  buffer_as_told =
      by_test (nat_le (length t) (length b)) (λ c. cond c (over t b) b ≡ buffer_in (λ room. fitted short room t) b)
      (λ e. sym (buffer_written b (fits short (length b) t (leb-true (length t) (length b) e))))
      (λ e. sym (buffer_refused b (too_long short (length b) t (leb-false (length t) (length b) e))))

  pub written_as_told : {n : ℕ} → fitted·text (length b) t ≡ Ok n → length_in (λ room. fitted short room t) b ≡ Ok n
  written_as_told {n} =
      by_test (nat_le (length t) (length b)) (λ c. cond {A = Result ℕ TooShort} c (Ok (length t)) (Err (record { 0 = length t })) ≡ Ok n → length_in (λ room. fitted short room t) b ≡ Ok n)
      (λ g e. let is : length t ≡ n = cc in length_written (fits short (length b) t (leb-true (length t) (length b) g)) ∙ ap Ok is)
      (λ g e. absurd (not_both (sym e)))

  pub refused_as_told : {e : TooShort} → fitted·text (length b) t ≡ Err e → length_in (λ room. fitted short room t) b ≡ Err (short e.0)
  refused_as_told {e} =
      by_test (nat_le (length t) (length b)) (λ c. cond {A = Result ℕ TooShort} c (Ok (length t)) (Err (record { 0 = length t })) ≡ Err e → length_in (λ room. fitted short room t) b ≡ Err (short e.0))
      (λ g h. absurd (not_both h))
      (λ g h. length_refused (too_long short (length b) t (leb-false (length t) (length b) g)) ∙ (let is : e ≡ record { 0 = length t } = cc in ap (λ (x : TooShort). Err (short x.0)) (sym is)))
