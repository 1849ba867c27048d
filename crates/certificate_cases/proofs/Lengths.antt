-- A certificate that is written fits a buffer of the longest.
use Rattle.std.proofs.Common.{◌≡◌, ℕ, ◌≤◌, List, length, Ok, arith, refl, length-take-le}
use Rattle.std.specs.declared.result.Result.{Result}
use Rattle.questions.specs.Outcomes.{Outcome, refused, written, length_of, length_in}
use Rattle.certificate.specs.declared.Refusal.{Refusal}
use Rattle.certificate.specs.Outcome.{outcome}
use Rattle.certificate.proofs.Laws.{longest_certificate}
use Rattle.certificate.proofs.Promises.{sheet_length}

within : (s : List ℕ) (room : ℕ) (o : Outcome Refusal) → outcome s room ≡ o → {n : ℕ} → ◌≡◌ {A = Result ℕ Refusal} (Ok n) (length_of o) → n ≤ 289
within s room (written c) e {n} h = let same : n ≡ length c = cc in omega (arith, sheet_length s room c e, longest_certificate)
within s room (refused r) e h = cc

pub certified_length : (s b : List ℕ) {n : ℕ} → ◌≡◌ {A = Result ℕ Refusal} (Ok n) (length_in (outcome s) b) → n ≤ 289
certified_length s b = within s (length b) (outcome s (length b)) refl

-- so does what is lent of the buffer
pub ruleset lent = (certified_length, length-take-le)
