-- What is answered for a bad line.
use Prim.Native.Nat.{ℕ}
use mathlib.Core.Path.{◌≡◌, sym, ap, ◌∙◌}
use native.Mathlib.Omega.{arith}
use Rattle.questions.specs.declared.Answer.{Answer}
use Rattle.questions.specs.Answers.{answer}
use Rattle.questions.specs.Reasons.{Refuses}

pub misspelt_refuses : {x a : Answer} {l : ℕ} → x ≡ answer 1 l 0 → a ≡ answer 1 l 0 → Refuses x a
misspelt_refuses e g = record { is = e ∙ sym g; number = omega (arith, ap (λ (y : Answer). y.refusal) g) }
