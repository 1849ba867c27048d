-- What the ways of rounding keep, which code that takes one of them stands on. This need not be believed.
use Rattle.std.specs.Prelude.{ℕ, ◌+◌, ◌/◌, ◌%◌, ◌<◌, ◌≤◌, ◌≡◌, min}
use Rattle.std.proofs.Common.{arith, sym, zero-le}
use Rattle.std.proofs.Math.Nat.{add-zero, div-eq_of_lt-le, min-le_right}
use Rattle.std.proofs.lemmas.Grind.{div_ceil_times}
use Rattle.pair.specs.Rounding.{ceil_div}

-- n ÷ d rounded down
abbrev pub floor_div : ℕ → ℕ → ℕ
floor_div n d = n / d

-- to the whole part of a quotient what is left adds a number that is no larger
pub record RoundingLaws (over : ℕ → ℕ → ℕ) (added : ℕ → ℕ) : Type 0 where
  pub parts : (n d : ℕ) → 0 < d → over n d ≡ n / d + added (n % d)
  pub most : (rest : ℕ) → added rest ≤ rest

pub down_laws : RoundingLaws floor_div (λ rest. 0)
down_laws = record { parts = λ n d p. sym (add-zero (n / d)); most = λ rest. zero-le }

pub ceil_parts : (n d : ℕ) → 0 < d → ceil_div n d ≡ n / d + min 1 (n % d)
unfolding ceil_div
ceil_parts n d p =
    let both = div_ceil_times n d p in
    div-eq_of_lt-le d (omega (arith, both)) (omega (arith, both))

pub up_laws : RoundingLaws ceil_div (λ rest. min 1 rest)
up_laws = record { parts = ceil_parts; most = λ rest. min-le_right 1 rest }
