-- One bit more of a root: what the number is that it has taken in then.
use Rattle.std.specs.Prelude.{ℕ, ◌+◌, ◌-◌, ◌*◌, ◌≡◌, ◌≤◌}
use Rattle.std.proofs.Common.{arith}

pub square_one : (r l d : ℕ) → r * 4 + 1 ≤ l * 4 + d → (r * 2 + 1) * (r * 2 + 1) + (l * 4 + d - (r * 4 + 1)) ≡ (r * r + l) * 4 + d
square_one r l d h = grind (arith, h)

pub square_none : (r l d : ℕ) → r * 2 * (r * 2) + (l * 4 + d) ≡ (r * r + l) * 4 + d
square_none r l d = grind arith

pub cube_one : (r w l d : ℕ) → w ≡ 3 * (r * r) → w * 4 + r * 6 + 1 ≤ l * 8 + d
    → (r * 2 + 1) * (r * 2 + 1) * (r * 2 + 1) + (l * 8 + d - (w * 4 + r * 6 + 1)) ≡ (r * r * r + l) * 8 + d
cube_one r w l d e h = grind (arith, e, h)

pub cube_none : (r l d : ℕ) → r * 2 * (r * 2) * (r * 2) + (l * 8 + d) ≡ (r * r * r + l) * 8 + d
cube_none r l d = grind arith

pub triple_one : (r w : ℕ) → w ≡ 3 * (r * r) → w * 4 + r * 12 + 3 ≡ 3 * ((r * 2 + 1) * (r * 2 + 1))
triple_one r w e = grind (arith, e)

pub triple_none : (r w : ℕ) → w ≡ 3 * (r * r) → w * 4 ≡ 3 * (r * 2 * (r * 2))
triple_none r w e = grind (arith, e)

pub ruleset square_steps = (square_one, square_none)

pub ruleset cube_steps = (cube_one, cube_none, triple_one, triple_none)
