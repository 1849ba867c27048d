-- Quotients and roots with what is left over, as the working of a wide quotient and of a root holds them.
use Rattle.std.specs.Prelude.{◌≡◌, ℕ, ◌+◌, ◌*◌, ◌≤◌, ◌<◌}

-- n by d is q, and r is left
pub record Split (n d q r : ℕ) : Type 0 where
  pub sum : q * d + r ≡ n
  pub small : r < d

-- the square root of n is r, and l is left
pub record SquareRooted (n r l : ℕ) : Type 0 where
  pub sum : r * r + l ≡ n
  pub small : l ≤ 2 * r

-- the cube root of n is r, and l is left; w is 3 × r × r
pub record CubeRooted (n r w l : ℕ) : Type 0 where
  pub sum : r * r * r + l ≡ n
  pub small : l ≤ w + 3 * r
  pub triple : w ≡ 3 * (r * r)
