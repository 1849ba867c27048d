-- Rounding to a whole unit, down and up: quotients and roots. (docs/WORKING.md, 3.)
use Rattle.std.specs.Prelude.{ℕ, zero, suc, ◌+◌, ◌-◌, ◌*◌, ◌/◌, ◌^◌, cond, leb}

-- n ÷ d rounded up; rounded down it is n / d
unfoldable pub ceil_div : ℕ → ℕ → ℕ
ceil_div n d = (n + (d - 1)) / d

-- r + 1 where its e-th power is at most n, else r
unfoldable pub next_root : ℕ → ℕ → ℕ → ℕ
next_root e n r = cond (leb ((r + 1) ^ e) n) (r + 1) r

-- the root of n / 2 ^ e doubled, and perhaps one more: one bit of the root for each step, of which there are at most `steps`
unfoldable pub root_in : ℕ → ℕ → ℕ → ℕ
unfolding next_root
root_in zero e n = 0
root_in (suc steps) e zero = 0
root_in (suc steps) e (suc n) = next_root e (suc n) (2 * root_in steps e (suc n / 2 ^ e))

-- the e-th root of n rounded down: the r with r ^ e ≤ n < (r + 1) ^ e (proofs/Powers, `down_is_root`: n steps are always enough)
unfoldable pub root_down : ℕ → ℕ → ℕ
unfolding root_in
root_down e n = root_in n e n

-- the e-th root of n rounded up: the least r with n ≤ r ^ e
unfoldable pub root_up : ℕ → ℕ → ℕ
unfolding root_down
root_up e n = let r = root_down e n in cond (leb n (r ^ e)) r (r + 1)
