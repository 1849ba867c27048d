-- Roots with what is left over, one bit of the root after the other.
use mathlib.Core.Path.{◌≡◌, refl, sym, ap, ◌∙◌, subst}
use Prim.Native.Nat.{ℕ, zero, suc, ◌+◌, ◌-◌, ◌*◌, ◌≤◌, ◌<◌, min}
use native.Mathlib.Nat.{lt_of_not-le, not-le_of_lt, mul-le-mul}
use native.Mathlib.Omega.{arith}
use Rattle.pair.specs.Remainders.{SquareRooted, CubeRooted}
use Rattle.pair.specs.Rounding.{root_down, root_up}
use Rattle.pair.specs.Roots.{square_taken, cube_taken}
use Rattle.pair.specs.declared.roots.Square.{Square}
use Rattle.pair.specs.declared.roots.Cube.{Cube}
use Rattle.pair.proofs.Powers.{pow_two, pow_three, IsRoot, root_is, up_at, up_past}

-- what the code's roots hold
pub square_rooted : (t : Square) {n : ℕ} → square_taken t ≡ n → SquareRooted n t.root t.rest
square_rooted t e = record { sum = e; small = t.small }

pub cube_rooted : (t : Cube) {n : ℕ} → cube_taken t ≡ n → CubeRooted n t.root t.triple t.rest
cube_rooted t e = record { sum = e; small = t.small; triple = t.thrice }

-- the root of a number below b × b is below b
pub square_lt : (b : ℕ) {n r l : ℕ} → n < b * b → SquareRooted n r l → r < b
square_lt b {n} {r} h i = lt_of_not-le (λ (g : b ≤ r). not-le_of_lt h (omega (arith, i.sum, mul-le-mul g g)))

pub square_is_root : {n r l : ℕ} → SquareRooted n r l → IsRoot 2 n r
square_is_root {n} {r} {l} i = record { low = rw pow_two (omega (arith, i.sum)); high = rw pow_two (omega (arith, i.sum, i.small)) }

pub square_down : {n r l : ℕ} → SquareRooted n r l → r ≡ root_down 2 n
square_down i = root_is 1 (square_is_root i)

pub square_up_at : {n r l : ℕ} → SquareRooted n r l → l ≡ 0 → r ≡ root_up 2 n
square_up_at {n} {r} {l} i e = up_at 1 (rw pow_two (omega (arith, i.sum)))

pub square_up_past : {n r l : ℕ} → SquareRooted n r l → (l ≡ 0 → ⊥) → r + 1 ≡ root_up 2 n
square_up_past {n} {r} {l} i e = up_past 1 r (rw pow_two (omega (arith, i.sum))) (rw pow_two (omega (arith, i.sum, i.small)))

-- rounded up
pub square_rounded : {n r l : ℕ} → SquareRooted n r l → r + min l 1 ≡ root_up 2 n
square_rounded {n} {r} {l = zero} i = let e : r + min zero 1 ≡ r = omega arith in e ∙ square_up_at i refl
square_rounded {n} {r} {l = suc l} i = let e : r + min (suc l) 1 ≡ r + 1 = omega arith in e ∙ square_up_past i (λ z. cc)

-- the root of m + n, where d units more than the root of m reach it and d - 1 do not
pub square_up_by : (d n : ℕ) {m r l : ℕ} → SquareRooted m r l → 0 < d → (d - 1) * (r * 2 + (d - 1)) < n + l → n + l ≤ d * (r * 2 + 1) → r + d ≡ root_up 2 (m + n)
square_up_by (suc e) n {m} {r} {l} i p lo hi =
    let before : (suc e - 1) ≡ e = omega arith in
    let lo' : e * (r * 2 + e) < n + l = subst (λ (x : ℕ). x * (r * 2 + x) < n + l) before lo in
    let whole : r + e + 1 ≡ r + suc e = omega arith in
    sym whole ∙ up_past 1 (r + e) (rw pow_two (omega (arith, i.sum))) (rw pow_two (omega (arith, i.sum)))
square_up_by zero n i p lo hi = absurd (omega arith)

pub cube_lt : (b : ℕ) {n r w l : ℕ} → n < b * b * b → CubeRooted n r w l → r < b
cube_lt b {n} {r} h i = lt_of_not-le (λ (g : b ≤ r). not-le_of_lt h (omega (arith, i.sum, mul-le-mul (mul-le-mul g g) g)))

pub cube_is_root : {n r w l : ℕ} → CubeRooted n r w l → IsRoot 3 n r
cube_is_root {n} {r} {w} {l} i =
    record { low = rw pow_three (omega (arith, i.sum)); high = rw pow_three (omega (arith, i.sum, i.small, i.triple)) }

pub cube_down : {n r w l : ℕ} → CubeRooted n r w l → r ≡ root_down 3 n
cube_down i = root_is 2 (cube_is_root i)

pub cube_up_at : {n r w l : ℕ} → CubeRooted n r w l → l ≡ 0 → r ≡ root_up 3 n
cube_up_at {n} {r} {w} {l} i e = up_at 2 (rw pow_three (omega (arith, i.sum)))

pub cube_up_past : {n r w l : ℕ} → CubeRooted n r w l → (l ≡ 0 → ⊥) → r + 1 ≡ root_up 3 n
cube_up_past {n} {r} {w} {l} i e =
    up_past 2 r (rw pow_three (omega (arith, i.sum))) (rw pow_three (omega (arith, i.sum, i.small, i.triple)))

-- rounded up
pub cube_rounded : {n r w l : ℕ} → CubeRooted n r w l → r + min l 1 ≡ root_up 3 n
cube_rounded {n} {r} {w} {l = zero} i = let e : r + min zero 1 ≡ r = omega arith in e ∙ cube_up_at i refl
cube_rounded {n} {r} {w} {l = suc l} i = let e : r + min (suc l) 1 ≡ r + 1 = omega arith in e ∙ cube_up_past i (λ z. cc)

-- as `square_up_by`
pub cube_up_by : (d n : ℕ) {m r w l : ℕ} → CubeRooted m r w l → 0 < d → (d - 1) * (w + (d - 1) * (r * 3 + (d - 1))) < n + l → n + l ≤ d * (w + r * 3 + 1) → r + d ≡ root_up 3 (m + n)
cube_up_by (suc e) n {m} {r} {w} {l} i p lo hi =
    let before : (suc e - 1) ≡ e = omega arith in
    let lo' : e * (w + e * (r * 3 + e)) < n + l = subst (λ (x : ℕ). x * (w + x * (r * 3 + x)) < n + l) before lo in
    let whole : r + e + 1 ≡ r + suc e = omega arith in
    let triple : e * w ≡ e * (3 * (r * r)) = ap (λ (x : ℕ). e * x) i.triple in
    sym whole ∙ up_past 2 (r + e) (rw pow_three (omega (arith, i.sum))) (rw pow_three (omega (arith, i.sum, i.triple)))
cube_up_by zero n i p lo hi = absurd (omega arith)

-- the same number written otherwise
pub square_restated : {n n' r l : ℕ} → n ≡ n' → SquareRooted n r l → SquareRooted n' r l
square_restated e i = record { sum = i.sum ∙ e; small = i.small }

pub cube_restated : {n n' r w l : ℕ} → n ≡ n' → CubeRooted n r w l → CubeRooted n' r w l
cube_restated e i = record { sum = i.sum ∙ e; small = i.small; triple = i.triple }

-- a digit x more of a number of which n is taken in
pub square_digit : {n r l : ℕ} (x : ℕ) {n' r' l' : ℕ} → SquareRooted n r l → n * 4 + x ≡ n' → r' * r' + l' ≡ (r * r + l) * 4 + x → l' ≤ 2 * r' → SquareRooted n' r' l'
square_digit x i e j s = record { sum = j ∙ ap (λ (y : ℕ). y * 4 + x) i.sum ∙ e; small = s }

pub cube_digit : {n r w l : ℕ} (x : ℕ) {n' r' w' l' : ℕ} → CubeRooted n r w l → n * 8 + x ≡ n' → r' * r' * r' + l' ≡ (r * r * r + l) * 8 + x
    → l' ≤ w' + 3 * r' → w' ≡ 3 * (r' * r') → CubeRooted n' r' w' l'
cube_digit x i e j s w = record { sum = j ∙ ap (λ (y : ℕ). y * 8 + x) i.sum ∙ e; small = s; triple = w }
