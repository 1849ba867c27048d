-- The working of a section, in document 01's order and with its symbols, one definition for each formula, as document 02 amends it
-- (W-201: kf; W-204: the scale; W-205: the smaller χ).
-- docs/WORKING.md has the same in words; the numbers in brackets are its sections.
-- n is the fineness: the scale S is n × 1,000,000. At a sheet's own n (`fineness` of specs/Sheets) this is its working, and at m × n the same paper with S
-- replaced by m × S.
use Rattle.std.specs.Prelude.{ℕ, zero, suc, ◌-◌, ◌*◌, ◌/◌, min, max, cond, leb, ltb}
use Rattle.pair.specs.Rounding.{ceil_div}
use Rattle.pair.specs.Pairs.{◌to◌, ratio, plus, minus, times, over, root, cube_root, smaller}
use Rattle.pair.specs.SignedPairs.{SignedPair, signed, difference, signed_plus, signed_minus, signed_times, signed_over}
use Rattle.pair.specs.declared.Pair.{Pair}
use Rattle.section.specs.declared.Flange.{Flange}
use Rattle.section.specs.declared.Common.{Common}
use Rattle.section.specs.declared.Member.{Member}
use Rattle.section.specs.declared.Stiffener.{Stiffener}
use Rattle.section.specs.declared.RefinedFlange.{RefinedFlange}
use Rattle.pair.specs.declared.Both.{Both}
use Rattle.section.specs.declared.Sheet.{Sheet}
use Rattle.section.specs.declared.MidLines.{MidLines}
use Rattle.section.specs.declared.EffectiveFlange.{EffectiveFlange}
use Rattle.section.specs.declared.EffectiveParts.{EffectiveParts}

infixl 6 ◌⊕◌
abbrev pub ◌⊕◌ : Pair → Pair → Pair
p ⊕ q = plus p q

infixl 6 ◌⊖◌
abbrev pub ◌⊖◌ : Pair → Pair → Pair
p ⊖ q = minus p q

infixl 6 ◌⊞◌
abbrev pub ◌⊞◌ : SignedPair → Pair → SignedPair
a ⊞ p = signed_plus a (signed p)

-- what a working gives
pub record Worked : Type 0 where
  pub area : Pair
  pub χ₁ : Pair
  pub χ₂ : Pair
  pub z : SignedPair
  pub gross_z : SignedPair
  pub shift : SignedPair

-- what counts of a flange, from the first working and the last: be1 is that of the first and stays
abbrev pub effective_flange : RefinedFlange → RefinedFlange → EffectiveFlange
effective_flange first last = record { be1 = first.stiffener.be2; stiffener = last.stiffener; chi = last.chi }

module _ (n : ℕ) where
  abbrev pub scale_of : ℕ
  scale_of = n * 1000000

  -- the exact value a ÷ b, as 0.83 = constant 83 100, and how many units of 1/S it is
  abbrev pub constant : ℕ → ℕ → Pair
  constant a b = ratio scale_of a b

  abbrev pub whole : ℕ → Pair
  whole a = constant a 1

  abbrev pub units : ℕ → ℕ → ℕ
  units a b = a * scale_of / b

  infixl 7 ◌⊗◌
  abbrev pub ◌⊗◌ : Pair → Pair → Pair
  p ⊗ q = times scale_of p q

  infixl 7 ◌⊘◌
  abbrev pub ◌⊘◌ : Pair → Pair → Pair
  p ⊘ q = over scale_of p q

  -- Widths and slenderness ----------------------------------------------------------------------------------------------

  -- a length of the sheet, in 0.01 mm (2)
  abbrev pub mm : ℕ → Pair
  mm v = constant v 100

  -- hp = h − tnom, bp1 = b1 − tnom, bp2 = b2 − tnom: mid-line lengths, from the nominal thickness (4)
  unfoldable pub mid_line : ℕ → ℕ → Pair
  mid_line w tnom = mm w ⊖ mm tnom

  -- cp = c − tnom/2 (4)
  unfoldable pub lip_line : ℕ → ℕ → Pair
  lip_line c tnom = mm c ⊖ mm tnom ⊘ whole 2

  -- u² of a plane of width w and buckling coefficient k, from the core thickness t; the quotient w÷t is rounded once (5)
  unfoldable pub u² : Pair → Pair → Pair → Pair → Pair
  u² t fyb k w = let r = w ⊘ t in r ⊗ r ⊗ fyb ⊘ constant 1895416 10 ⊘ k

  -- ρ, the part of the width that counts, at one end: 1 up to a limit, else the smaller of 1 and (u − less)/u², the quotient rounded down or up (6, 7)
  unfoldable pub ρ_at : (ℕ → ℕ → ℕ) → ℕ → ℕ → ℕ → ℕ
  ρ_at quotient limit less u = cond (leb u limit) scale_of (min scale_of (quotient ((u - less) * (scale_of * scale_of)) (u * u)))

  -- at the ends: ρ falls, so its lower end comes from the upper end of u (3)
  unfoldable pub ρ : ℕ → ℕ → Pair → Pair
  ρ limit less u = ρ_at ◌/◌ limit less u.hi to ρ_at ceil_div limit less u.lo

  -- web and flanges: ρ = 1 for u ≤ 0.673, else (u − 0.22)/u² (6)
  unfoldable pub ρ_plane : Pair → Pair
  ρ_plane u = ρ (units 673 1000) (units 22 100) u

  -- lip: ρ = 1 for u ≤ 0.748, else (u − 0.188)/u² (7)
  unfoldable pub ρ_lip : Pair → Pair
  ρ_lip u = ρ (units 748 1000) (units 188 1000) u

  -- k of the lip past q = 0.35: 0.5 + 0.83 × cube root of ((q − 0.35)×(q − 0.35)) (7)
  unfoldable pub k_past : Pair → Pair
  k_past q = let d = q ⊖ constant 35 100 in constant 1 2 ⊕ constant 83 100 ⊗ cube_root scale_of (d ⊗ d)

  -- k at one value of q = cp÷bp: 0.5 for q ≤ 0.35
  unfoldable pub k_at : ℕ → Pair
  k_at q = cond (leb q (units 35 100)) (constant 1 2) (k_past (q to q))

  -- worked end by end: k rises with q
  unfoldable pub k : Pair → Pair
  k q = (k_at q.lo).lo to (k_at q.hi).hi

  -- Stiffener of each flange --------------------------------------------------------------------------------------------

  -- 0.5×ρ×w: be1 and be2 of a flange, he of the web (6)
  unfoldable pub half_kept : Pair → Pair → Pair
  half_kept r w = constant 1 2 ⊗ r ⊗ w

  -- t and fyb, exact
  abbrev pub core : Common → Pair
  core y = mm y.steel.t.0

  abbrev pub strength : Common → Pair
  strength y = whole y.steel.fyb

  -- a flange of mid-line width bp with its lip cp: u² of each at full thickness
  unfoldable pub flange_of : Pair → Pair → Pair → Pair → Flange
  flange_of t fyb cp bp = record { bp = bp; plane = u² t fyb (whole 4) bp; lip = u² t fyb (k (cp ⊘ bp)) cp }

  -- be2, c_eff and a = be2 + c_eff, where u² of flange and lip is multiplied by the χ of the round before, 1 in the first (8, 10)
  unfoldable pub stiffener_of : Pair → Flange → Pair → Stiffener
  stiffener_of cp f χ₀ =
      let be2 = half_kept (ρ_plane (root scale_of (f.plane ⊗ χ₀))) f.bp in
      let c = ρ_lip (root scale_of (f.lip ⊗ χ₀)) ⊗ cp in
      record { be2 = be2; c = c; a = be2 ⊕ c }

  -- g = bp − be2×be2÷(2×a) (8, up to ud)
  unfoldable pub g : Pair → Stiffener → Pair
  g bp s = bp ⊖ s.be2 ⊗ s.be2 ⊘ (whole 2 ⊗ s.a)

  -- J = be2×t×t÷12 + c_eff×c_eff×c_eff÷12 + c_eff×c_eff×c_eff×be2÷(4×a)
  unfoldable pub inertia_of : Pair → Stiffener → Pair
  inertia_of t s =
      let c³ = s.c ⊗ s.c ⊗ s.c in
      s.be2 ⊗ t ⊗ t ⊘ whole 12 ⊕ c³ ⊘ whole 12 ⊕ c³ ⊗ s.be2 ⊘ (whole 4 ⊗ s.a)

  -- T = fyb×a÷t÷210
  unfoldable pub stress_of : Pair → Pair → Stiffener → Pair
  stress_of t fyb s = fyb ⊗ s.a ⊘ t ⊘ whole 210

  -- kf of a flange, from its own stiffener and the other's: for flange 1 a of flange 2 ÷ a of flange 1, for flange 2 a of flange 1 ÷ a of flange 2 (W-201)
  unfoldable pub kf : Stiffener → Stiffener → Pair
  kf own other = other.a ⊘ own.a

  -- D = g×g×hp + g×g×g + 0.5×g×o×hp×kf, o being the other flange's g
  unfoldable pub flexibility_of : Pair → Pair → Pair → Pair → Pair
  flexibility_of hp kf g o = g ⊗ g ⊗ hp ⊕ g ⊗ g ⊗ g ⊕ constant 1 2 ⊗ g ⊗ o ⊗ hp ⊗ kf

  -- ud, the stiffener's slenderness: the root of the root of D÷J×T×T×0.91÷1000000
  abbrev pub ud⁴ : Pair → Pair → Pair → Pair
  ud⁴ D J T = D ⊘ J ⊗ T ⊗ T ⊗ constant 91 100 ⊘ whole 1000000

  unfoldable pub ud : Pair → Pair → Pair → Pair
  ud D J T = root scale_of (root scale_of (ud⁴ D J T))

  -- χ, the thickness factor, at one end below 1.38: 1 for ud ≤ 0.65, else the smaller of 1 and 1.47 − 0.723 × ud (9); the quotient rounded as in ρ
  unfoldable pub χ_before : (ℕ → ℕ → ℕ) → ℕ → ℕ
  χ_before quotient u = cond (leb u (units 65 100)) scale_of (min scale_of (quotient (1470 * scale_of - 723 * u) 1000))

  -- from 1.38: 0.66/ud
  unfoldable pub χ_from : (ℕ → ℕ → ℕ) → ℕ → ℕ
  χ_from quotient u = quotient (66 * (scale_of * scale_of)) (100 * u)

  -- at the ends; the rule jumps up at 1.38, so a pair across it has the smaller of 0.47226 and the value at the upper end,
  -- and the larger of 0.66/1.38 and the value at the lower end
  unfoldable pub χ : Pair → Pair
  χ u =
      cond (ltb u.hi (units 138 100)) (χ_before ◌/◌ u.hi to χ_before ceil_div u.lo)
      (cond (ltb u.lo (units 138 100)) (min (units 47226 100000) (χ_from ◌/◌ u.hi) to max (ceil_div (66 * scale_of) 138) (χ_before ceil_div u.lo))
      (χ_from ◌/◌ u.hi to χ_from ceil_div u.lo))

  -- χ of one flange, from its kf, its own g, the other's g and its stiffener
  unfoldable pub χ_of : Common → Pair → Pair → Pair → Stiffener → Pair
  χ_of y kf g o s = χ (ud (flexibility_of y.hp kf g o) (inertia_of (core y) s) (stress_of (core y) (strength y) s))

  -- One flange's part of a round: its stiffener, from its χ of the round before, and the smaller of that χ and the new one, end by end (W-205), which
  -- comes from its kf and o, the other flange's g (8 to 10). Flange 1 and flange 2 are this one definition.
  unfoldable pub refined_flange : Common → Flange → Pair → Pair → Pair → RefinedFlange
  refined_flange y f χ₀ kf o =
      let s = stiffener_of y.cp f χ₀ in
      record { stiffener = s; chi = smaller (χ_of y kf (g f.bp s) o s) χ₀ }

  -- one round, from both flanges' χ of the round before; each flange has its own kf (10)
  unfoldable pub round : Member → Pair → Pair → Both RefinedFlange
  round x χ₁ χ₂ =
      let s₁ = stiffener_of x.common.cp x.flanges.one χ₁ in
      let s₂ = stiffener_of x.common.cp x.flanges.two χ₂ in
      record {
        one = refined_flange x.common x.flanges.one χ₁ (kf s₁ s₂) (g x.flanges.two.bp s₂);
        two = refined_flange x.common x.flanges.two χ₂ (kf s₂ s₁) (g x.flanges.one.bp s₁);
      }

  -- the first working, at χ = 1, which no χ is above, and as many refining rounds as the sheet says
  unfoldable pub rounds : Member → ℕ → Both RefinedFlange
  rounds x zero = round x (whole 1) (whole 1)
  rounds x (suc i) = let r = rounds x i in round x r.one.chi r.two.chi

  -- Area, resistance, shift ---------------------------------------------------------------------------------------------

  -- L = be1 of flange 1 + be1 of flange 2 + the web's two kept parts, p at flange 1 and m at flange 2 + a1×χ1 + a2×χ2 (11)
  unfoldable pub kept_length : EffectiveParts → Pair
  kept_length x =
      x.flanges.one.be1 ⊕ x.flanges.two.be1 ⊕ x.p ⊕ x.m
      ⊕ x.flanges.one.stiffener.a ⊗ x.flanges.one.chi ⊕ x.flanges.two.stiffener.a ⊗ x.flanges.two.chi

  -- c2×χ2×(hp − c2÷2), which lies below zero where the lip is longer than twice hp
  unfoldable pub lip_moment : Pair → Pair → Pair → SignedPair
  lip_moment hp c₂ χ₂ = signed_times scale_of (signed (c₂ ⊗ χ₂)) (difference hp (c₂ ⊘ whole 2))

  -- hp×(be2 of flange 2 × χ2 + be1 of flange 2)
  unfoldable pub flange_moment : Pair → Pair → Pair → Pair → Pair
  flange_moment hp be1₂ be2₂ χ₂ = hp ⊗ (be2₂ ⊗ χ₂ ⊕ be1₂)

  -- he×(hp − he÷2), of the web's part at flange 2
  unfoldable pub far_web_moment : Pair → Pair → Pair
  far_web_moment hp m = m ⊗ (hp ⊖ m ⊘ whole 2)

  -- he×he÷2, of the web's part at flange 1
  unfoldable pub near_web_moment : Pair → Pair
  near_web_moment p = p ⊗ p ⊘ whole 2

  -- c1×c1×χ1÷2
  unfoldable pub near_lip_moment : Pair → Pair → Pair
  near_lip_moment c₁ χ₁ = c₁ ⊗ c₁ ⊗ χ₁ ⊘ whole 2

  -- their sum, in this order
  unfoldable pub moment : Pair → EffectiveParts → SignedPair
  moment hp x =
      lip_moment hp x.flanges.two.stiffener.c x.flanges.two.chi
      ⊞ flange_moment hp x.flanges.two.be1 x.flanges.two.stiffener.be2 x.flanges.two.chi
      ⊞ far_web_moment hp x.m
      ⊞ near_web_moment x.p
      ⊞ near_lip_moment x.flanges.one.stiffener.c x.flanges.one.chi

  -- z, the distance of the neutral axis from flange 1 (12, from the lip's moment on)
  unfoldable pub z : Pair → EffectiveParts → SignedPair
  z hp x = signed_over scale_of (moment hp x) (kept_length x)

  -- all full: be1 = be2 = bp÷2, c_eff = cp, χ = 1 of a flange; he = hp÷2
  abbrev pub full_flange : Pair → Pair → EffectiveFlange
  full_flange cp bp = let b = bp ⊘ whole 2 in record { be1 = b; stiffener = record { be2 = b; c = cp; a = b ⊕ cp }; chi = whole 1 }

  unfoldable pub full : Pair → Pair → Pair → Pair → EffectiveParts
  full hp cp bp₁ bp₂ = let he = hp ⊘ whole 2 in record { flanges = record { one = full_flange cp bp₁; two = full_flange cp bp₂ }; p = he; m = he }

  -- he = 0.5×ρ×hp of the web
  unfoldable pub web_kept : Common → Pair
  web_kept y = half_kept (ρ_plane (root scale_of (u² (core y) (strength y) (whole 4) y.hp))) y.hp

  -- what counts after the sheet's refining rounds
  unfoldable pub effective : Member → ℕ → EffectiveParts
  effective x times =
      let first = rounds x 0 in
      let last = rounds x times in
      let he = web_kept x.common in
      record { flanges = record { one = effective_flange first.one last.one; two = effective_flange first.two last.two }; p = he; m = he }

  -- the mid-line lengths of a sheet, and the member that it describes
  abbrev pub hp_of : Sheet → Pair
  hp_of q = mid_line q.h q.tnom.0

  abbrev pub cp_of : Sheet → Pair
  cp_of q = lip_line q.c q.tnom.0

  abbrev pub bp₁_of : Sheet → Pair
  bp₁_of q = mid_line q.b1 q.tnom.0

  abbrev pub bp₂_of : Sheet → Pair
  bp₂_of q = mid_line q.b2 q.tnom.0

  abbrev pub mid_lines : Sheet → MidLines
  mid_lines q = record { hp = hp_of q; cp = cp_of q; bp = record { one = bp₁_of q; two = bp₂_of q } }

  abbrev pub member_of : Sheet → Member
  member_of q =
      let flange = flange_of (mm q.t.0) (whole q.fyb) (cp_of q) in
      record {
        common = record { steel = record { t = q.t; fyb = q.fyb }; hp = hp_of q; cp = cp_of q };
        flanges = record { one = flange (bp₁_of q); two = flange (bp₂_of q) };
      }

  -- the working of a sheet: effective area = t×L, both χ, z, the gross z, and the shift = z − gross z
  unfoldable pub worked : Sheet → Worked
  worked q =
      let e = effective (member_of q) q.rounds in
      let y = z (hp_of q) e in
      let w = z (hp_of q) (full (hp_of q) (cp_of q) (bp₁_of q) (bp₂_of q)) in
      record { area = mm q.t.0 ⊗ kept_length e; χ₁ = e.flanges.one.chi; χ₂ = e.flanges.two.chi; z = y; gross_z = w; shift = signed_minus y w }
