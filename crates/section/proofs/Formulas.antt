-- Each formula of the working, worked at m × n, lies inside the same formula worked at n.
use Prim.Native.Nat.{ℕ, ◌*◌, ◌<◌}
use mathlib.Core.Path.{refl}
use native.Mathlib.Nat.{mul-pos, mul-one}
use native.Mathlib.Omega.{arith}
use lib.Dec.{lit<}
use Rattle.pair.specs.Pairs.{ratio, times, over}
use Rattle.pair.specs.Enclosure.{Inside, SignedInside, Positive, AtLeast}
use Rattle.pair.specs.declared.Pair.{Pair}
use Rattle.pair.proofs.Laws.{minus-Inside, AtLeast-Positive, own_least, exact-AtLeast, times-AtLeast, ratio-exact, inside as pair_inside}
use Rattle.section.specs.declared.Flange.{Flange}
use Rattle.section.specs.declared.Common.{Common}
use Rattle.section.specs.declared.Stiffener.{Stiffener}
use Rattle.section.specs.declared.EffectiveParts.{EffectiveParts}
use Rattle.section.specs.Working.{scale_of, whole, core, mid_line, lip_line, u², half_kept, flange_of, stiffener_of, g, inertia_of, stress_of, kf, flexibility_of, ud, χ_of, web_kept, full_flange, full}
use Rattle.section.specs.Working.{kept_length, lip_moment, flange_moment, far_web_moment, near_web_moment, near_lip_moment, moment, z}
use Rattle.section.specs.Uncut.{taken_off}
use Rattle.section.proofs.PartsInside.{FlangeInside, StiffenerInside, EffectiveFlangeInside, EffectivePartsInside, CommonInside}
use Rattle.section.proofs.Ends.{scale_positive, finer, constant_exact, constant-Inside}
use Rattle.section.proofs.Shares.{ρ_plane-Inside, ρ_lip-Inside}
use Rattle.section.proofs.Factor.{χ-Inside}
use Rattle.section.proofs.Coefficient.{k-Inside, k-Positive}

-- v × a is above zero where v and a are
pub whole_times-Positive : {n : ℕ} (v : ℕ) {a : Pair} → 0 < n → 0 < v → Positive a → Positive (times (n * 1000000) (ratio (n * 1000000) v 1) a)
whole_times-Positive {n} v {a} n⁺ v⁺ p =
    let least : AtLeast (v * scale_of n) (ratio (scale_of n) v 1) = rw (ratio-exact (scale_of n) v 1 (v * scale_of n) (lit< tt) (mul-one _)) (exact-AtLeast _) in
    AtLeast-Positive (mul-pos v⁺ p.low) (times-AtLeast (scale_of n) (v * a.lo) (scale_positive n⁺) least (own_least a) (omega arith))

ruleset inside = (pair_inside, finer, constant_exact, lit<, whole_times-Positive, ρ_plane-Inside, ρ_lip-Inside, χ-Inside, k-Inside, k-Positive)

module _ {n m : ℕ} (n⁺ : 0 < n) (m⁺ : 0 < m) where
  pub mid_line-Inside : (w tnom : ℕ) → Inside m (mid_line (m * n) w tnom) (mid_line n w tnom)
  unfolding mid_line
  mid_line-Inside w tnom = search inside depth 20

  pub lip_line-Inside : (c tnom : ℕ) → Inside m (lip_line (m * n) c tnom) (lip_line n c tnom)
  unfolding lip_line
  lip_line-Inside c tnom = search inside depth 20

  pub u²-Inside : {t t' fyb fyb' k k' w w' : Pair} → Positive t → Positive k → Inside m t' t → Inside m fyb' fyb → Inside m k' k → Inside m w' w → Inside m (u² (m * n) t' fyb' k' w') (u² n t fyb k w)
  unfolding u²
  u²-Inside t⁺ k⁺ t fyb k w = search inside depth 20

  pub half_kept-Inside : {r r' w w' : Pair} → Inside m r' r → Inside m w' w → Inside m (half_kept (m * n) r' w') (half_kept n r w)
  unfolding half_kept
  half_kept-Inside r w = search inside depth 20

  -- he of the web
  pub web_inside : {x x' : Common} → Positive (core n x) → CommonInside n m x' x → Inside m (web_kept (m * n) x') (web_kept n x)
  unfolding web_kept
  web_inside t⁺ x = search (inside, half_kept-Inside, u²-Inside) depth 20

  -- stiffeners

  pub flange_inside : {t t' fyb fyb' cp cp' bp bp' : Pair} → Positive t → Positive bp → Inside m t' t → Inside m fyb' fyb → Inside m cp' cp → Inside m bp' bp
      → FlangeInside m (flange_of (m * n) t' fyb' cp' bp') (flange_of n t fyb cp bp)
  unfolding flange_of
  flange_inside t⁺ bp⁺ t fyb cp bp = record { bp = bp; plane = search (inside, u²-Inside) depth 20; lip = search (inside, u²-Inside) depth 20 }

  pub stiffener_inside : {cp cp' χ₀ χ₀' : Pair} {f f' : Flange} → Inside m cp' cp → FlangeInside m f' f → Inside m χ₀' χ₀
      → StiffenerInside m (stiffener_of (m * n) cp' f' χ₀') (stiffener_of n cp f χ₀)
  unfolding stiffener_of
  stiffener_inside cp f χ₀ = record { be2 = search (inside, half_kept-Inside) depth 20; c = search inside depth 20; a = search (inside, half_kept-Inside) depth 20 }

  -- what g takes off the width
  pub taken_off-Inside : {s s' : Stiffener} → Positive s.a → StiffenerInside m s' s → Inside m (taken_off (m * n) s') (taken_off n s)
  taken_off-Inside a⁺ s = search inside depth 20

  pub g-Inside : {bp bp' : Pair} {s s' : Stiffener} → Positive s.a → Inside m bp' bp → StiffenerInside m s' s → Inside m (g (m * n) bp' s') (g n bp s)
  unfolding g
  g-Inside a⁺ bp s = minus-Inside bp (taken_off-Inside a⁺ s)

  pub inertia_of-Inside : {t t' : Pair} {s s' : Stiffener} → Positive s.a → Inside m t' t → StiffenerInside m s' s → Inside m (inertia_of (m * n) t' s') (inertia_of n t s)
  unfolding inertia_of
  inertia_of-Inside a⁺ t s = search inside depth 20

  pub stress_of-Inside : {t t' fyb fyb' : Pair} {s s' : Stiffener} → Positive t → Inside m t' t → Inside m fyb' fyb → StiffenerInside m s' s → Inside m (stress_of (m * n) t' fyb' s') (stress_of n t fyb s)
  unfolding stress_of
  stress_of-Inside t⁺ t fyb s = search inside depth 20

  pub kf-Inside : {s s' o o' : Stiffener} → Positive s.a → StiffenerInside m s' s → StiffenerInside m o' o → Inside m (kf (m * n) s' o') (kf n s o)
  unfolding kf
  kf-Inside a⁺ s o = search inside depth 20

  pub flexibility_of-Inside : {hp hp' kf kf' g g' o o' : Pair} → Inside m hp' hp → Inside m kf' kf → Inside m g' g → Inside m o' o → Inside m (flexibility_of (m * n) hp' kf' g' o') (flexibility_of n hp kf g o)
  unfolding flexibility_of
  flexibility_of-Inside hp kf g o = search inside depth 20

  pub ud-Inside : {D D' J J' T T' : Pair} → Positive J → Inside m D' D → Inside m J' J → Inside m T' T → Inside m (ud (m * n) D' J' T') (ud n D J T)
  unfolding ud
  ud-Inside J⁺ D J T = search inside depth 20

  pub χ_of-Inside : {x x' : Common} {kf kf' g g' o o' : Pair} {s s' : Stiffener} → Positive (core n x) → Positive s.a → Positive (inertia_of n (core n x) s)
      → CommonInside n m x' x → Inside m kf' kf → Inside m g' g → Inside m o' o → StiffenerInside m s' s
      → Inside m (χ_of (m * n) x' kf' g' o' s') (χ_of n x kf g o s)
  unfolding χ_of
  χ_of-Inside t⁺ a⁺ J⁺ x kf g o s = search (χ-Inside, ud-Inside, flexibility_of-Inside, inertia_of-Inside, stress_of-Inside) depth 20

  -- area and shift

  pub kept_length-Inside : {x x' : EffectiveParts} → EffectivePartsInside m x' x → Inside m (kept_length (m * n) x') (kept_length n x)
  unfolding kept_length
  kept_length-Inside x = search inside depth 20

  pub lip_moment-Inside : {hp hp' c₂ c₂' χ₂ χ₂' : Pair} → Inside m hp' hp → Inside m c₂' c₂ → Inside m χ₂' χ₂ → SignedInside m (lip_moment (m * n) hp' c₂' χ₂') (lip_moment n hp c₂ χ₂)
  unfolding lip_moment
  lip_moment-Inside hp c₂ χ₂ = search inside depth 20

  pub flange_moment-Inside : {hp hp' be1₂ be1₂' be2₂ be2₂' χ₂ χ₂' : Pair} → Inside m hp' hp → Inside m be1₂' be1₂ → Inside m be2₂' be2₂ → Inside m χ₂' χ₂
      → Inside m (flange_moment (m * n) hp' be1₂' be2₂' χ₂') (flange_moment n hp be1₂ be2₂ χ₂)
  unfolding flange_moment
  flange_moment-Inside hp be1₂ be2₂ χ₂ = search inside depth 20

  pub far_web_moment-Inside : {hp hp' w w' : Pair} → Inside m hp' hp → Inside m w' w → Inside m (far_web_moment (m * n) hp' w') (far_web_moment n hp w)
  unfolding far_web_moment
  far_web_moment-Inside hp w = search inside depth 20

  pub near_web_moment-Inside : {w w' : Pair} → Inside m w' w → Inside m (near_web_moment (m * n) w') (near_web_moment n w)
  unfolding near_web_moment
  near_web_moment-Inside w = search inside depth 20

  pub near_lip_moment-Inside : {c₁ c₁' χ₁ χ₁' : Pair} → Inside m c₁' c₁ → Inside m χ₁' χ₁ → Inside m (near_lip_moment (m * n) c₁' χ₁') (near_lip_moment n c₁ χ₁)
  unfolding near_lip_moment
  near_lip_moment-Inside c₁ χ₁ = search inside depth 20

  pub moment-Inside : {hp hp' : Pair} {x x' : EffectiveParts} → Inside m hp' hp → EffectivePartsInside m x' x → SignedInside m (moment (m * n) hp' x') (moment n hp x)
  unfolding moment
  moment-Inside hp x = search (pair_inside, lip_moment-Inside, flange_moment-Inside, far_web_moment-Inside, near_web_moment-Inside, near_lip_moment-Inside) depth 20

  pub z-Inside : {hp hp' : Pair} {x x' : EffectiveParts} → Positive (kept_length n x) → Inside m hp' hp → EffectivePartsInside m x' x → SignedInside m (z (m * n) hp' x') (z n hp x)
  unfolding z
  z-Inside L⁺ hp x = search (pair_inside, finer, moment-Inside, kept_length-Inside) depth 20

  pub half_inside : {w w' : Pair} → Inside m w' w → Inside m (over (scale_of (m * n)) w' (whole (m * n) 2)) (over (scale_of n) w (whole n 2))
  half_inside w = search inside depth 20

  full_flange-Inside : {cp cp' bp bp' : Pair} → Inside m cp' cp → Inside m bp' bp → EffectiveFlangeInside m (full_flange (m * n) cp' bp') (full_flange n cp bp)
  full_flange-Inside cp bp = record {
    be1 = half_inside bp;
    stiffener = record { be2 = half_inside bp; c = cp; a = search (inside, half_inside) depth 20 };
    chi = constant-Inside n⁺ m⁺ 1 1 (lit< tt) refl;
  }

  pub full-Inside : {hp hp' cp cp' bp₁ bp₁' bp₂ bp₂' : Pair} → Inside m hp' hp → Inside m cp' cp → Inside m bp₁' bp₁ → Inside m bp₂' bp₂
      → EffectivePartsInside m (full (m * n) hp' cp' bp₁' bp₂') (full n hp cp bp₁ bp₂)
  unfolding full
  full-Inside hp cp bp₁ bp₂ =
      record { one = full_flange-Inside cp bp₁; two = full_flange-Inside cp bp₂; p = half_inside hp; m = half_inside hp }
