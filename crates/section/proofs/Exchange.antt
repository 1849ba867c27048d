-- A section with its flanges exchanged has the same length, and its factors exchanged, at every fineness.
use Prim.Native.Nat.{ℕ, zero, suc, ◌*◌, ◌/◌}
use mathlib.Core.List.{List, ◌∷◌}
use mathlib.Core.Path.{◌≡◌, refl, ap, ◌∙◌}
use Rattle.pair.specs.declared.Pair.{Pair}
use Rattle.pair.proofs.Laws.{plus_comm, plus_right_comm}
use Rattle.section.specs.declared.Member.{Member}
use Rattle.pair.specs.declared.Both.{Both}
use Rattle.section.specs.declared.RefinedFlange.{RefinedFlange}
use Rattle.section.specs.declared.EffectiveParts.{EffectiveParts}
use Rattle.section.specs.Working.{◌⊕◌, scale_of, ◌⊗◌, mm, effective_flange, round, rounds, kept_length, effective, member_of, worked}
use Rattle.section.specs.Sheets.{sheet_of}
use Rattle.section.specs.Figures.{printed, figures}
use Rattle.section.specs.Exchanged.{FlangesExchanged}

module _ (n : ℕ) where
  abbrev exchanged_member : Member → Member
  exchanged_member x = record { common = x.common; flanges = record { one = x.flanges.two; two = x.flanges.one } }

  abbrev exchanged_round : Both RefinedFlange → Both RefinedFlange
  exchanged_round r = record { one = r.two; two = r.one }

  abbrev exchanged_parts : EffectiveParts → EffectiveParts
  exchanged_parts e = record { flanges = record { one = e.flanges.two; two = e.flanges.one }; p = e.p; m = e.m }

  rounds_exchanged : (x : Member) (i : ℕ) → rounds n (exchanged_member x) i ≡ exchanged_round (rounds n x i)
  unfolding rounds round
  rounds_exchanged x zero = refl
  rounds_exchanged x (suc i) = ap (λ (r : Both RefinedFlange). round n (exchanged_member x) r.one.chi r.two.chi) (rounds_exchanged x i)

  effective_exchanged : (x : Member) (times : ℕ) → effective n (exchanged_member x) times ≡ exchanged_parts (effective n x times)
  unfolding effective
  effective_exchanged x times = λ i.
      let first = rounds_exchanged x 0 i in
      let last = rounds_exchanged x times i in
      let e = effective n x times in
      record { flanges = record { one = effective_flange first.one last.one; two = effective_flange first.two last.two }; p = e.p; m = e.m }

  kept_length_exchanged : (e : EffectiveParts) → kept_length n (exchanged_parts e) ≡ kept_length n e
  unfolding kept_length
  kept_length_exchanged e =
      plus_right_comm _ _ _
      ∙ ap (λ (x : Pair). x ⊕ e.p ⊕ e.m ⊕ ◌⊗◌ n e.flanges.one.stiffener.a e.flanges.one.chi ⊕ ◌⊗◌ n e.flanges.two.stiffener.a e.flanges.two.chi) (plus_comm _ _)

  -- two sheets, alike but for b1 and b2, which are exchanged
  pub figures_exchanged : (form h b1 b2 : ℕ) (rest : List ℕ)
      → FlangesExchanged (figures n (sheet_of (form ∷ h ∷ b1 ∷ b2 ∷ rest))) (figures n (sheet_of (form ∷ h ∷ b2 ∷ b1 ∷ rest)))
  unfolding figures printed worked sheet_of
  figures_exchanged form h b1 b2 rest =
      let q = sheet_of (form ∷ h ∷ b1 ∷ b2 ∷ rest) in
      let e = effective_exchanged (member_of n q) q.rounds in
      let area = ap (λ (l : Pair). ◌⊗◌ n (mm n q.t.0) l) (ap (kept_length n) e ∙ kept_length_exchanged (effective n (member_of n q) q.rounds)) in
      record {
        area = ap (λ (a : Pair). a.lo * 100 / scale_of n) area;
        axial = ap (λ (a : Pair). a.lo * q.fyb * 1000 / (q.gm0 * scale_of n)) area;
        chi1 = ap (λ (y : EffectiveParts). y.flanges.one.chi.lo * 1000 / scale_of n) e;
        chi2 = ap (λ (y : EffectiveParts). y.flanges.two.chi.lo * 1000 / scale_of n) e;
      }
