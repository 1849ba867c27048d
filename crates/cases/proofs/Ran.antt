-- What `try_for_each` says of the lines of some bytes and of a text, where each call answers Ok.
use Rattle.std.proofs.Common.{◌≡◌, ◌∙◌, ℕ, List, [], ◌∷◌, map, None, Some, Ok, Err, OnOk, refl, ap, subst}
use Rattle.std.specs.declared.option.Option.{Option}
use Rattle.std.specs.declared.result.Result.{Result}
use Rattle.std.specs.declared.str.Lines.{Lines}
use Rattle.std.specs.Fn.{Mut, Called}
use Rattle.std.specs.Iterator.{YieldsThen}
use Rattle.std.specs.List.{FoldsTo}
use Rattle.std.specs.Bool.{MatchBool}
use Rattle.std.specs.Option.{MatchOption}
use Rattle.std.specs.Result.{IsErr}
use Rattle.std.specs.Str.Iter.{lines_steps, lines_rest}
use denote.Ref.{Bor}
use Rattle.cases.specs.Lines.{FirstLine, LinesOf, RunsOn, RunsOnBytes}

-- the lines that were taken until there was none are all lines
module _ {S : Type 0} (rest : S → List ℕ) where
  abbrev pub Takes : S → Option (Bor (List ℕ)) → S → Type 0
  Takes s r t = FirstLine (rest s) r (rest t)

  abbrev texts : List (Bor (List ℕ)) → List (List ℕ)
  texts xs = map (λ l. l.now) xs

  pub all_lines : (xs : List (Bor (List ℕ))) (s behind : S) → YieldsThen Takes s xs None behind → LinesOf (texts xs) (rest s)
  unfolding LinesOf
  all_lines [] s behind (t, e, none) = ap rest e ∙ none
  all_lines (x ∷ xs) s behind (t, (j, step, onward), none) =
      (step.0, step.1, subst (LinesOf (texts xs)) step.2 (all_lines xs j behind (t, onward, none)))

module _ {F E : Type 0} (g : Mut F (Bor (List ℕ) × Unit {0}) (Result (Unit {0}) E)) where
  abbrev pub Turn : F → Bor (List ℕ) → F → Type 0
  Turn p x q = (v : Result (Unit {0}) E) × Called g p (x, tt) v q × (v ≡ Ok tt)

  -- so each call answered Ok
  each_ok : (xs : List (Bor (List ℕ))) (f last : F) → FoldsTo Turn f xs last → FoldsTo (λ p x q. Called g p (x, tt) (Ok tt) q) f xs last
  each_ok [] f last e = e
  each_ok (x ∷ xs) f last t =
      let j = t.0 in
      (j, subst (λ r. Called g f (x, tt) r j) t.1.2 t.1.1, each_ok xs j last t.2)

  -- Ok is answered only where no line was left, so P is owed there alone
  by_end : {P : Type 0} (X : Type 0) (Y : Bor (List ℕ) → Type 0) (o : Option (Bor (List ℕ))) (r : Result (Unit {0}) E) → MatchOption o X Y
      → ((x : Bor (List ℕ)) → Y x → IsErr r) → (o ≡ None → P) → OnOk r P
  by_end X Y o (Err e) end broke none = tt
  by_end X Y (Some x) (Ok u) end broke none = absurd (subst (λ b. MatchBool b ⊥ (Unit {0})) (broke x end) tt)
  by_end X Y None (Ok u) end broke none = none refl

  pub ran_on_bytes : {S : Type 0} (rest : S → List ℕ) (X : Type 0) (Y : Bor (List ℕ) → Type 0) (f last : F) (first behind : S) (xs : List (Bor (List ℕ))) (o : Option (Bor (List ℕ)))
      (r : Result (Unit {0}) E) → YieldsThen (Takes rest) first xs o behind → FoldsTo Turn f xs last → MatchOption o X Y
      → ((x : Bor (List ℕ)) → Y x → IsErr r) → OnOk r (RunsOnBytes g f (rest first))
  ran_on_bytes rest X Y f last first behind xs o r all called end broke =
      by_end X Y o r end broke (λ none.
      let whole = subst (λ l. YieldsThen (Takes rest) first xs l behind) none all in
      record { lines = xs; last = last; all = all_lines rest xs first behind whole; called = each_ok xs f last called })

  pub ran : (X : Type 0) (Y : Bor (List ℕ) → Type 0) (f last : F) (text : List ℕ) (first behind : Lines) (xs : List (Bor (List ℕ))) (o : Option (Bor (List ℕ)))
      (r : Result (Unit {0}) E) → lines_rest first ≡ text → YieldsThen lines_steps first xs o behind → FoldsTo Turn f xs last → MatchOption o X Y
      → ((x : Bor (List ℕ)) → Y x → IsErr r) → OnOk r (RunsOn g f text)
  ran X Y f last text first behind xs o r of_text all called end broke =
      by_end X Y o r end broke (λ none.
      let whole = subst (λ l. YieldsThen lines_steps first xs l behind) none all in
      record { first = first; behind = behind; lines = xs; last = last; of_text = of_text; all = whole; called = each_ok xs f last called })
