-- The lines of some bytes and of a text, and what is run on them.
use Rattle.std.specs.Prelude.{ℕ, suc, List, [], ◌∷◌, ◌≡◌, ◌<◌, ◌==◌, length, take, drop, map, Option, None, Ok}
use Rattle.std.specs.declared.result.Result.{Result}
use Rattle.std.specs.declared.str.Lines.{Lines}
use Rattle.std.specs.Fn.{Mut, Called}
use Rattle.std.specs.Iterator.{YieldsThen}
use Rattle.std.specs.List.{FoldsTo, position_from}
use Rattle.std.specs.Option.{MatchOption, unwrap_or}
use Rattle.std.specs.Str.Iter.{lines_steps, lines_rest}
use denote.Ref.{Bor}
use Rattle.lines.specs.Ascii.{newline}

-- where the first line ends: at its newline, or with the bytes
abbrev pub end_of_line : List ℕ → ℕ
end_of_line s = unwrap_or (position_from (λ b. b == newline) 0 s) (length s)

-- the first line of the bytes s is taken, without its newline, and t is left; or there is none
abbrev pub FirstLine : List ℕ → Option (Bor (List ℕ)) → List ℕ → Type 0
FirstLine s r t = MatchOption r (s ≡ []) (λ l. (0 < length s) × (l.now ≡ take (end_of_line s) s) × (t ≡ drop (suc (end_of_line s)) s))

-- these are all lines of s, without their newlines: the last may have none, and behind a last newline there is no line
unfoldable pub LinesOf : List (List ℕ) → List ℕ → Type 0
LinesOf [] s = s ≡ []
LinesOf (l ∷ ls) s = (0 < length s) × (l ≡ take (end_of_line s) s) × LinesOf ls (drop (suc (end_of_line s)) s)

-- f was called at each line of the bytes s, in their order, and each call answered Ok
pub record RunsOnBytes {F E : Type 0} (g : Mut F (Bor (List ℕ) × Unit {0}) (Result (Unit {0}) E)) (f : F) (s : List ℕ) : Type 0 where
  pub lines : List (Bor (List ℕ))
  pub last : F
  pub all : LinesOf (map (λ l. l.now) lines) s
  pub called : FoldsTo (λ p x q. Called g p (x, tt) (Ok tt) q) f lines last

-- f was called at each line of the text, in their order, and each call answered Ok
pub record RunsOn {F E : Type 0} (g : Mut F (Bor (List ℕ) × Unit {0}) (Result (Unit {0}) E)) (f : F) (text : List ℕ) : Type 0 where
  pub first : Lines
  pub behind : Lines
  pub lines : List (Bor (List ℕ))
  pub last : F
  pub of_text : lines_rest first ≡ text
  pub all : YieldsThen lines_steps first lines None behind
  pub called : FoldsTo (λ p x q. Called g p (x, tt) (Ok tt) q) f lines last
