use Prim.Native.Nat.{ℕ, ◌<◌}
use mathlib.Core.List.{List}
use mathlib.Core.Path.{◌≡◌, ap, ◌∙◌}
use native.Mathlib.Omega.{arith}
use lib.IntN.{ℤ, pos, nat_abs}
use lib.ListN.{length, get_or}
use Rattle.std.proofs.lemmas.List.{get_or-take}
use Rattle.section.specs.Sheets.{sheet_of, sheet_lines}
use Rattle.certificate.specs.Certificates.{sheet_shown}
use Rattle.certificate.proofs.Arrays.{callable, mapped}
use Rattle.certificate.proofs.Shown.{front_shown}
use Rattle.certificate.proofs.reading.sheet_shown.Goals as goal

pub map-requires : goal.map-requires
map-requires c =
    let vs = c.args.values.now in
    let s = c.copy_from_slice.new.self in
    let front : (i : ℕ) → i < length s → get_or s i (pos 0) ≡ get_or vs i (pos 0) =
    λ i h.
    let below : i < sheet_lines = omega (arith, h, c.copy_from_slice.ensures.len) in
    ap (λ (l : List ℤ). get_or l i (pos 0)) c.copy_from_slice.ensures.after ∙ get_or-take sheet_lines vs i (pos 0) below in
    (omega arith, (omega arith, (omega arith, callable s (pos 0) (λ q i h. omega (arith, ap nat_abs (front i h), c.requires.words i)))))

pub returns : goal.returns
unfolding sheet_shown
returns c =
    c.from.ensures
    ∙ ap sheet_of (mapped nat_abs (pos 0) c.map.ensures.items c.copy_from_slice.ensures.len (λ p q x y k. k.met))
    ∙ ap sheet_shown c.copy_from_slice.ensures.after
    ∙ front_shown c.args.values.now
