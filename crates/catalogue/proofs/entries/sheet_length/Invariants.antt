-- `entries::sheet_length` meets its contract. The invariant: `end` is the place behind so many lines.
use Prim.Native.Nat.{◌≤◌}
use mathlib.Core.Path.{◌≡◌}
use lib.ListN.{length}
use Rattle.lines.proofs.Laws.{front}
use Rattle.catalogue.proofs.entries.sheet_length.Given as goal

abbrev pub invariant-loop : goal.invariant-loop
invariant-loop l = (l.end ≡ length (front l.counter l.s)) × (l.end ≤ length l.s)
