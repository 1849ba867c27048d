use Rattle.std.proofs.Common.{rules}
use Prim.Native.Nat.{◌+◌, ◌<◌}
use mathlib.Core.Path.{◌≡◌}
use native.Mathlib.Omega.{arith}
use lib.ListN.{get_or, set, length}
use Rattle.lines.specs.Fields.{field}
use Rattle.lines.specs.Reading.{got, read_line}
use Rattle.lines.proofs.ReadLoop.{no_key, FirstRead, first_more}
use Rattle.lines.proofs.reading.first_lines.Goals as goal

pub loop-i-preserved : goal.loop-i-preserved
loop-i-preserved g c =
    let l = c.loop-i in
    let v = c.in_ok-values.field-0-0 in
    let behind = c.in_ok-values.field-0-1.now in
    let room : l.i < length l.values = omega (arith, l.invariant.all, c.requires) in
    let read : read_line (field (get_or c.args.keys.now l.i no_key)) l.rest.now ≡ got v behind = search rules in
    let more : FirstRead g.row.N c.args.keys.now c.args.s.now (l.i + 1) (set l.values l.i v) behind = first_more l.invariant no_key (omega arith) v behind room read in
    search (rules, more)
