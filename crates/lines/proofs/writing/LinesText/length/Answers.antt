use mathlib.Core.List.{[], map}
use mathlib.Core.Path.{◌≡◌, ap}
use native.Mathlib.Omega.{arith}
use lib.ListN.{length}
use Rattle.std.specs.Slice.Iter.{iter_rest}
use Rattle.std.specs.Iterator.Adapters.{zip_first, zip_second}
use Rattle.std.proofs.lemmas.Slice.Zip.{either_empty_from_Zip}
use Rattle.lines.specs.Fields.{field}
use Rattle.lines.specs.Texts.{lines_text}
use Rattle.lines.proofs.LineLaws.{lines_ended}
use Rattle.lines.proofs.writing.LinesText.length.Goals as goal

pub returns : goal.returns
returns c =
    let left = lines_text (map field (iter_rest (zip_first c.loop-key.key-iterator))) (iter_rest (zip_second c.loop-key.key-iterator)) in
    let e : left ≡ [] = lines_ended _ _ (either_empty_from_Zip c.loop-key.key-iterator c.next.new.self c.next.result c.in-None.is c.next.ensures.steps) in
    omega (arith, ap length e)
