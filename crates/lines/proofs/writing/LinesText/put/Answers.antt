use Prim.Native.Nat.{◌+◌, ◌≤◌}
use mathlib.Core.List.{◌++◌}
use mathlib.Core.Path.{◌≡◌}
use lib.ListN.{length, take}
use Rattle.std.proofs.Common.{rules}
use Rattle.std.proofs.lemmas.Slice.Zip.{either_empty_from_Zip}
use Rattle.lines.specs.Fields.{field}
use Rattle.lines.specs.Texts.{line_text}
use Rattle.lines.proofs.LentParts.{writing_room, writing_next, writing_done}
use Rattle.lines.proofs.LineLaws.{lines_first_is, lines_ended}
use Rattle.lines.proofs.writing.LinesText.put.Goals as goal

pub put_behind-at-requires : goal.put_behind-at-requires
put_behind-at-requires c =
    let h = c.in-Some.ensures.steps in
    let t = line_text (field c.in-Some.key.now) c.in-Some.value.now in
    let split = lines_first_is _ _ c.in-Some.key.now c.in-Some.value.now _ _ h.0 h.1 in
    let room : c.loop-key.at + length t ≤ length c.loop-key.out = writing_room c.loop-key.invariant.2 t _ split c.requires in
    search (rules, room)

pub loop-key-preserved : goal.loop-key-preserved
loop-key-preserved c =
    let h = c.in-Some.ensures.steps in
    let p = c.put_behind-at.ensures in
    let t = line_text (field c.in-Some.key.now) c.in-Some.value.now in
    let split = lines_first_is _ _ c.in-Some.key.now c.in-Some.value.now _ _ h.0 h.1 in
    let place : c.put_behind-at.result ≡ c.loop-key.at + length t = search (rules, p.place) in
    let front : take c.put_behind-at.result c.put_behind-at.new.out ≡ take c.loop-key.at c.loop-key.out ++ t = search (rules, p.front) in
    ((tt, tt), tt, writing_next c.loop-key.invariant.2 t _ _ _ split place front p.rest p.room)

pub returns : goal.returns
returns c =
    let none = either_empty_from_Zip c.loop-key.key-iterator c.next.new.self c.next.result c.in-None.is c.next.ensures.steps in
    let done = writing_done c.loop-key.invariant.2 (lines_ended _ _ none) in
    record { value = done.0; out_after = done.1 }
