use native.Mathlib.Omega.{arith}
use Rattle.std.specs.Slice.Iter.{chunks_rest}
use Rattle.lines.proofs.LentParts.{writing_room, writing_next, writing_done}
use Rattle.lines.proofs.RunLaws.{rows_chunk, rows_ended}
use Rattle.lines.proofs.rows.RowsText.put.Goals as goal

pub put_behind-at-requires : goal.put_behind-at-requires
put_behind-at-requires c =
    let h = c.in-Some.ensures.steps in
    let i = c.loop-row.invariant in
    let split = rows_chunk c.args.self.now.width (chunks_rest c.loop-row.row-iterator) c.in-Some.row.now _ (omega arith) h.1.0 (omega arith) h.1.2 in
    writing_room i.3 _ _ split c.requires

pub loop-row-preserved : goal.loop-row-preserved
loop-row-preserved c =
    let h = c.in-Some.ensures.steps in
    let i = c.loop-row.invariant in
    let p = c.put_behind-at.ensures in
    let split = rows_chunk c.args.self.now.width (chunks_rest c.loop-row.row-iterator) c.in-Some.row.now _ (omega arith) h.1.0 (omega arith) h.1.2 in
    (omega arith, tt, omega arith, writing_next i.3 _ _ _ _ split p.place p.front p.rest p.room)

pub returns : goal.returns
returns c =
    let done = writing_done c.loop-row.invariant.3 (rows_ended c.args.self.now.width _ c.in-None.ensures.steps.1.0) in
    record { value = done.0; out_after = done.1 }
