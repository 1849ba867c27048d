-- What is printed for what was kept and counted is what is printed for all that the reader had.
use Rattle.std.proofs.Common.{arith}
use Rattle.report.proofs.Laws.{printed_for, within}
use Rattle.survey.specs.Printed.{survey_prints}
use Rattle.survey.proofs.Kept.{survey_read}
use Rattle.survey.proofs.SurveyProgramLONGEST_REPORT.write_for.Goals as goal

pub count_all-requires : goal.count_all-requires
count_all-requires g c = omega (arith, c.in_ok-kept.ensures.within, c.catalogue_buffer-buffer.ensures)

pub returns : goal.returns
returns g c =
    let read = c.in_ok-kept.ensures in
    let room = c.catalogue_buffer-buffer.ensures in
    let wrote = c.survey_prints.ensures in
    let same = survey_read _ _ _ _ c.in_ok-lines.lines (omega (arith, read.within, room)) read.bytes
    (λ short. read.end (omega (arith, short, room))) c.in_ok-lines.ensures.read in
    let printed = printed_for survey_prints _ _ _ same wrote.value wrote.out_after in
    record { within = within _ _ wrote.value wrote.out_after wrote.room; value = printed.0; out_after = printed.1 }
