-- What is written behind what the writer holds is what the program prints.
use Rattle.report.proofs.Promises.{appended}
use Rattle.report.proofs.programs.run_between.Goals as goal

pub returns-clause-printed : goal.returns-clause-printed
returns-clause-printed g c =
    let wrote = c.in-Ok.ensures in
    appended g.P.Program.prints _ _ _ _ _ _ _ wrote.value wrote.out_after c.write_text.ensures.printed
