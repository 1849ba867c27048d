use Rattle.std.proofs.Common.{rules}
use Rattle.std.proofs.lemmas.Slice.{overwrites}
use Rattle.questions.specs.Buffers.{over}
use Rattle.lines.proofs.texts.put_behind.Goals as goal

pub returns-clause-rest : goal.returns-clause-rest
unfolding over
returns-clause-rest g c = search (rules, overwrites)
