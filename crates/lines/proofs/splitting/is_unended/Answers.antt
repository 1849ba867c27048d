use Rattle.std.proofs.Common.{rules}
use Rattle.lines.proofs.CountLaws.{unended_told}
use Rattle.lines.proofs.splitting.is_unended.Goals as goal

pub returns : goal.returns
returns c = unended_told c.args.s.now c.last.result _ (search rules) (search rules) (search rules)
