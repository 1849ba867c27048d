use Rattle.std.proofs.Common.{rules, tests, ◌≡◌, ◌^◌}
use native.Mathlib.Omega.{arith}
use Rattle.std.proofs.lemmas.Iterator.{YieldsList-from_slice}
use Rattle.std.proofs.lemmas.Iterator.Adapters.{fits_from_length, at_most_from_yields_List}
use Rattle.lines.specs.Splitting.{newlines}
use Rattle.lines.proofs.CountLaws.{newlines_counted, newlines_most}
use Rattle.lines.proofs.splitting.newline_count.Goals as goal

pub sum-requires-clause-fits : goal.sum-requires-clause-fits
sum-requires-clause-fits c =
    fits_from_length _ _ (2 ^ 63) _ (at_most_from_yields_List (YieldsList-from_slice c.args.s.now cc) (omega arith)) c.map.ensures.closure (omega arith)
    (λ x r q k. search (rules, tests))

pub returns : goal.returns
returns c =
    let total : c.sum.result ≡ newlines c.args.s.now = search (rules, newlines_counted) in
    record { value = total; upper_bound = omega (arith, newlines_most c.args.s.now) }
