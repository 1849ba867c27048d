use mathlib.Core.Path.{◌≡◌}
use Rattle.std.proofs.Common.{rules}
use Rattle.section.specs.Sheets.{values_of}
use Rattle.section.specs.Figures.{own_figures}
use Rattle.certificate.specs.Certificates.{sheet_values, figure_values, certificate_values}
use Rattle.certificate.proofs.writing.line_values.Goals as goal

pub returns : goal.returns
unfolding certificate_values sheet_values values_of figure_values
returns c =
    let sheet : c.copy_from_slice.new.self ≡ sheet_values c.args.q = search rules in
    let given = c.figure_values.ensures (own_figures c.args.q) c.requires in
    let figures : c.copy_from_slice-2.new.self ≡ figure_values (own_figures c.args.q) = search (rules, given) in
    rw (sheet, figures)
