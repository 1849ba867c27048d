use mathlib.Core.Path.{◌≡◌, ap, ◌∙◌}
use lib.IntN.{pos}
use Rattle.std.proofs.Common.{rules}
use Rattle.section.specs.declared.Figures.{Figures}
use Rattle.certificate.specs.Certificates.{figure_values}
use Rattle.certificate.proofs.writing.figure_values.Goals as goal

pub returns : goal.returns
unfolding figure_values
returns c p e =
    let area : c.from.result ≡ pos p.area = c.from.ensures ∙ ap (λ (f : Figures). pos f.area) e in
    let axial : c.from-2.result ≡ pos p.axial = c.from-2.ensures ∙ ap (λ (f : Figures). pos f.axial) e in
    let chi1 : c.from-3.result ≡ pos p.chi1 = c.from-3.ensures ∙ ap (λ (f : Figures). pos f.chi1) e in
    let chi2 : c.from-4.result ≡ pos p.chi2 = c.from-4.ensures ∙ ap (λ (f : Figures). pos f.chi2) e in
    let lo : c.args.f.shiftlo ≡ p.shiftlo = ap (λ (f : Figures). f.shiftlo) e in
    let hi : c.args.f.shifthi ≡ p.shifthi = ap (λ (f : Figures). f.shifthi) e in
    search rules
