-- How long the text of a sheet and of a certificate can be: the constants of the code.
use mathlib.Core.Path.{◌≡◌, refl}
use Rattle.lines.specs.Texts.{longest_line, longest}
use Rattle.certificate.specs.Keys.{sheet_fields, figure_fields, certificate_fields}

pub longest_sheet : longest sheet_fields ≡ 184
unfolding longest_line longest sheet_fields
longest_sheet = refl

pub longest_certificate : longest certificate_fields ≡ 289
unfolding longest_line longest sheet_fields figure_fields certificate_fields
longest_certificate = refl
