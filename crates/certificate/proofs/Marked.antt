-- The thirteen marked cases of document 01 hold: each is computed. So this file opens the formulas of pair and of section, which no other
-- proof of this crate does.
use mathlib.Core.Path.{◌≡◌, refl}
use mathlib.Core.Bool.{true}
use lib.IntN.{ℤ}
use lib.ListN.{length}
use Rattle.pair.specs.Rounding.{ceil_div, root_up}
use Rattle.pair.specs.Pairs.{exact, ratio, plus, minus, times, over, root, cube_root, smaller}
use Rattle.pair.specs.Integers.{◌≼ℤ◌, leb_ℤ, least, greatest, floor_over, ceil_over}
use Rattle.pair.specs.SignedPairs.{signed, difference, signed_plus, signed_minus, least_product, greatest_product, signed_times, signed_over}
use Rattle.pair.proofs.Numbers.{leb_ℤ-true}
use Rattle.section.specs.Working.{mid_line, lip_line, u², ρ_at, ρ, ρ_plane, ρ_lip, k_past, k_at, k}
use Rattle.section.specs.Working.{half_kept, flange_of, stiffener_of, g, inertia_of, stress_of, kf, flexibility_of, ud}
use Rattle.section.specs.Working.{χ_before, χ_from, χ, χ_of, refined_flange, round, rounds}
use Rattle.section.specs.Working.{kept_length, lip_moment, flange_moment, far_web_moment, near_web_moment, near_lip_moment, moment, z, full, web_kept, effective, worked}
use Rattle.section.specs.Figures.{printed, figures}
use Rattle.certificate.specs.Keys.{sheet_fields, figure_fields, certificate_fields}
use Rattle.lines.specs.Decimal.{decimal, integer_text}
use Rattle.lines.specs.Texts.{letter_of, value_text, line_text, lines_text, longest_line, longest}
use Rattle.lines.specs.Reading.{ended, read_digits, read_number, read_signed, read_letter, read_value, begins, read_line, prepend, read_end, and_then, read_from}
use Rattle.section.specs.Sheets.{sheet_of, values_of, fineness, in_ranges}
use Rattle.questions.specs.Claims.{pairwise}
use Rattle.questions.specs.Asking.{asked_from, first_of, first_in}
use Rattle.certificate.specs.Questions.{question2, question11, on_numbers, questions}
use Rattle.certificate.specs.Certificates.{sheet_values, figure_values, certificate_values, certificate_of, sheet_shown, figures_shown, read_sheet, sheet_in}
use Rattle.questions.specs.Outcomes.{fitting, written_if_met}
use Rattle.certificate.specs.Outcome.{question12, writing, outcome_of, outcome_read, outcome}
use Rattle.certificate.specs.MarkedCases.{Each, sheet_a, sheet_b, sheet11, sheet12, sheet13, figures_read, figures_in, figures_b, marked}

between : {least x most : ℤ} → leb_ℤ least x ≡ true → leb_ℤ x most ≡ true → (least ≼ℤ x) × (x ≼ℤ most)
between low high = (leb_ℤ-true _ _ low, leb_ℤ-true _ _ high)

-- there are thirteen marked cases, and each holds
pub marked_cases : (length marked ≡ 13) × Each marked
unfolding
    -- of pair
    ceil_div root_up exact ratio plus minus times over root cube_root smaller
    leb_ℤ least greatest floor_over ceil_over signed difference signed_plus signed_minus least_product greatest_product signed_times signed_over
    -- of section
    mid_line lip_line u² ρ_at ρ ρ_plane ρ_lip k_past k_at k half_kept flange_of stiffener_of g inertia_of stress_of kf flexibility_of ud
    χ_before χ_from χ χ_of refined_flange round rounds
    kept_length lip_moment flange_moment far_web_moment near_web_moment near_lip_moment moment z full web_kept effective worked printed figures
    sheet_of values_of fineness in_ranges pairwise
    -- of lines
    decimal integer_text letter_of value_text line_text lines_text longest_line longest
    ended read_digits read_number read_signed read_letter read_value begins read_line prepend read_end and_then read_from
    -- of this crate
    sheet_fields figure_fields certificate_fields read_sheet sheet_in
    question2 question11
    on_numbers questions asked_from first_of first_in sheet_values figure_values certificate_values certificate_of sheet_shown figures_shown
    fitting question12 writing written_if_met outcome_of outcome_read outcome
    sheet_a sheet_b sheet11 sheet12 sheet13 figures_read figures_in figures_b marked
marked_cases =
    (refl, (refl, (refl, (refl, (refl, (refl, ((refl, refl), (refl, (refl, (refl, ((refl, (refl, (between refl refl, (between refl refl, between refl refl)))), (refl, (refl, (refl, tt))))))))))))))
