-- `section_cases::run` is safe: a section that no question refuses is sound.
use mathlib.Core.Path.{sym, ◌∙◌}
use Rattle.certificate.proofs.Steps.{sound_when_met}
use Rattle.section_cases.proofs.run.Goals as goal

pub work-requires : goal.work-requires
work-requires g c = sound_when_met _ (sym c.first_refusal.ensures ∙ c.in-Ok.is)
