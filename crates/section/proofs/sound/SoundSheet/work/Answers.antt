-- `section::sound::SoundSheet::work` meets its contract.
use Rattle.section.proofs.Known.{sound_room}
use Rattle.section.proofs.sound.SoundSheet.work.Goals as goal

pub work_of-requires : goal.work_of-requires
work_of-requires c = sound_room c.args.s c.args.self.sound
