-- `section::rounds::first_round` meets its contract.
use Rattle.section.proofs.Ends.{scale-Fine}
use Rattle.section.proofs.RoundForms.{first_room}
use Rattle.section.proofs.rounds.first_round.Goals as goal

pub stiffeners_of-stiffeners-requires : goal.stiffeners_of-stiffeners-requires
stiffeners_of-stiffeners-requires c = let room = first_room _ _ (scale-Fine c.args.s) c.requires c.one-one.ensures in record { one = room.one; two = room.two }

pub factors_of-requires : goal.factors_of-requires
factors_of-requires c =
    rw (c.stiffeners_of-stiffeners.ensures.one, c.stiffeners_of-stiffeners.ensures.two) (first_room _ _ (scale-Fine c.args.s) c.requires c.one-one.ensures).rest
