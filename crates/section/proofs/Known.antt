-- What a sheet that meets the questions on its numbers is known to meet: each claim is found again by its test.
use Rattle.std.proofs.Math.Bool.{Bool-set}
use Rattle.std.proofs.Math.Logic.{∥∥₁_elim}
use Rattle.questions.specs.Claims.{Claim, ◌or◌, Holds}
use Rattle.questions.proofs.Laws.{Holds-test, test-Holds}
use Rattle.section.specs.declared.scale.Scale.{Scale}
use Rattle.section.specs.declared.Sheet.{Sheet}
use Rattle.section.specs.Sheets.{core_within, width, lip_length, depth, lip_long, lip_short, radius_core, radius_flange, mid_line_lip, form_z, lips_apart}
use Rattle.section.specs.Sound.{range_of, Sound}
use Rattle.section.specs.SectionRoom.{SheetRoom}
use Rattle.section.proofs.Ends.{scale-Fine}
use Rattle.section.proofs.SheetRooms.{sheet_room}

module _ {q : Sheet} (s : ∥ Sound q ∥₁) where
  claim : (a : Claim) → (Sound q → Holds a) → Holds a
  claim a f = test-Holds a (∥∥₁_elim s (Bool-set _ _) (λ t. Holds-test a (f t)))

  pub known : Sound q
  known = record {
    q2 = record {
      form = claim (range_of 1 q.form) (λ t. t.q2.form);
      h = claim (range_of 2 q.h) (λ t. t.q2.h);
      b1 = claim (range_of 3 q.b1) (λ t. t.q2.b1);
      b2 = claim (range_of 4 q.b2) (λ t. t.q2.b2);
      c = claim (range_of 5 q.c) (λ t. t.q2.c);
      r = claim (range_of 6 q.r) (λ t. t.q2.r);
      tnom = claim (range_of 7 q.tnom.0) (λ t. t.q2.tnom);
      t = claim (range_of 8 q.t.0) (λ t. t.q2.t);
      fyb = claim (range_of 9 q.fyb) (λ t. t.q2.fyb);
      gm0 = claim (range_of 10 q.gm0) (λ t. t.q2.gm0);
      rounds = claim (range_of 11 q.rounds) (λ t. t.q2.rounds);
      allow = claim (range_of 12 q.allow) (λ t. t.q2.allow);
      fine = claim (range_of 13 q.fine) (λ t. t.q2.fine);
    };
    q3 = record { thin = claim (core_within q.t.0 q.tnom.0) (λ t. t.q3.thin) };
    q4 = record { b1 = claim (width q.b1 q.t.0) (λ t. t.q4.b1); b2 = claim (width q.b2 q.t.0) (λ t. t.q4.b2) };
    q5 = record { c = claim (lip_length q.c q.t.0) (λ t. t.q5.c) };
    q6 = record { h = claim (depth q.h q.t.0) (λ t. t.q6.h) };
    q7 = record {
      b1 = record { long = claim (lip_long q.b1 q.c) (λ t. t.q7.b1.long); short = claim (lip_short q.b1 q.c) (λ t. t.q7.b1.short) };
      b2 = record { long = claim (lip_long q.b2 q.c) (λ t. t.q7.b2.long); short = claim (lip_short q.b2 q.c) (λ t. t.q7.b2.short) };
    };
    q8 = record {
      t = claim (radius_core q.r q.t.0) (λ t. t.q8.t);
      bp1 = claim (radius_flange q.r q.b1 q.tnom.0) (λ t. t.q8.bp1);
      bp2 = claim (radius_flange q.r q.b2 q.tnom.0) (λ t. t.q8.bp2);
    };
    q9 = record {
      bp1 = claim (mid_line_lip q.b1 q.c q.tnom.0) (λ t. t.q9.bp1);
      bp2 = claim (mid_line_lip q.b2 q.c q.tnom.0) (λ t. t.q9.bp2);
    };
    q10 = record { form = claim (form_z q.form or lips_apart q.c q.h) (λ t. t.q10.form) };
  }

-- so its working has room
pub sound_room : (s : Scale) {q : Sheet} → ∥ Sound q ∥₁ → SheetRoom s.fineness q
sound_room s h = sheet_room (scale-Fine s) (known h)
