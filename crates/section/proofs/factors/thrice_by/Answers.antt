use Rattle.std.proofs.Common.{refl}
use borrow.Author.Tests.{le-leb, lt-leb}
use Rattle.section.proofs.BySquares.{thrice_is}
use Rattle.section.proofs.factors.thrice_by.Goals as goal

pub returns : goal.returns
returns g c =
    thrice_is g.R.Rounding.laws c.args.n c.args.d c.requires.few
    (λ h. rw (c.from.ensures, le-leb _ _ h) refl) (λ h. rw (c.from.ensures, lt-leb _ _ h) refl) (λ h. rw (c.from-2.ensures, le-leb _ _ h) refl) (λ h. rw (c.from-2.ensures, lt-leb _ _ h) refl) c.added.ensures
