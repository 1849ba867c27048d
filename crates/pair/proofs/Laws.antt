-- What crates above may cite of pairs: a finer result lies inside a coarser one, ends stay in order, bounds carry, results fit.
pub use Rattle.pair.proofs.Fitting.{minus_out}
pub use Rattle.pair.proofs.Ratios.{over_twice, ratio-exact}
pub use Rattle.pair.proofs.PairLaws.{cube_root-Ordered, fine_positive, Inside-Ordered, minus-Inside, minus-Ordered, NotAbove-refl, NotAbove-trans, over-Inside, plus_comm, plus-Ordered, plus_right_comm, Positive-Inside, ratio-Inside, ratio-Ordered, ratio-Positive, same_scale, smaller_first, smaller-Inside, smaller-NotAbove, smaller_second, times_comm, times-Inside, times-Ordered}
pub use Rattle.pair.proofs.ExactResults.{cube_root-Between, minus-Between, plus-Between, times-Between}
pub use Rattle.pair.proofs.Bounds.{AtLeast-Positive, box_wider, cube_root-AtLeast, cube_root-AtMost, cube_root_box, cube_root_fits_lem, exact-AtLeast, exact-AtMost, exact_ratio_lem, minus-AtLeast, minus-AtMost, minus_box, minus_fits_lem, over_box, over_fits_lem, over_ratio_fits_lem, over_twice_fits, own_least, own_most, plus-AtLeast, plus-AtMost, plus_box, plus_fits_lem, ratio_box, ratio_fits_lem, root-AtMost, root_box, root_fits_lem, smaller_box, times-AtLeast, times-AtMost, times_box, times_fits_lem, times_ratio_fits_lem}
pub use Rattle.pair.proofs.IntegerRounding.{ceil_scaled, floor_scaled}
pub use Rattle.pair.proofs.SignedLaws.{difference-Ordered, high_between, high_between_ℤ, low_between, low_between_ℤ, signed_minus_inside, signed_ordered_lem}
pub use Rattle.pair.proofs.SignedProducts.{signed_times_comm}
pub use Rattle.pair.proofs.SignedBounds.{Within, ceil_within, difference-Reaches, floor_within, high_within, low_within, signed_minus-Reaches, signed_over_fits_lem, signed_over-Reaches, signed_plus_fits_lem, signed_plus-Reaches, signed-Reaches, signed_times_fits_lem, signed_times-Reaches, times-Within}
pub use Rattle.pair.proofs.Nesting.{inside}
