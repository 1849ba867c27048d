-- What crates above may cite of whole numbers, integers and tests, apart from pairs.
pub use Rattle.pair.proofs.Tests.{by_test}
pub use Rattle.pair.proofs.Quotients.{ceil_le, over_more, over_most, parts_fit, cross_down, cross_mid, cross_up, le_ceil, min_down, min_up, pos_left, sub-mul}
pub use Rattle.pair.proofs.Powers.{pow_three}
pub use Rattle.pair.proofs.IntegerParts.{neg_size, plus_size}
pub use Rattle.pair.proofs.IntegerLaws.{le_antisym_ℤ, le-leb_ℤ, le_trans_ℤ, leb_ℤ-true, le_z-leb_ℤ, max_is_greatest, min_is_least, scaled_le, scaled_swap}
pub use Rattle.pair.proofs.Opposites.{zero_less, zero_less_size}
