-- The order of ranks is that of whole numbers.
pub use Rattle.ec_lists.proofs.Integers.{int_lt-same, int_lt-trans, int_lt-not_after, int_lt-is, int_eq-is, int_eq-same, cases_int, int_le-is, int_le-from as le_int_le, int_le-same, int_le-from_lt, int_lt-from_le, cases_int_le, int_le_lt-trans, int_le-not_before, int_lt-next, int_le-next, cases_next, each_of_stretch}
