-- The words of std, for the proofs of this crate.
pub use Rattle.std.proofs.Common.{Bool, List, None, Option, Some, [], add_assoc, ap, arith, bytes_eq, codes, drop, false, get_or, if◌then◌else◌, inl, inr, length, nat_le, nat_lt, refl, rules, slice_index, suc, sym, take, true, vec_len, zero, ℕ, ◌%◌, ◌&&◌, ◌*◌, ◌++◌, ◌+◌, ◌-◌, ◌/◌, ◌<◌, ◌==◌, ◌^◌, ◌||◌, ◌∙◌, ◌∷◌, ◌≡◌, ◌≤◌, ◌⊎◌}
pub use Rattle.std.proofs.Math.Nat.{min_comm}
pub use Rattle.std.proofs.lemmas.Bool.{and_parts}
pub use Rattle.std.proofs.lemmas.Bool.Decides.{nat_tests}
pub use Rattle.std.proofs.lemmas.List.{append_assoc, drop-append-le, drop-drop, drop-take, drop_all, drop_at, get_or-drop, get_or_read, length-append, length-drop, length-take, length-take-le, places, same_lists, take-append-drop, take-append-le, take_all, take_at, take_min}
pub use Rattle.std.proofs.lemmas.Option.{none-some, same_Some}
pub use Rattle.std.proofs.lemmas.Result.{err_from_is_err_and}
pub use Rattle.std.proofs.lemmas.Slice.Eq.{bytes_eq-Decides}
