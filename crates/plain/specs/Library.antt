-- The lemmas of the toolchain's library that all crates share, so that a file's head has one line for them. Numbers, equations, truth values and lists are imported from the
-- library's own `Prelude`, so that a symbol such as `≡`, `<` or `length` means what the library says; what few files cite they take from the library themselves too.
pub use Rattle.std.proofs.Common.{◌∙◌, sym, ap, subst, ap₂, subst₂, ⊎_elim, inl, inr, append_assoc, append-nil, length-set, length-append, length-drop, get_or-set_other, get_or-set_same, ext_get_or, take_at, pow_pos, zero-add, lt_of_lt_of_le, add-one, arith, rules, eq-eqb, eqb-true, ne_eqb, lt-ltb, ltb-true, le-leb, le-ltb, leb-true}
pub use Rattle.std.proofs.Math.Option.{none, some, Option}
pub use Rattle.std.proofs.lemmas.Simd.{map-map}
pub use Rattle.std.proofs.lemmas.List.{length-map, length-replicate}
pub use Rattle.std.proofs.Math.ListN.{get_or-append, get_or-eq_default, get_or-map}
pub use Rattle.std.proofs.Math.Seq.{append_snoc}
pub use Rattle.std.proofs.lemmas.Bool.{eqb-false, not-false, not-true, lt-leb}
