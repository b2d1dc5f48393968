-- A chain over the first numbers that all pass a test, as the plain test of all of them.
use Rattle.std.specs.Prelude.{ℕ, zero, suc, ◌≡◌, refl, Bool, ◌&&◌}
use Rattle.std.specs.List.{list_all, range_with_len}
use Rattle.plain.specs.Library.{ap, ◌∙◌, add-one}
use Rattle.plain.specs.Lists.{all, from}

pub all_from : (test : ℕ → Bool) (a n : ℕ) → list_all test (range_with_len a n) ≡ all test (from a n)
unfolding all from
all_from test a zero = refl
all_from test a (suc n) = ap (λ (b : Bool). test a && b) (ap (λ (i : ℕ). list_all test (range_with_len i n)) (add-one a) ∙ all_from test (suc a) n)
