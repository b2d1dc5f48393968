-- Totals: "as a low and a high sum, each exact in 64 bits: every choice of weights within the ranges sums to between them, and both ends are reached".
use Rattle.std.specs.Prelude.{ℕ, ◌*◌, ◌^◌, ◌≤◌, ◌<◌, refl, false, List, [], ◌∷◌, map, length, get_or, eqb}
use Rattle.plain.specs.Library.{sym, ◌∙◌, arith, lt-ltb}
use Rattle.plain.specs.declared.TraversalDirection.{TraversalDirection}
use Rattle.plain.specs.declared.EdgePayload.{EdgePayload}
use Rattle.plain.specs.Numbers.{LIMIT}
use Rattle.plain.specs.Lists.{sum, from}
use Rattle.plain.specs.Plain.{low_of, high_of, Plain, no_edge, node_bound, edge_bound, edge_flags, list_of, end_of}
use Rattle.plain.specs.Step.{Capacities}
use Rattle.plain.specs.Reads.{payloads_of, total}
use Rattle.plain.specs.WellFormed.{Weighed, WellFormed}
use Rattle.plain.proofs.Laws.Booleans.{and_left}
use Rattle.plain.proofs.Laws.ListLaws.{distinct_within, member_below, length_from}
use Rattle.plain.proofs.Laws.Operating.{incident, edge_below}
use Rattle.plain.proofs.Laws.CallCases.{total_there}
use Rattle.plain.specs.Laws.Totals.{Chosen, Totals, no_weight, one_weight}

-- ---- the sums of any payloads

sum_least : {rs : List EdgePayload} {ws : List ℕ} → Chosen rs ws → sum (map low_of rs) ≤ sum ws
unfolding sum
sum_least no_weight = omega arith
sum_least (one_weight h k c) = omega (arith, sum_least c)

sum_most : {rs : List EdgePayload} {ws : List ℕ} → Chosen rs ws → sum ws ≤ sum (map high_of rs)
unfolding sum
sum_most no_weight = omega arith
sum_most (one_weight h k c) = omega (arith, sum_most c)

module _ (f : ℕ → EdgePayload) (weighed : (e : ℕ) → Weighed (f e)) where
  lows_chosen : (l : List ℕ) → Chosen (map f l) (map low_of (map f l))
  lows_chosen [] = no_weight
  lows_chosen (e ∷ l) = one_weight {r = f e} {w = (f e).low} (omega arith) (weighed e).in_order (lows_chosen l)

  highs_chosen : (l : List ℕ) → Chosen (map f l) (map high_of (map f l))
  highs_chosen [] = no_weight
  highs_chosen (e ∷ l) = one_weight {r = f e} {w = (f e).high} (weighed e).in_order (omega arith) (highs_chosen l)

  -- a sum of so many words, so that no partial sum of a list of edges wraps
  pub highs_within : (l : List ℕ) → sum (map high_of (map f l)) ≤ 4_294_967_295 * length l
  unfolding sum
  highs_within [] = omega arith
  highs_within (e ∷ l) = omega (arith, (weighed e).fits, highs_within l)

-- ---- the total

module _ {caps : Capacities} {p : Plain} (formed : WellFormed caps p) (d : TraversalDirection) (x : ℕ) where
  -- a list has no more entries than there are edges
  pub list_within : length (list_of d p x) ≤ edge_bound p
  list_within =
      let within = distinct_within (list_of d p x) (from 0 (edge_bound p)) ((incident formed d).once x)
      (λ e m. member_below e (edge_bound p)
      ∙ lt-ltb e (edge_bound p) (edge_below p e (and_left (get_or (edge_flags p) e false) (eqb (end_of d p e) x) (sym ((incident formed d).listed x e) ∙ m)))) in
      omega (arith, length_from 0 (edge_bound p))

  pub totals : caps.edges ≤ LIMIT → x < node_bound p → Totals (total d p x) (payloads_of d p x)
  totals few below =
      let f : ℕ → EdgePayload = λ e. (get_or p.edges e no_edge).payload in
      let l : List ℕ = list_of d p x in
      let high : sum (map high_of (map f l)) < 2 ^ 64 = omega (arith, highs_within f formed.edge_payloads l, list_within, formed.edges_within) in
      rw (total_there d p x below) (record {
        at_least = λ ws c. sum_least c;
        at_most = λ ws c. sum_most c;
        low_reached = record { choice = map low_of (map f l); chosen = lows_chosen f formed.edge_payloads l; sums = refl };
        high_reached = record { choice = map high_of (map f l); chosen = highs_chosen f formed.edge_payloads l; sums = refl };
        low_fits = omega (arith, sum_least (highs_chosen f formed.edge_payloads l), high);
        high_fits = high;
      })
