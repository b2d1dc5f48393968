-- The joined lists of both directions: as many entries as the live edges twice, each a live edge, and by new numbers the adjacency of the survivors.
use Rattle.std.specs.Prelude.{ℕ, ◌*◌, ◌≡◌, Bool, false, true, List, ◌++◌, map, get_or, length}
use Rattle.plain.specs.Library.{◌∙◌, ap, ap₂, sym, length-append, arith}
use mathlib.Core.List.{map-append}
use Rattle.plain.specs.declared.TraversalDirection.{TraversalDirection}
use Rattle.plain.specs.declared.TraversalDirection.TheVariants.{Incoming, Outgoing}
use Rattle.plain.specs.Compaction.{adjacency, rank, surviving_list, survivors}
use Rattle.plain.specs.Lists.{joined, member}
use Rattle.plain.specs.Plain.{node_flags}
use Rattle.plain.specs.Reads.{live_slots}
use Rattle.plain.proofs.Laws.Booleans.{by_test, or_other}
use Rattle.plain.proofs.Laws.ListLaws.{member_append}
use Rattle.shape.specs.Checked.{Checked}
use Rattle.shape.specs.Shape.{Words, edge_live, lists}
use Rattle.shape.proofs.Laws.Reading.{plain_node_flags}
use Rattle.survivors.specs.Lists.{walks_in}
use Rattle.survivors.specs.Working.{both_walks}
use Rattle.survivors.proofs.Laws.Lists.{lists_live, lists_renumbered, lists_total}

module _ {w : Words} (k : Checked w) where
  pub walks_length : (d : TraversalDirection) → length (walks_in d w) ≡ w.counts.edges.live
  walks_length d = lists_total k d ∙ sym k.edges.live.live_right

  pub both_length : length (both_walks w) ≡ 2 * w.counts.edges.live
  unfolding both_walks
  both_length =
      let a = walks_length Outgoing in let b = walks_length Incoming in rw (length-append (walks_in Outgoing w) (walks_in Incoming w)) (omega arith)

  -- every entry is a live edge
  pub both_live : (e : ℕ) → member e (both_walks w) ≡ true → get_or (edge_live w) e false ≡ true
  unfolding both_walks
  both_live e m =
      by_test (member e (walks_in Outgoing w)) (λ q. lists_live k Outgoing e q)
      (λ q. lists_live k Incoming e (or_other (sym (member_append e (walks_in Outgoing w) (walks_in Incoming w)) ∙ m) q))

  -- by new numbers they are the adjacency of the survivors
  pub both_renumbered : map (rank (edge_live w)) (both_walks w) ≡ adjacency (survivors (lists w))
  unfolding both_walks adjacency survivors
  both_renumbered =
      let p = lists w in
      let survive : (d : TraversalDirection) → map (rank (edge_live w)) (walks_in d w) ≡ joined (map (surviving_list d p) (live_slots (node_flags p))) =
      λ d. lists_renumbered k d ∙ ap (λ (f : List Bool). joined (map (surviving_list d p) (live_slots f))) (sym (plain_node_flags w)) in
      map-append (rank (edge_live w)) (walks_in Outgoing w) (walks_in Incoming w) ∙ ap₂ (λ (a b : List ℕ). a ++ b) (survive Outgoing) (survive Incoming)
