-- Two outcomes of one compaction agree on every field, so what is no field is all that the contract leaves to the program.
use Rattle.std.specs.Prelude.{ℕ, ◌<◌, ◌≡◌, List, eqb}
use Rattle.plain.specs.Library.{sym, ap, ◌∙◌, subst₂, eqb-true, eqb-false}
use Rattle.plain.specs.declared.Counts.{Counts}
use Rattle.plain.specs.declared.TraversalDirection.{TraversalDirection}
use Rattle.plain.proofs.Laws.Booleans.{by_test}
use Rattle.liveness.specs.Laws.Calls.{reset_narrow}
use Rattle.shape.specs.Checked.{Checked}
use Rattle.shape.specs.Columns.{mark_at}
use Rattle.shape.specs.Fields.{SameFields}
use Rattle.shape.specs.Kept.{SameLengths, same_nodes, same_edges}
use Rattle.shape.specs.Shape.{Words, node_capacity, edge_capacity, axis_words, shape_of}
use Rattle.shape.specs.Laws.Agreeing.{Narrow}
use Rattle.shape.proofs.Laws.Agreeing.{counts_same, shape_fields, kept_both}
use Rattle.compact.specs.Calls.{Canonical, CompactOf}

-- the live words of a canonical store have 64 bits
canonical_narrow : {w : Words} → Canonical w → Narrow w
canonical_narrow c = record { nodes = reset_narrow c.nodes.words_set; edges = reset_narrow c.edges.words_set }

-- checked stores of one shape that are both canonical have the same fields: no node has a mark
pub canonical_fields : {v u : Words} → Checked v → Checked u → shape_of u ≡ shape_of v → SameLengths v u → Canonical v → Canonical u → SameFields v u
canonical_fields {v} {u} a b same long v-canonical u-canonical =
    shape_fields a b same long (canonical_narrow v-canonical) (canonical_narrow u-canonical) marked
  where
    bounds : u.counts.nodes.bound ≡ v.counts.nodes.bound
    bounds = ap (λ (c : Counts). c.nodes.bound) (counts_same a b same)

    marked : (d : TraversalDirection) (x : ℕ) → x < v.counts.nodes.bound
        → mark_at (axis_words d u) (edge_capacity v) (node_capacity v) x ≡ mark_at (axis_words d v) (edge_capacity v) (node_capacity v) x
    marked d x h =
        subst₂ (λ (ce cn : ℕ). mark_at (axis_words d u) ce cn x ≡ 0) (same_edges long) (same_nodes long) ((u-canonical.axis d).marks x (rw bounds h)) ∙ sym ((v-canonical.axis d).marks x h)

-- A refused compaction leaves every word; of one that is done the shape is fixed, and the store is canonical. The maps and the work slice are those of one call.
pub compaction_outcomes_agree : {w v u : Words} {node_map edge_map work node-map' edge-map' work' node-map'' edge-map'' work'' : List ℕ}
    {number value number' value' : ℕ} → CompactOf w node_map edge_map work number value v node-map' edge-map' work'
    → CompactOf w node_map edge_map work number' value' u node-map'' edge-map'' work'' → SameFields v u
compaction_outcomes_agree {number = number} a b =
    by_test (eqb number 0)
    (λ t. let done = eqb-true number 0 t in
    let too = b.numbered ∙ sym a.numbered ∙ done in
    canonical_fields (a.checked done) (b.checked too) (b.shape too ∙ sym (a.shape done)) (b.lengths ∙ sym a.lengths)
    (a.canonical done) (b.canonical too))
    (λ t. let refused = eqb-false number 0 t in
    kept_both (a.refused_keeps refused) (b.refused_keeps (λ q. refused (a.numbered ∙ sym b.numbered ∙ q))))
