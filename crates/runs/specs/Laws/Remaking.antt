-- A node's list remade as a run: what the run holds, and that every other node has what it had.
use Rattle.std.specs.Prelude.{ℕ, ◌+◌, ◌*◌, ◌≤◌, ◌<◌, ◌≡◌, refl, ◌≢◌, List, [], get_or, eqb}
use Rattle.plain.specs.Library.{ap, ◌∙◌, some, arith, eqb-true, eqb-false}
use Rattle.std.proofs.Common.{le_trans}
use Rattle.plain.specs.declared.Counts.{Counts}
use Rattle.plain.proofs.Laws.Booleans.{by_test}
use Rattle.shape.specs.Columns.{mark_at}
use Rattle.shape.specs.Chains.{In}
use Rattle.shape.specs.Shape.{adjacency_in, Adjacency, raw, base_of, run_list, run_of, ring_of}
use Rattle.shape.specs.Checked.{Index, Rings}
use Rattle.shape.specs.Kept.{axis_kept_again}
use Rattle.shape.proofs.Laws.Frames.{base_kept, index_kept}
use Rattle.runs.specs.Runs.{Edited}
use Rattle.runs.specs.Laws.Editing.{same_entries, list_of_run, mark_of_run, edited_ring, edited_rings, edited_kept, edited_writes}
use Rattle.runs.specs.Overlay.{Ready, Remade}

-- equal parts make equal adjacencies
pub node_same : {a b : Adjacency} → a.base ≡ b.base → a.run ≡ b.run → a.ring ≡ b.ring → a ≡ b
node_same p q r = λ i. record { base = p i; run = q i; ring = r i }

-- ---- an edit leaves base parts and rings

module _ {ws vs : List ℕ} {ce cn : ℕ} {counts : Counts} {node : ℕ} {ys own : List ℕ} (done : Edited ws vs ce cn counts node ys own)
    (nodes_based : counts.nodes.base ≤ counts.nodes.bound) (edges_based : counts.edges.base ≤ counts.edges.bound)
    (index : Index ws ce cn counts.nodes.base counts.edges.base)
  where
    -- the columns of the index are not written
    offsets : (i : ℕ) → 4 * ce + 5 * cn ≤ i → i < 4 * ce + 6 * cn + 1 → get_or vs i 0 ≡ get_or ws i 0
    offsets i l h =
        let e = done.editable in
        done.above i (omega arith) (omega (arith, e.node_below, e.nodes_within)) (omega (arith, e.node_below, e.nodes_within))
        (omega (arith, e.node_below, e.nodes_within)) (omega (arith, e.node_below, e.nodes_within))

    -- every base part
    pub edited_base : (x : ℕ) → base_of vs ce cn counts.nodes.base x ≡ base_of ws ce cn counts.nodes.base x
    edited_base =
        base_kept vs (le_trans nodes_based done.editable.nodes_within) (le_trans edges_based done.editable.edges_within) index
        (λ i l h. done.below i (omega arith)) offsets

    -- rule 4
    pub edited_index : Index vs ce cn counts.nodes.base counts.edges.base
    edited_index =
        index_kept vs (le_trans nodes_based done.editable.nodes_within) (le_trans edges_based done.editable.edges_within) index
        (λ i l h. done.below i (omega arith)) offsets

    -- another node
    pub edited_node : Rings ws ce counts.nodes.bound counts.edges.base counts.edges.bound → (x : ℕ) → x < counts.nodes.bound → x ≢ node
        → adjacency_in vs ce cn counts x ≡ adjacency_in ws ce cn counts x
    edited_node rings x h ne = node_same (edited_base x) (done.others x h ne) (edited_ring done counts.edges.base rings x h)

-- ---- a node that is remade

-- an edit of a node whose ring is empty
pub remade_run : {ws vs : List ℕ} {ce cn : ℕ} {counts : Counts} {node : ℕ} {ys own : List ℕ} → counts.nodes.base ≤ counts.nodes.bound
    → counts.edges.base ≤ counts.edges.bound → Index ws ce cn counts.nodes.base counts.edges.base
    → Rings ws ce counts.nodes.bound counts.edges.base counts.edges.bound
    → ring_of ws ce counts.edges.base counts.edges.bound node ≡ [] → ((e : ℕ) → In e own → In e (raw (adjacency_in ws ce cn counts node)))
    → Edited ws vs ce cn counts node ys own → Remade ws vs ce cn counts node ys
remade_run {counts = counts} {node = node} nodes_based edges_based index rings empty within done =
    record {
      here =
          node_same (edited_base done nodes_based edges_based index node) done.here
          (edited_ring done counts.edges.base rings node done.editable.node_below ∙ empty);
      others = edited_node done nodes_based edges_based index rings;
      editable = done.editable;
      rings = edited_rings done counts.edges.base rings;
      index = edited_index done nodes_based edges_based index;
      below = done.below;
      frame = edited_kept done;
      writes = λ i l o. edited_writes done i (λ q. l (q.0, q.1, within q.0 q.2)) o;
    }

module _ {ws vs : List ℕ} {ce cn : ℕ} {counts : Counts} {live : List ℕ} {node : ℕ} where
  -- an edit before the node is remade
  pub edited_remade : {us ys zs own : List ℕ} → Ready ws ce cn counts live node → ((e : ℕ) → In e own → In e (raw (adjacency_in ws ce cn counts node)))
      → ((e : ℕ) → In e (raw (adjacency_in us ce cn counts node)) → In e (raw (adjacency_in ws ce cn counts node)))
      → Edited ws us ce cn counts node ys own → Remade us vs ce cn counts node zs → Remade ws vs ce cn counts node zs
  edited_remade {us} {ys} {zs} pre within there done made =
      record {
        here = made.here ∙ node_same (edited_base done pre.nodes_based pre.edges_based pre.index node) refl refl;
        others = λ x h ne. made.others x h ne ∙ edited_node done pre.nodes_based pre.edges_based pre.index pre.rings x h ne;
        editable = made.editable;
        rings = made.rings;
        index = made.index;
        below = λ i h. made.below i h ∙ done.below i h;
        frame = axis_kept_again (edited_kept done) made.frame;
        writes = λ i l o. made.writes i (λ q. l (q.0, q.1, there q.0 q.2)) o
            ∙ edited_writes done i (λ q. l (q.0, q.1, within q.0 q.2)) o;
      }

-- an edit after it
pub remade_edited : {ws us vs ys zs : List ℕ} {ce cn : ℕ} {counts : Counts} {node : ℕ} → counts.nodes.base ≤ counts.nodes.bound
    → counts.edges.base ≤ counts.edges.bound → ((e : ℕ) → In e ys → In e (raw (adjacency_in ws ce cn counts node))) → Remade ws us ce cn counts node ys
    → Edited us vs ce cn counts node zs ys → Remade ws vs ce cn counts node zs
remade_edited {ws} {us} {vs} {ce = ce} {cn = cn} {counts = counts} {node = node} nodes_based edges_based within made done =
    record {
      here =
          node_same (edited_base done nodes_based edges_based made.index node ∙ ap (λ (a : Adjacency). a.base) made.here) done.here
          (edited_ring done counts.edges.base made.rings node made.editable.node_below ∙ ap (λ (a : Adjacency). a.ring) made.here);
      others = λ x h ne. edited_node done nodes_based edges_based made.index made.rings x h ne ∙ made.others x h ne;
      editable = done.editable;
      rings = edited_rings done counts.edges.base made.rings;
      index = edited_index done nodes_based edges_based made.index;
      below = λ i h. done.below i h ∙ made.below i h;
      frame = axis_kept_again made.frame (edited_kept done);
      writes = λ i l o. edited_writes done i (λ q. l (q.0, q.1, within q.0 q.2)) o ∙ made.writes i l o;
    }

module _ {ws vs : List ℕ} {ce cn : ℕ} {counts : Counts} {node : ℕ} {ys : List ℕ} (made : Remade ws vs ce cn counts node ys) where
  -- the run of a node that is remade
  pub remade_of : run_of vs ce cn node ≡ some ys
  remade_of = ap (λ (a : Adjacency). a.run) made.here

  -- its entries
  pub remade_list : run_list vs ce cn node ≡ ys
  remade_list = list_of_run vs ce cn node remade_of

  -- and its mark
  pub remade_mark : mark_at vs ce cn node ≢ 0
  remade_mark = mark_of_run vs ce cn node remade_of

  -- the entries of another node's run
  pub remade_other : (x : ℕ) → x < counts.nodes.bound → x ≢ node → run_list vs ce cn x ≡ run_list ws ce cn x
  remade_other x h ne = same_entries ws vs ce cn x (ap (λ (a : Adjacency). a.run) (made.others x h ne))

  -- an edge that is not among the entries ys is in no run where it was in none before but the node's
  pub remade_new : (e : ℕ) → (In e ys → ⊥) → ((x : ℕ) → x < counts.nodes.bound → x ≢ node → In e (run_list ws ce cn x) → ⊥)
      → (x : ℕ) → x < counts.nodes.bound → In e (run_list vs ce cn x) → ⊥
  remade_new e gone elsewhere x h m =
      by_test (eqb x node) (λ t. gone (rw (eqb-true x node t, remade_list) at m))
      (λ t. let ne = eqb-false x node t in elsewhere x h ne (rw (remade_other x h ne) at m))
