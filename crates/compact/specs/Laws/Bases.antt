-- What an axis is once a new base was put into it.
use Rattle.std.specs.Prelude.{ℕ, ◌*◌, ◌+◌, ◌<◌, ◌≤◌, ◌≡◌, List, get_or, take}
use Rattle.plain.specs.Library.{◌∙◌, sym, arith}
use Rattle.plain.specs.declared.Counts.{Counts}
use Rattle.plain.specs.Lists.{joined}
use Rattle.plain.specs.WellFormed.{Fitted}
use Rattle.shape.specs.Columns.{cell}
use Rattle.shape.specs.Index.{ends_of}
use Rattle.shape.specs.Kept.{AxisRenewed}
use Rattle.shape.proofs.Laws.Indexing.{ends_same, length_ends, map_from_same}
use Rattle.shape.specs.Laws.NewBase.{NewBase}
use Rattle.shape.proofs.Laws.NewBase.{built_by}
use Rattle.compact.specs.Bases.{Rebuildable, Rebuilt}

-- ---- the axis afterwards

module _ {ws : List ℕ} {ce cn n m : ℕ} {entries ws' : List ℕ} (pre : Rebuildable ws ce cn n m entries) (r : Rebuilt ws ce cn n m entries ws') where
  -- it holds a new base of the ends and the lists
  pub rebuilt_base : (counts : Counts) (lists : List (List ℕ)) → counts.nodes.bound ≡ n → counts.nodes.base ≡ n → counts.edges.bound ≡ m
      → counts.edges.base ≡ m → take m entries ≡ joined lists → Fitted n (ends_of ws m) lists → NewBase ws' ce cn counts (ends_of ws m) lists
  rebuilt_base counts lists bound base edges_bound edges_base lined fitted =
      let c = pre.compressible in
      let nodes_fit = c.nodes_fit in
      let edges_fit = c.edges_fit in
      let built = built_by entries lists edges_fit pre.there r.offsets r.lists lined in
      let kept : (i : ℕ) → i < 4 * ce → get_or ws' i 0 ≡ get_or r.copied i 0 = λ i h. r.marks.below i (omega arith) ∙ r.rings.below i h in
      record {
        fitted = rw bound fitted;
        built = record {
          ends_there = rw (length_ends ws m) (ends_same ws' ws m (λ e h. kept e (omega arith) ∙ r.lists.below e (omega arith) ∙ r.offsets.below e (omega arith)));
          offsets = λ x h. let low : x < n + 1 = (let b = bound in omega arith) in
              r.marks.above (4 * ce + 5 * cn + x) (omega arith) ∙ r.rings.above (4 * ce + 5 * cn + x) (omega arith) ∙ built.offsets x low;
          entries = rw (length_ends ws m)
              (map_from_same (cell ws' ce) (cell r.copied ce) 0 m (λ i l h. kept (ce + i) (omega arith)) ∙ (rw (length_ends ws m) at built.entries));
        };
        nodes_based = base ∙ sym bound;
        edges_based = edges_base ∙ sym (length_ends ws m);
        edges_bound = edges_bound ∙ sym (length_ends ws m);
        rings = λ x h. let low : x < n = (let b = bound in omega arith) in r.marks.below (4 * ce + x) (omega arith) ∙ r.rings.within x low;
        marks = λ x h. let low : x < n = (let b = bound in omega arith) in r.marks.within x low;
      }

  -- of the other words each is as it was
  pub rebuilt_renewed : (vs : List ℕ) → ((i : ℕ) → m ≤ i → get_or ws i 0 ≡ get_or vs i 0) → AxisRenewed vs ws' ce cn n m
  rebuilt_renewed vs was =
      let nodes_fit = pre.compressible.nodes_fit in
      let edges_fit = pre.compressible.edges_fit in
      record {
        ends = λ i l h. low i (omega arith) ∙ r.lists.below i h ∙ r.offsets.below i (omega arith) ∙ was i l;
        adjacency = λ i l h. low i (omega arith) ∙ r.lists.above i l ∙ r.offsets.below i (omega arith) ∙ was i (omega arith);
        links = λ i l h. low i h ∙ r.lists.above i (omega arith) ∙ r.offsets.below i (omega arith) ∙ was i (omega arith);
        last = λ i l h. r.marks.below i (omega arith) ∙ high i l ∙ r.offsets.below i (omega arith) ∙ was i (omega arith);
        runs = λ i l h. r.marks.below i (omega arith) ∙ high i (omega arith) ∙ r.offsets.below i (omega arith) ∙ was i (omega arith);
        mark = λ i l h. r.marks.above i l ∙ high i (omega arith) ∙ r.offsets.below i (omega arith) ∙ was i (omega arith);
        offsets = λ i l. r.marks.above i (omega arith) ∙ high i (omega arith) ∙ r.offsets.above i (omega arith) ∙ was i (omega arith);
      }
    where
      low : (i : ℕ) → i < 4 * ce → get_or ws' i 0 ≡ get_or r.copied i 0
      low i h = r.marks.below i (omega arith) ∙ r.rings.below i h

      high : (i : ℕ) → 4 * ce + n ≤ i → get_or r.emptied i 0 ≡ get_or r.counted i 0
      high i h = let edges_fit = pre.compressible.edges_fit in r.rings.above i h ∙ r.lists.above i (omega arith)
