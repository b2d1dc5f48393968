-- What a checked book hands over: its live slots can be read, and in each direction the ends and lists by its maps are those of its survivors, raised.
use Rattle.std.specs.Prelude.{ℕ, ◌+◌, ◌<◌, ◌≤◌, ◌≡◌, refl, Bool, false, true, List, map, get_or, length}
use Rattle.plain.specs.Library.{◌∙◌, ap, sym, map-map, arith}
use Rattle.plain.specs.declared.Slots.{Slots}
use Rattle.plain.specs.declared.TraversalDirection.{TraversalDirection}
use Rattle.plain.specs.declared.TraversalDirection.TheVariants.{Incoming, Outgoing}
use Rattle.plain.specs.Compaction.{Survivors, rank, surviving_list, survivors}
use Rattle.plain.specs.Joining.{raised}
use Rattle.plain.proofs.Laws.ListLaws.{map_same}
use Rattle.plain.specs.Lists.{joined}
use Rattle.plain.specs.Numbers.{LIMIT}
use Rattle.plain.specs.Plain.{node_flags}
use Rattle.plain.specs.Reads.{live_slots}
use Rattle.shape.specs.Checked.{Checked, SlotsChecked}
use Rattle.shape.specs.Columns.{end_at}
use Rattle.shape.proofs.Laws.Reading.{plain_node_flags}
use Rattle.shape.specs.Shape.{Words, axis_words, edge_capacity, edge_live, lists, node_capacity, node_live}
use Rattle.adjacency.specs.Laws.StoreWalks.{checked_walkable}
use Rattle.survivors.specs.Laws.Left.{end_in}
use Rattle.survivors.proofs.Laws.Left.{ends_left, slot_low}
use Rattle.survivors.proofs.Laws.Lists.{lists_live, lists_renumbered, lists_total}
use Rattle.survivors.specs.Lists.{live_walks}
use Rattle.survivors.proofs.Laws.Slots.{slots_there}
use Rattle.join_columns.specs.Sides.{EndsReadable, EntriesReadable, side_ends, side_entries, side_of}
use Rattle.join_columns.specs.Slots.{LiveReadable}

-- the lists of survivors in a direction
abbrev pub lists_in : TraversalDirection → Survivors → List (List ℕ)
lists_in Outgoing s = s.outs
lists_in Incoming s = s.ins

module _ {w : Words} (k : Checked w) where
  -- within the limit
  pub nodes_few : w.counts.nodes.bound ≤ LIMIT
  nodes_few = omega (arith, k.nodes.bounded.bound_within, (k.axis Outgoing).sized.nodes_within)

  pub edges_few : w.counts.edges.bound ≤ LIMIT
  edges_few = omega (arith, k.edges.bounded.bound_within, (k.axis Outgoing).sized.edges_within)

-- a column that is long enough for a kind of slot can be read
pub slots_readable : {c : ℕ} {live : List ℕ} {s : Slots} → SlotsChecked c live s → (words : List ℕ) → c ≤ length words → LiveReadable words live s.bound
slots_readable k words long = record { there = slots_there k; room = omega (arith, k.bounded.bound_within) }

-- ---- one direction

-- The maps of a book: at each live slot its rank, counted from `nodes-from` and `edges-from` on.
pub record Mapped (w : Words) (nodes-from edges-from : ℕ) (node_map edge_map : List ℕ) : Type 0 where
  pub nodes : (x : ℕ) → get_or (node_live w) x false ≡ true → get_or node_map x 0 ≡ nodes-from + rank (node_live w) x
  pub edges : (e : ℕ) → get_or (edge_live w) e false ≡ true → get_or edge_map e 0 ≡ edges-from + rank (edge_live w) e
  pub nodes_long : w.counts.nodes.bound ≤ length node_map
  pub edges_long : w.counts.edges.bound ≤ length edge_map

lists_survive : (w : Words) (d : TraversalDirection) → joined (map (surviving_list d (lists w)) (live_slots (node_flags (lists w)))) ≡ joined (lists_in d (survivors (lists w)))
unfolding survivors
lists_survive w Outgoing = refl
lists_survive w Incoming = refl

module _ {w : Words} (k : Checked w) {a b : ℕ} {node_map edge_map : List ℕ} (m : Mapped w a b node_map edge_map) (d : TraversalDirection) where
  end_low : (e : ℕ) → get_or (edge_live w) e false ≡ true → end_at (axis_words d w) e < w.counts.nodes.bound
  end_low e l = (k.axis d).ends_below e (slot_low w.live_edges w.counts.edges.bound e l)

  pub ends_readable : EndsReadable (side_of d w node_map edge_map)
  ends_readable = record {
    readable = slots_readable k.edges (axis_words d w) (omega (arith, (k.axis d).sized.room));
    counted = k.edges.live.live_right;
    mapped = λ e l. let low = end_low e l in omega (arith, m.nodes_long);
  }

  pub entries_readable : EntriesReadable (side_of d w node_map edge_map)
  entries_readable = record {
    walkable = λ x node. checked_walkable k d x node;
    live_long = slots_there k.nodes;
    counted = lists_total k d ∙ sym k.edges.live.live_right;
    mapped = λ e i. let low = slot_low w.live_edges w.counts.edges.bound e (lists_live k d e i) in omega (arith, m.edges_long);
  }

  -- the ends by the new numbers
  pub book_ends : side_ends (side_of d w node_map edge_map) ≡ raised a (map (end_in d) (survivors (lists w)).edges)
  book_ends = map-map (λ x. get_or node_map x 0) (λ e. get_or (axis_words d w) e 0) (live_slots (edge_live w)) ∙ ends_left k a node_map m.nodes d

  -- the lists by the new numbers
  pub book_entries : side_entries (side_of d w node_map edge_map) ≡ raised b (joined (lists_in d (survivors (lists w))))
  book_entries =
      let walks = live_walks (axis_words d w) (edge_capacity w) (node_capacity w) w.counts w.live_nodes w.live_edges in
      map_same (λ e. get_or edge_map e 0) (λ e. b + rank (edge_live w) e) walks (λ e i. m.edges e (lists_live k d e i))
      ∙ sym (map-map (λ x. b + x) (rank (edge_live w)) walks)
      ∙ ap (raised b)
      (lists_renumbered k d ∙ ap (λ (f : List Bool). joined (map (surviving_list d (lists w)) (live_slots f))) (sym (plain_node_flags w)) ∙ lists_survive w d)
