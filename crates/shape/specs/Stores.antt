-- The words of a store that is lent as one value, and what refuses a slot of it.
use Rattle.std.specs.Prelude.{ℕ, ◌≡◌, ◌<◌, Bool, false, cond, List, Result, Ok, Err, get_or, leb, length}
use Rattle.plain.specs.declared.EdgeRecord.{EdgeRecord}
use Rattle.plain.specs.declared.refusals.Refusal.{Refusal}
use Rattle.shape.specs.declared.Layout.{Layout}
use Rattle.shape.specs.declared.Store.{Store}
use Rattle.shape.specs.declared.StoreMut.{StoreMut}
use Rattle.shape.specs.Shape.{Words, store, edge_capacity, edge_payload_at, node_capacity}

-- of a store that is lent to be read
abbrev pub words : Store → Words
words s = store s.counts s.nodes.now s.lows.now s.highs.now s.live_nodes.now s.live_edges.now s.outgoing.now s.incoming.now

-- of a store that is lent to be written
abbrev pub words_mut : StoreMut → Words
words_mut s = store s.counts s.nodes.now s.lows.now s.highs.now s.live_nodes.now s.live_edges.now s.outgoing.now s.incoming.now

-- the layout of its axes
abbrev pub layout_of : Words → Layout
layout_of w = record { edge_capacity = edge_capacity w; node_capacity = node_capacity w; counts = w.counts }

-- the words of an edge's record are there
pub record EdgeThere (w : Words) (e : ℕ) : Type 0 where
  pub source_there : e < length w.outgoing
  pub target_there : e < length w.incoming
  pub low_there : e < length w.lows
  pub high_there : e < length w.highs

-- its ends and its payload
abbrev pub edge_of : Words → ℕ → EdgeRecord
edge_of w e = record { source = get_or w.outgoing e 0; target = get_or w.incoming e 0; payload = edge_payload_at w e }

-- the slices are those that were lent
pub record SameSlices (a b : StoreMut) : Type 0 where
  pub nodes : b.nodes.ghost_name ≡ a.nodes.ghost_name
  pub lows : b.lows.ghost_name ≡ a.lows.ghost_name
  pub highs : b.highs.ghost_name ≡ a.highs.ghost_name
  pub live_nodes : b.live_nodes.ghost_name ≡ a.live_nodes.ghost_name
  pub live_edges : b.live_edges.ghost_name ≡ a.live_edges.ghost_name
  pub outgoing : b.outgoing.ghost_name ≡ a.outgoing.ghost_name
  pub incoming : b.incoming.ghost_name ≡ a.incoming.ghost_name

-- a slot is refused at or above the bound, and where it is removed
unfoldable pub slot_refused : Refusal → Refusal → List Bool → ℕ → ℕ → Result Unit Refusal
slot_refused absent removed flags bound slot = cond (leb bound slot) (Err absent) (cond (get_or flags slot false) (Ok tt) (Err removed))
