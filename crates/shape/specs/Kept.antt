-- What calls leave of the words of a store: of the store at entry, w, and at exit, v, or of the words of one axis, `ws` and `vs`. Word i of a list is `get_or l i 0`;
-- that every slice is as long as it was is said beside, by `SameLengths`.
use Rattle.std.specs.Prelude.{ℕ, ◌+◌, ◌*◌, ◌≤◌, ◌<◌, ◌≡◌, refl, ◌⊎◌, List, length, get_or}
use Rattle.plain.specs.Library.{sym, ap, ◌∙◌, inl, inr, ⊎_elim, arith}
use Rattle.std.proofs.Common.{le_refl, le_trans}
use Rattle.plain.specs.declared.TraversalDirection.{TraversalDirection}
use Rattle.plain.specs.declared.TraversalDirection.TheVariants.{Outgoing, Incoming}
use Rattle.plain.specs.Memory.{Lengths}
use Rattle.plain.proofs.Laws.Booleans.{below_or_not}
use Rattle.shape.specs.Shape.{Words, node_capacity, edge_capacity, lengths_of, axis_words}

-- every slice is as long as it was
abbrev pub SameLengths : Words → Words → Type 0
SameLengths w v = lengths_of v ≡ lengths_of w

-- the words from `from` on, and those of them below `to`
abbrev pub SameFrom : List ℕ → List ℕ → ℕ → Type 0
SameFrom ws vs from = (i : ℕ) → from ≤ i → get_or vs i 0 ≡ get_or ws i 0

abbrev pub SameWithin : List ℕ → List ℕ → ℕ → ℕ → Type 0
SameWithin ws vs from to = (i : ℕ) → from ≤ i → i < to → get_or vs i 0 ≡ get_or ws i 0

-- the live words that hold no bit of a slot below n
abbrev pub SameBits : List ℕ → List ℕ → ℕ → Type 0
SameBits ws vs n = (i : ℕ) → n ≤ 64 * i → get_or vs i 0 ≡ get_or ws i 0

-- One kind of slot, with payload words ps and live words ws before, qs and vs after: no word is written that holds nothing of a slot below n.
pub record SlotsPast (ps qs ws vs : List ℕ) (n : ℕ) : Type 0 where
  pub payloads : SameFrom ps qs n
  pub live : SameBits ws vs n

-- ---- spare words

-- The words that no call writes: of the highs those past the edge capacity, of both live slices those that hold no bit of a slot below the capacity, of both axes
-- those past the last offset.
pub record Spared (w v : Words) : Type 0 where
  pub highs : SameFrom w.highs v.highs (edge_capacity w)
  pub live_nodes : SameBits w.live_nodes v.live_nodes (node_capacity w)
  pub live_edges : SameBits w.live_edges v.live_edges (edge_capacity w)
  pub axis : (d : TraversalDirection) → SameFrom (axis_words d w) (axis_words d v) (4 * edge_capacity w + 6 * node_capacity w + 1)

pub nothing_spared : (w : Words) → Spared w w
nothing_spared w = record { highs = λ i h. refl; live_nodes = λ i h. refl; live_edges = λ i h. refl; axis = λ d i h. refl }

-- ---- what an operation of a strip may write

-- the mark of a node afterwards: as it was, or 1 where it was 0; so a mark that is not 0 stays
abbrev pub Mark : ℕ → ℕ → Type 0
Mark was is = (is ≡ was) ⊎ ((was ≡ 0) × (is ≡ 1))

-- the mark of a new node, whatever stood there
abbrev pub NewMark : ℕ → Type 0
NewMark is = (is ≡ 0) ⊎ (is ≡ 1)

-- Of one axis, column by column, where ob is the node bound before, nb and eb are the bounds afterwards: no word of the index, none of a slot past the bound, none
-- past the axis.
pub record AxisKept (ws vs : List ℕ) (ce cn ob nb eb : ℕ) : Type 0 where
  -- a word an edge
  pub ends : SameWithin ws vs eb ce
  pub adjacency : SameWithin ws vs ce (2 * ce)
  pub next : SameWithin ws vs (2 * ce + eb) (3 * ce)
  pub links : SameWithin ws vs (3 * ce + eb) (4 * ce)
  -- a word a node
  pub last : SameWithin ws vs (4 * ce + nb) (4 * ce + cn)
  pub first : SameWithin ws vs (4 * ce + cn + nb) (4 * ce + 2 * cn)
  pub tail : SameWithin ws vs (4 * ce + 2 * cn + nb) (4 * ce + 3 * cn)
  pub count : SameWithin ws vs (4 * ce + 3 * cn + nb) (4 * ce + 4 * cn)
  pub mark : SameWithin ws vs (4 * ce + 4 * cn + nb) (4 * ce + 5 * cn)
  -- the marks of the nodes that were there, and of those that came
  pub marks : (i : ℕ) → 4 * ce + 4 * cn ≤ i → i < 4 * ce + 4 * cn + ob → Mark (get_or ws i 0) (get_or vs i 0)
  pub new_marks : (i : ℕ) → 4 * ce + 4 * cn + ob ≤ i → i < 4 * ce + 4 * cn + nb → NewMark (get_or vs i 0)
  -- the offsets, and the words past the axis
  pub offsets : SameFrom ws vs (4 * ce + 5 * cn)

-- Of a store: bounds do not fall, and no word past them is written. Payloads and flags below the bounds are those of the shape.
pub record Kept (w v : Words) : Type 0 where
  pub nodes_grow : w.counts.nodes.bound ≤ v.counts.nodes.bound
  pub edges_grow : w.counts.edges.bound ≤ v.counts.edges.bound
  pub nodes : SlotsPast w.nodes v.nodes w.live_nodes v.live_nodes v.counts.nodes.bound
  pub edges : SlotsPast w.lows v.lows w.live_edges v.live_edges v.counts.edges.bound
  pub highs : SameFrom w.highs v.highs v.counts.edges.bound
  pub axis : (d : TraversalDirection)
      → AxisKept (axis_words d w) (axis_words d v) (edge_capacity w) (node_capacity w) w.counts.nodes.bound v.counts.nodes.bound v.counts.edges.bound

-- ---- what compaction and image reading may write

-- Of one axis, where n and m are the bounds afterwards: ends and entries of m edges, ring and mark of n nodes, n + 1 offsets.
pub record AxisRenewed (ws vs : List ℕ) (ce cn n m : ℕ) : Type 0 where
  pub ends : SameWithin ws vs m ce
  pub adjacency : SameWithin ws vs (ce + m) (2 * ce)
  -- ring links and run links
  pub links : SameWithin ws vs (2 * ce) (4 * ce)
  pub last : SameWithin ws vs (4 * ce + n) (4 * ce + cn)
  -- first, tail and count
  pub runs : SameWithin ws vs (4 * ce + cn) (4 * ce + 4 * cn)
  pub mark : SameWithin ws vs (4 * ce + 4 * cn + n) (4 * ce + 5 * cn)
  -- the offsets past those, and the words past the axis
  pub offsets : SameFrom ws vs (4 * ce + 5 * cn + n + 1)

-- Of a store: no word past the bounds.
pub record Renewed (w v : Words) : Type 0 where
  pub nodes : SlotsPast w.nodes v.nodes w.live_nodes v.live_nodes v.counts.nodes.bound
  pub edges : SlotsPast w.lows v.lows w.live_edges v.live_edges v.counts.edges.bound
  pub highs : SameFrom w.highs v.highs v.counts.edges.bound
  pub axis : (d : TraversalDirection)
      → AxisRenewed (axis_words d w) (axis_words d v) (edge_capacity w) (node_capacity w) v.counts.nodes.bound v.counts.edges.bound

-- ---- laws

-- each slice is as long as it was: the nodes, the lows, the highs, the live words of both, and both axes
pub each_length : {a b : Lengths} → a.capacities.nodes ≡ b.capacities.nodes → a.capacities.edges ≡ b.capacities.edges → a.highs ≡ b.highs
    → a.live_nodes ≡ b.live_nodes → a.live_edges ≡ b.live_edges → a.outgoing ≡ b.outgoing → a.incoming ≡ b.incoming → a ≡ b
each_length n e hs ln le out inc = λ i. record {
  capacities = record { nodes = n i; edges = e i };
  highs = hs i;
  live_nodes = ln i;
  live_edges = le i;
  outgoing = out i;
  incoming = inc i;
}

pub same_capacities : {a b : Lengths} → a ≡ b → a.capacities ≡ b.capacities
same_capacities same = ap (λ (l : Lengths). l.capacities) same

pub same_nodes : {a b : Lengths} → a ≡ b → a.capacities.nodes ≡ b.capacities.nodes
same_nodes same = ap (λ (l : Lengths). l.capacities.nodes) same

pub same_edges : {a b : Lengths} → a ≡ b → a.capacities.edges ≡ b.capacities.edges
same_edges same = ap (λ (l : Lengths). l.capacities.edges) same

pub same_highs : {a b : Lengths} → a ≡ b → a.highs ≡ b.highs
same_highs same = ap (λ (l : Lengths). l.highs) same

pub same_live_nodes : {a b : Lengths} → a ≡ b → a.live_nodes ≡ b.live_nodes
same_live_nodes same = ap (λ (l : Lengths). l.live_nodes) same

pub same_live_edges : {a b : Lengths} → a ≡ b → a.live_edges ≡ b.live_edges
same_live_edges same = ap (λ (l : Lengths). l.live_edges) same

pub same_axis : (w v : Words) → SameLengths w v → (d : TraversalDirection) → length (axis_words d v) ≡ length (axis_words d w)
same_axis w v same Outgoing = ap (λ (l : Lengths). l.outgoing) same
same_axis w v same Incoming = ap (λ (l : Lengths). l.incoming) same

-- one kind of slot: all as it was, and one after another
pub past_none : (ps ws : List ℕ) (n : ℕ) → SlotsPast ps ps ws ws n
past_none ps ws n = record { payloads = λ i h. refl; live = λ i h. refl }

past_through : {a b c p q r : List ℕ} {m n : ℕ} → m ≤ n → SlotsPast a b p q m → SlotsPast b c q r n → SlotsPast a c p r n
past_through grow s t = record {
  payloads = λ i h. t.payloads i h ∙ s.payloads i (omega (arith, grow));
  live = λ i h. t.live i h ∙ s.live i (omega (arith, grow));
}

pub mark_through : {a b c : ℕ} → Mark a b → Mark b c → Mark a c
mark_through first second =
    ⊎_elim (λ q. ⊎_elim (λ p. inl (q ∙ p)) (λ p. inr (p.0, q ∙ p.1)) first)
    (λ q. ⊎_elim (λ p. inr (sym p ∙ q.0, q.1)) (λ p. inr (p.0, q.1)) first) second

new_mark_through : {b c : ℕ} → NewMark b → Mark b c → NewMark c
new_mark_through first second = ⊎_elim (λ q. ⊎_elim (λ p. inl (q ∙ p)) (λ p. inr (q ∙ p)) first) (λ q. inr q.1) second

-- all as it was
pub axis_kept_none : (ws : List ℕ) (ce cn nb eb : ℕ) → AxisKept ws ws ce cn nb nb eb
axis_kept_none ws ce cn nb eb = record {
  ends = λ i l h. refl;
  adjacency = λ i l h. refl;
  next = λ i l h. refl;
  links = λ i l h. refl;
  last = λ i l h. refl;
  first = λ i l h. refl;
  tail = λ i l h. refl;
  count = λ i l h. refl;
  mark = λ i l h. refl;
  marks = λ i l h. inl refl;
  new_marks = λ i l h. absurd (omega arith);
  offsets = λ i l. refl;
}

-- one after another
pub axis_kept_through : {ws us vs : List ℕ} {ce cn ob nb eb nb' eb' : ℕ} → ob ≤ nb → nb ≤ nb' → eb ≤ eb' → AxisKept ws us ce cn ob nb eb
    → AxisKept us vs ce cn nb nb' eb' → AxisKept ws vs ce cn ob nb' eb'
axis_kept_through {ce = ce} {cn = cn} {nb = nb} grow m n a b = record {
  ends = λ i l h. b.ends i l h ∙ a.ends i (omega arith) h;
  adjacency = λ i l h. b.adjacency i l h ∙ a.adjacency i l h;
  next = λ i l h. b.next i l h ∙ a.next i (omega arith) h;
  links = λ i l h. b.links i l h ∙ a.links i (omega arith) h;
  last = λ i l h. b.last i l h ∙ a.last i (omega arith) h;
  first = λ i l h. b.first i l h ∙ a.first i (omega arith) h;
  tail = λ i l h. b.tail i l h ∙ a.tail i (omega arith) h;
  count = λ i l h. b.count i l h ∙ a.count i (omega arith) h;
  mark = λ i l h. b.mark i l h ∙ a.mark i (omega arith) h;
  marks = λ i l h. mark_through (a.marks i l h) (b.marks i l (omega arith));
  new_marks = λ i l h. ⊎_elim (λ old. new_mark_through (a.new_marks i l old) (b.marks i (omega arith) old)) (λ new. b.new_marks i new h)
      (below_or_not i (4 * ce + 4 * cn + nb));
  offsets = λ i l. b.offsets i l ∙ a.offsets i l;
}

-- with the same bounds
pub axis_kept_again : {ws us vs : List ℕ} {ce cn nb eb : ℕ} → AxisKept ws us ce cn nb nb eb → AxisKept us vs ce cn nb nb eb → AxisKept ws vs ce cn nb nb eb
axis_kept_again {nb = nb} {eb = eb} a b = axis_kept_through (le_refl nb) (le_refl nb) (le_refl eb) a b

pub kept_none : (w : Words) → Kept w w
kept_none w = record {
  nodes_grow = le_refl w.counts.nodes.bound;
  edges_grow = le_refl w.counts.edges.bound;
  nodes = past_none w.nodes w.live_nodes w.counts.nodes.bound;
  edges = past_none w.lows w.live_edges w.counts.edges.bound;
  highs = λ i h. refl;
  axis = λ d. axis_kept_none (axis_words d w) (edge_capacity w) (node_capacity w) w.counts.nodes.bound w.counts.edges.bound;
}

pub kept_through : {w v u : Words} → SameLengths w v → Kept w v → Kept v u → Kept w u
kept_through {w} {v} {u} same a b = record {
  nodes_grow = le_trans a.nodes_grow b.nodes_grow;
  edges_grow = le_trans a.edges_grow b.edges_grow;
  nodes = past_through b.nodes_grow a.nodes b.nodes;
  edges = past_through b.edges_grow a.edges b.edges;
  highs = λ i h. b.highs i h ∙ a.highs i (omega (arith, b.edges_grow));
  axis = λ d. axis_kept_through a.nodes_grow b.nodes_grow b.edges_grow (a.axis d) (rw (same_nodes same, same_edges same) at (b.axis d));
}

-- spare words are past the bounds, so they stay
pub kept_spared : {w v : Words} → v.counts.nodes.bound ≤ node_capacity w → v.counts.edges.bound ≤ edge_capacity w → Kept w v → Spared w v
kept_spared nodes edges k = record {
  highs = λ i h. k.highs i (omega arith);
  live_nodes = λ i h. k.nodes.live i (omega arith);
  live_edges = λ i h. k.edges.live i (omega arith);
  axis = λ d i h. (k.axis d).offsets i (omega arith);
}

pub renewed_none : (w : Words) → Renewed w w
renewed_none w = record {
  nodes = past_none w.nodes w.live_nodes w.counts.nodes.bound;
  edges = past_none w.lows w.live_edges w.counts.edges.bound;
  highs = λ i h. refl;
  axis = λ d. record {
    ends = λ i l h. refl;
    adjacency = λ i l h. refl;
    links = λ i l h. refl;
    last = λ i l h. refl;
    runs = λ i l h. refl;
    mark = λ i l h. refl;
    offsets = λ i l. refl;
  };
}

pub renewed_spared : {w v : Words} → v.counts.nodes.bound ≤ node_capacity w → v.counts.edges.bound ≤ edge_capacity w → Renewed w v → Spared w v
renewed_spared nodes edges k = record {
  highs = λ i h. k.highs i (omega arith);
  live_nodes = λ i h. k.nodes.live i (omega arith);
  live_edges = λ i h. k.edges.live i (omega arith);
  axis = λ d i h. (k.axis d).offsets i (omega arith);
}
