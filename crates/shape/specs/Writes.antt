-- Which words one operation may write, word by word: of the store at entry, w, and at exit, v. `Kept` says the same of a whole strip, by the bounds.
use Rattle.std.specs.Prelude.{ℕ, ◌+◌, ◌*◌, ◌/◌, ◌≡◌, refl, ◌⊎◌, ◌≢◌, List, get_or}
use Rattle.plain.specs.declared.TraversalDirection.{TraversalDirection}
use Rattle.plain.specs.declared.TraversalDirection.TheVariants.{Outgoing, Incoming}
use Rattle.plain.specs.declared.Operation.{Operation}
use Rattle.plain.specs.declared.Operation.TheVariants.{AddNode, AddEdge, RemoveEdge, RemoveNode, Redirect, Move, SetPayload, Unknown}
use Rattle.plain.specs.declared.Counts.{Counts}
use Rattle.plain.specs.Numbers.{NONE}
use Rattle.plain.specs.Plain.{list_of}
use Rattle.shape.specs.Columns.{end_at, last_at}
use Rattle.shape.specs.Chains.{In}
use Rattle.shape.specs.Shape.{Words, node_capacity, edge_capacity, axis_words, adjacency_in, raw, lists}

-- the run link of one of some edges
abbrev pub OfLinks : ℕ → List ℕ → ℕ → Type 0
OfLinks ce es i = (e : ℕ) × (i ≡ 3 * ce + e) × In e es

-- last, first, tail, count and mark of node x
abbrev pub OfNode : ℕ → ℕ → ℕ → ℕ → Type 0
OfNode ce cn x i =
    (i ≡ 4 * ce + x) ⊎ ((i ≡ 4 * ce + cn + x) ⊎ ((i ≡ 4 * ce + 2 * cn + x) ⊎ ((i ≡ 4 * ce + 3 * cn + x) ⊎ (i ≡ 4 * ce + 4 * cn + x))))

-- no word of an axis but the words of a node and run links of its entries, dead ones included
abbrev pub OnlyNode : List ℕ → List ℕ → ℕ → ℕ → Counts → ℕ → Type 0
OnlyNode ws vs ce cn counts node =
    (i : ℕ) → (OfLinks ce (raw (adjacency_in ws ce cn counts node)) i → ⊥) → (OfNode ce cn node i → ⊥) → get_or vs i 0 ≡ get_or ws i 0

-- no word of a list but those that `Written` says
abbrev pub Only : (ℕ → Type 0) → List ℕ → List ℕ → Type 0
Only Written ws vs = (i : ℕ) → (Written i → ⊥) → get_or vs i 0 ≡ get_or ws i 0

-- ---- by operation

-- a node's payload
abbrev pub WritesNode : Operation → Words → ℕ → Type 0
WritesNode (AddNode payload) w x = x ≡ w.counts.nodes.bound
WritesNode (AddEdge source target payload) w x = ⊥
WritesNode (RemoveEdge e) w x = ⊥
WritesNode (RemoveNode y) w x = ⊥
WritesNode (Redirect d e new) w x = ⊥
WritesNode (Move d old new) w x = ⊥
WritesNode (SetPayload e payload) w x = ⊥
WritesNode Unknown w x = ⊥

-- an edge's payload, its low and its high
abbrev pub WritesEdge : Operation → Words → ℕ → Type 0
WritesEdge (AddNode payload) w f = ⊥
WritesEdge (AddEdge source target payload) w f = f ≡ w.counts.edges.bound
WritesEdge (RemoveEdge e) w f = ⊥
WritesEdge (RemoveNode x) w f = ⊥
WritesEdge (Redirect d e new) w f = ⊥
WritesEdge (Move d old new) w f = ⊥
WritesEdge (SetPayload e payload) w f = f ≡ e
WritesEdge Unknown w f = ⊥

-- a word of live bits of nodes
abbrev pub WritesNodeBits : Operation → Words → ℕ → Type 0
WritesNodeBits (AddNode payload) w i = i ≡ w.counts.nodes.bound / 64
WritesNodeBits (AddEdge source target payload) w i = ⊥
WritesNodeBits (RemoveEdge e) w i = ⊥
WritesNodeBits (RemoveNode x) w i = i ≡ x / 64
WritesNodeBits (Redirect d e new) w i = ⊥
WritesNodeBits (Move d old new) w i = ⊥
WritesNodeBits (SetPayload e payload) w i = ⊥
WritesNodeBits Unknown w i = ⊥

-- and of edges
abbrev pub WritesEdgeBits : Operation → Words → ℕ → Type 0
WritesEdgeBits (AddNode payload) w i = ⊥
WritesEdgeBits (AddEdge source target payload) w i = i ≡ w.counts.edges.bound / 64
WritesEdgeBits (RemoveEdge e) w i = i ≡ e / 64
-- of the edges in both its walks
WritesEdgeBits (RemoveNode x) w i = (e : ℕ) × (In e (list_of Outgoing (lists w) x) ⊎ In e (list_of Incoming (lists w) x)) × (i ≡ e / 64)
WritesEdgeBits (Redirect d e new) w i = ⊥
WritesEdgeBits (Move d old new) w i = ⊥
WritesEdgeBits (SetPayload e payload) w i = ⊥
WritesEdgeBits Unknown w i = ⊥

-- the end of an edge in a direction
abbrev pub end_in : TraversalDirection → ℕ → ℕ → ℕ
end_in Outgoing source target = source
end_in Incoming source target = target

-- ring links: the new edge's, and that of the node's last edge where it has one
abbrev pub OfRing : List ℕ → ℕ → ℕ → ℕ → ℕ → Type 0
OfRing ws ce node e i = (i ≡ 2 * ce + e) ⊎ ((last_at ws ce node ≢ NONE) × (i ≡ 2 * ce + last_at ws ce node))

-- the words of a node and the run links of its entries: its run or base part and its ring, dead entries included
abbrev pub OfEntries : Words → TraversalDirection → ℕ → ℕ → Type 0
OfEntries w d x i =
    OfLinks (edge_capacity w) (raw (adjacency_in (axis_words d w) (edge_capacity w) (node_capacity w) w.counts x)) i
    ⊎ OfNode (edge_capacity w) (node_capacity w) x i

-- a word of an axis
abbrev pub WritesAxis : Operation → Words → TraversalDirection → ℕ → Type 0
-- last and mark of the new node
WritesAxis (AddNode payload) w d i =
    (i ≡ 4 * edge_capacity w + w.counts.nodes.bound) ⊎ (i ≡ 4 * edge_capacity w + 4 * node_capacity w + w.counts.nodes.bound)
-- the new edge's end, ring links, the last edge of its end
WritesAxis (AddEdge source target payload) w d i =
    (i ≡ w.counts.edges.bound) ⊎ (OfRing (axis_words d w) (edge_capacity w) (end_in d source target) w.counts.edges.bound i
    ⊎ (i ≡ 4 * edge_capacity w + end_in d source target))
WritesAxis (RemoveEdge e) w d i = ⊥
WritesAxis (RemoveNode x) w d i = ⊥
-- in one direction the edge's end and what both nodes have
WritesAxis (Redirect d' e new) w d i = (d ≡ d') × ((i ≡ e) ⊎ (OfEntries w d (end_at (axis_words d w) e) i ⊎ OfEntries w d new i))
-- the same with the ends of the edges that move
WritesAxis (Move d' old new) w d i = (d ≡ d') × (In i (list_of d (lists w) old) ⊎ (OfEntries w d old i ⊎ OfEntries w d new i))
WritesAxis (SetPayload e payload) w d i = ⊥
WritesAxis Unknown w d i = ⊥

-- No other word was written.
pub record Writes (operation : Operation) (w v : Words) : Type 0 where
  pub nodes : Only (WritesNode operation w) w.nodes v.nodes
  pub lows : Only (WritesEdge operation w) w.lows v.lows
  pub highs : Only (WritesEdge operation w) w.highs v.highs
  pub live_nodes : Only (WritesNodeBits operation w) w.live_nodes v.live_nodes
  pub live_edges : Only (WritesEdgeBits operation w) w.live_edges v.live_edges
  pub axis : (d : TraversalDirection) → Only (WritesAxis operation w d) (axis_words d w) (axis_words d v)

pub nothing_written : (operation : Operation) (w : Words) → Writes operation w w
nothing_written operation w =
    record { nodes = λ x out. refl; lows = λ e out. refl; highs = λ e out. refl; live_nodes = λ i out. refl; live_edges = λ i out. refl; axis = λ d i out. refl }
