-- What the functions over rings ask and promise, of the words of an axis at entry, `ws`, and at exit, `vs`; a record a function.
use Rattle.std.specs.Prelude.{ℕ, ◌+◌, ◌*◌, ◌≤◌, ◌<◌, ◌≡◌, cond, ◌≢◌, List, [], ◌∷◌, ◌++◌, length, get_or, eqb, Option, MatchOption}
use Rattle.plain.specs.Library.{none}
use Rattle.plain.specs.Numbers.{NONE, LIMIT}
use Rattle.shape.specs.Index.{Rewritten}
use Rattle.shape.specs.Columns.{Sized, end_at, next_at, last_at}
use Rattle.shape.specs.Shape.{ring_of, run_of}
use Rattle.shape.specs.Checked.{Rings, Runs}
use Rattle.shape.specs.Writes.{OfRing}
use Rattle.adjacency.specs.declared.rings.RingEnds.{RingEnds}

-- What it takes to append edge e, the slot past the last edge, to the ring of a node.
pub record Appendable (ws : List ℕ) (ce cn nb be node e : ℕ) : Type 0 where
  pub sized : Sized ws ce cn
  pub rings : Rings ws ce nb be e
  pub node_below : node < nb
  pub nodes_within : nb ≤ cn
  pub base_within : be ≤ e
  pub room : e < ce

-- Edge e ends at the node and is the last entry of its ring.
pub record Appended (ws vs : List ℕ) (ce nb be node e : ℕ) : Type 0 where
  pub end : end_at vs e ≡ node
  pub here : ring_of vs ce be (e + 1) node ≡ ring_of ws ce be e node ++ (e ∷ [])
  pub others : (x : ℕ) → x < nb → x ≢ node → ring_of vs ce be (e + 1) x ≡ ring_of ws ce be e x
  pub rings : Rings vs ce nb be (e + 1)
  -- the other ends and the adjacency column are as they were
  pub below : (i : ℕ) → i < 2 * ce → i ≢ e → get_or vs i 0 ≡ get_or ws i 0
  -- so are the ring links but the edge's and that of the node's last edge before, where it had one
  pub next : (i : ℕ) → 2 * ce ≤ i → i < 3 * ce → (OfRing ws ce node e i → ⊥) → get_or vs i 0 ≡ get_or ws i 0
  pub last_below : last_at ws ce node ≢ NONE → last_at ws ce node < e
  -- and everything past the ring links but the node's last edge
  pub above : (i : ℕ) → 3 * ce ≤ i → i ≢ 4 * ce + node → get_or vs i 0 ≡ get_or ws i 0

-- What it takes to open a node slot.
pub record Openable (ws : List ℕ) (ce cn node : ℕ) : Type 0 where
  pub sized : Sized ws ce cn
  pub room : node < cn

-- A new node, the slot past the last node, has the empty ring and no run.
pub record Opened (ws vs : List ℕ) (ce cn node : ℕ) : Type 0 where
  pub ring : (be eb : ℕ) → ring_of vs ce be eb node ≡ []
  pub run : run_of vs ce cn node ≡ none
  -- the other nodes have theirs
  pub other_rings : (be eb x : ℕ) → eb ≤ ce → Rings ws ce node be eb → x < node → ring_of vs ce be eb x ≡ ring_of ws ce be eb x
  pub other_runs : (eb x : ℕ) → eb ≤ ce → Runs ws ce cn node eb → x < node → run_of vs ce cn x ≡ run_of ws ce cn x
  -- rules 5 and 6 hold with the node where they held without it
  pub rings : (be eb : ℕ) → eb ≤ ce → Rings ws ce node be eb → Rings vs ce (node + 1) be eb
  pub runs : (eb : ℕ) → eb ≤ ce → Runs ws ce cn node eb → Runs vs ce cn (node + 1) eb
  -- only the node's last edge and mark are written
  pub kept : (i : ℕ) → i ≢ 4 * ce + node → i ≢ 4 * ce + 4 * cn + node → get_or vs i 0 ≡ get_or ws i 0

-- What it takes to open the first n node slots.
pub record NodesOpenable (ws : List ℕ) (ce cn n : ℕ) : Type 0 where
  pub sized : Sized ws ce cn
  pub room : n ≤ cn

-- The first n nodes have NONE for their last edge, and then 0 for their mark; every other word is as it was.
pub record NodesOpened (ws vs : List ℕ) (ce cn n : ℕ) : Type 0 where
  pub emptied : List ℕ
  pub rings : Rewritten ws emptied (4 * ce) n (λ _. NONE)
  pub marks : Rewritten emptied vs (4 * ce + 4 * cn) n (λ _. 0)

-- What it takes to read the ends of a node's ring: its last edge is a word of the axis, and names an edge if it is not NONE.
pub record EndsReadable (ws : List ℕ) (ce x : ℕ) : Type 0 where
  pub room : 4 * ce + x < length ws
  pub edge : last_at ws ce x ≢ NONE → last_at ws ce x < ce

-- the first and the last entry of a node's ring, NONE twice where it is empty
unfoldable pub ring_ends : List ℕ → ℕ → ℕ → RingEnds
ring_ends ws ce x = record { first = cond (eqb (last_at ws ce x) NONE) NONE (next_at ws ce (last_at ws ce x)); last = last_at ws ce x }

-- What is read of them: nothing of an empty ring.
abbrev pub EndsRead : List ℕ → ℕ → ℕ → Option RingEnds → Type 0
EndsRead ws ce x r = MatchOption r (last_at ws ce x ≡ NONE) (λ ends. (last_at ws ce x ≢ NONE) × (ends ≡ ring_ends ws ce x))

-- What it takes to forget a node's ring.
pub record Detachable (ws : List ℕ) (ce node : ℕ) : Type 0 where
  pub edges_within : ce ≤ LIMIT
  pub room : 4 * ce + node < length ws

-- The node's ring is empty; only its last edge is written.
pub record Detached (ws vs : List ℕ) (ce node : ℕ) : Type 0 where
  pub here : (be eb : ℕ) → ring_of vs ce be eb node ≡ []
  pub others : (nb be eb x : ℕ) → eb ≤ ce → Rings ws ce nb be eb → x < nb → x ≢ node → ring_of vs ce be eb x ≡ ring_of ws ce be eb x
  pub rings : (nb be eb : ℕ) → eb ≤ ce → Rings ws ce nb be eb → Rings vs ce nb be eb
  pub kept : (i : ℕ) → i ≢ 4 * ce + node → get_or vs i 0 ≡ get_or ws i 0
