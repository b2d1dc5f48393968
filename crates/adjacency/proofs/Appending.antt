-- What appending an edge to a ring does: the stores of its two ways, and the rings after them.
use Rattle.std.specs.Prelude.{ℕ, ◌+◌, ◌*◌, ◌≤◌, ◌<◌, ◌≡◌, false, ◌≢◌, List, [], ◌∷◌, ◌++◌, get_or, set}
use Rattle.plain.specs.Library.{sym, ◌∙◌, inl, inr, ⊎_elim, length-set, get_or-set_same, get_or-set_other, arith}
use Rattle.plain.specs.Numbers.{NONE, LIMIT}
use Rattle.plain.specs.Lists.{member}
use Rattle.plain.proofs.Laws.Booleans.{refuted}
use Rattle.shape.specs.Columns.{cell, end_at, next_at, last_at}
use Rattle.shape.specs.Chains.{In, Ring}
use Rattle.shape.specs.Shape.{ring_of}
use Rattle.shape.specs.Writes.{OfRing}
use Rattle.shape.proofs.Laws.Chains.{in_snoc, ring_first, ring_more, ring_none, ring_last, ring_below}
use Rattle.shape.specs.Laws.Frames.{SameRing}
use Rattle.shape.proofs.Laws.Frames.{ring_new, ring_others, rings_new}
use Rattle.adjacency.specs.Rings.{Appendable, Appended}

module _ {ws : List ℕ} {ce cn nb be node e : ℕ} (pre : Appendable ws ce cn nb be node e) where
  -- the node's ring before the new edge
  ring_before : Ring (cell ws (2 * ce)) be e (last_at ws ce node) (ring_of ws ce be e node)
  ring_before = pre.rings.ring node pre.node_below

  -- the last entry of the ring is an edge before the new one
  pub last_below : last_at ws ce node ≢ NONE → last_at ws ce node < e
  last_below some = ring_below ring_before _ (ring_last some ring_before)

  -- the words after the stores: the new edge ends at the node and closes its ring, and no other word than theirs differs
  module _
      (vs : List ℕ)
      (end : end_at vs e ≡ node)
      (here : Ring (cell vs (2 * ce)) be (e + 1) (last_at vs ce node) (ring_of ws ce be e node ++ (e ∷ [])))
      (same : (i : ℕ) → i ≢ e → i ≢ 4 * ce + node → i ≢ 2 * ce + e → (last_at ws ce node ≢ NONE → i ≢ 2 * ce + last_at ws ce node)
      → get_or vs i 0 ≡ get_or ws i 0)
    where
      -- the other ends and the adjacency column are as before
      below : (i : ℕ) → i < 2 * ce → i ≢ e → get_or vs i 0 ≡ get_or ws i 0
      below i h ne = same i ne (omega arith) (omega arith) (λ some. omega arith)

      -- so is everything past the ring links but the node's last edge
      above : (i : ℕ) → 3 * ce ≤ i → i ≢ 4 * ce + node → get_or vs i 0 ≡ get_or ws i 0
      above i h ne =
          let room = pre.room in
          same i (omega arith) ne (omega arith) (λ some. let low = last_below some in omega arith)

      -- and the ring links but the new edge's and that of the last edge before
      ring_links : (i : ℕ) → 2 * ce ≤ i → i < 3 * ce → (OfRing ws ce node e i → ⊥) → get_or vs i 0 ≡ get_or ws i 0
      ring_links i l h off = let room = pre.room in same i (omega arith) (omega arith) (λ q. off (inl q)) (λ some q. off (inr (some, q)))

      -- every entry of the longer ring ends at the node
      own : (x : ℕ) → In x (ring_of ws ce be e node ++ (e ∷ [])) → end_at vs x ≡ node
      own x m = ⊎_elim before (λ q. rw q end) (in_snoc x (ring_of ws ce be e node) e m)
        where
          before : In x (ring_of ws ce be e node) → end_at vs x ≡ node
          before k =
              let low = ring_below ring_before x k in
              let room = pre.room in
              below x (omega arith) (omega arith) ∙ pre.rings.own node x pre.node_below k

      -- the entries of another ring are neither the new edge nor this ring's last
      others : (x : ℕ) → x < nb → x ≢ node → (x < nb) × SameRing ws vs ce be e x
      others x h ne = (h, record { last = above (4 * ce + x) (omega arith) (omega arith); next = next; ends = ends })
        where
          within : (f : ℕ) → In f (ring_of ws ce be e x) → f < e
          within = ring_below (pre.rings.ring x h)

          ends : (f : ℕ) → In f (ring_of ws ce be e x) → end_at vs f ≡ end_at ws f
          ends f m =
              let low = within f m in
              let room = pre.room in
              below f (omega arith) (omega arith)

          next : (f : ℕ) → In f (ring_of ws ce be e x) → next_at vs ce f ≡ next_at ws ce f
          next f m =
              let low = within f m in
              let room = pre.room in
              same (2 * ce + f) (omega arith) (omega arith) (omega arith) (λ some q. ne (last_elsewhere some (omega arith)))
            where
              last_elsewhere : last_at ws ce node ≢ NONE → f ≡ last_at ws ce node → x ≡ node
              last_elsewhere some q = sym (pre.rings.own x f h m) ∙ pre.rings.own node f pre.node_below (rw q (ring_last some ring_before))

      -- so the edge is appended
      pub appended : Appended ws vs ce nb be node e
      appended =
          let room = pre.room in
          let rise : e ≤ e + 1 = omega arith in
          let small : e + 1 ≤ LIMIT = omega (arith, pre.sized.edges_within) in
          let xs = ring_of ws ce be e node ++ (e ∷ []) in
          record {
            end = end;
            here = ring_new vs nb (e + 1) node xs rise small pre.rings here own others pre.node_below;
            others = ring_others vs nb (e + 1) node xs rise small pre.rings here own others;
            rings = rings_new vs nb (e + 1) node xs rise small pre.rings here own others;
            below = below;
            next = ring_links;
            last_below = last_below;
            above = above;
          }

  -- where the node's last edge and the new edge's link stand
  abbrev at : ℕ
  at = 4 * ce + node

  abbrev to : ℕ
  to = 2 * ce + e

  -- the end of the new edge and the last edge of the node are stored
  abbrev placed : List ℕ
  placed = set (set ws e node) at e

  -- the new edge ends at the node
  placed_end : get_or placed e 0 ≡ node
  placed_end = let room = pre.room in get_or-set_other (set ws e node) at e e 0 (omega arith) ∙ get_or-set_same ws e node 0 (omega arith)

  -- and is its last edge
  placed_last : get_or placed at 0 ≡ e
  placed_last = get_or-set_same (set ws e node) at e 0 (simp length-set (omega arith))

  -- the other words are as before
  placed_other : (i : ℕ) → i ≢ e → i ≢ at → get_or placed i 0 ≡ get_or ws i 0
  placed_other i ne na = get_or-set_other (set ws e node) at i e 0 na ∙ get_or-set_other ws e i node 0 ne

  -- the first entry of a ring
  pub append_first : last_at ws ce node ≡ NONE → Appended ws (set placed to e) ce nb be node e
  append_first none =
      appended vs (other e (omega arith) ∙ placed_end) (rw (last, empty) (ring_first (cell vs (2 * ce)) e pre.base_within (omega arith) self))
      (λ i ne na nt _. other i nt ∙ placed_other i ne na)
    where
      vs : List ℕ
      vs = set placed to e

      other : (i : ℕ) → i ≢ to → get_or vs i 0 ≡ get_or placed i 0
      other i ne = get_or-set_other placed to i e 0 ne

      last : last_at vs ce node ≡ e
      last = let room = pre.room in other at (omega arith) ∙ placed_last

      self : next_at vs ce e ≡ e
      self = get_or-set_same placed to e 0 (simp length-set (omega arith))

      empty : ring_of ws ce be e node ≡ []
      empty = ring_none (omega (arith, pre.sized.edges_within)) none ring_before

  -- one more entry of a ring
  pub append_more : last_at ws ce node ≢ NONE
      → Appended ws (set (set placed to (get_or placed (2 * ce + last_at ws ce node) 0)) (2 * ce + last_at ws ce node) e) ce nb be node e
  append_more some =
      appended vs (other e (omega arith) (omega arith) ∙ placed_end)
      (rw last (ring_more (cell vs (2 * ce)) e some (omega arith) pre.base_within (omega arith) new first closes links ring_before))
      (λ i ne na nt nl. other i nt (nl some) ∙ placed_other i ne na)
    where
      l : ℕ
      l = last_at ws ce node

      from : ℕ
      from = 2 * ce + l

      low : l < e
      low = last_below some

      linked : List ℕ
      linked = set placed to (get_or placed from 0)

      vs : List ℕ
      vs = set linked from e

      other : (i : ℕ) → i ≢ to → i ≢ from → get_or vs i 0 ≡ get_or placed i 0
      other i nt nf = get_or-set_other linked from i e 0 nf ∙ get_or-set_other placed to i (get_or placed from 0) 0 nt

      last : last_at vs ce node ≡ e
      last = let room = pre.room in other at (omega arith) (omega (arith, low)) ∙ placed_last

      new : member e (ring_of ws ce be e node) ≡ false
      new = refuted (member e (ring_of ws ce be e node)) (λ m. let before = ring_below ring_before e m in omega arith)

      first : next_at vs ce e ≡ next_at ws ce l
      first =
          let room = pre.room in
          get_or-set_other linked from to e 0 (omega (arith, low)) ∙ get_or-set_same placed to (get_or placed from 0) 0 (simp length-set (omega arith))
          ∙ placed_other from (omega (arith, low)) (omega (arith, low))

      closes : next_at vs ce l ≡ e
      closes = let room = pre.room in get_or-set_same linked from e 0 (simp length-set (omega (arith, low)))

      links : (x : ℕ) → In x (ring_of ws ce be e node) → x ≢ l → next_at vs ce x ≡ next_at ws ce x
      links x m ne =
          let before = ring_below ring_before x m in
          let room = pre.room in
          other (2 * ce + x) (omega arith) (omega arith) ∙ placed_other (2 * ce + x) (omega arith) (omega arith)
