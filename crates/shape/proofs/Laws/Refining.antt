-- The shape's step is the plain lists' step: what each operation does to base parts, runs and rings is, on the walks, what document 01 says.
use Rattle.std.specs.Prelude.{ℕ, ◌+◌, ◌<◌, ◌≡◌, refl, Bool, true, false, cond, ◌&&◌, not, List, [], ◌∷◌, ◌++◌, map, length, get_or, set, eqb}
use Rattle.plain.specs.Library.{sym, ap, ap₂, subst, ◌∙◌, ⊎_elim, append-nil, append_assoc, length-set, length-map, length-append, get_or-eq_default, ext_get_or, zero-add, arith, eq-eqb, ne_eqb, eqb-true}
use Rattle.std.proofs.Math.Seq.{map-set_same}
use Rattle.plain.specs.declared.TraversalDirection.{TraversalDirection}
use Rattle.plain.specs.declared.TraversalDirection.TheVariants.{Outgoing, Incoming}
use Rattle.plain.specs.declared.EdgePayload.{EdgePayload}
use Rattle.plain.specs.declared.Operation.TheVariants.{AddNode, AddEdge, RemoveEdge, RemoveNode, Redirect, Move, SetPayload}
use Rattle.plain.specs.Lists.{member, without, keep, from, append_at, delete_at, set_all}
use Rattle.plain.specs.Plain.{Plain, NodeSlot, EdgeSlot, Incidence, incidence, with_incidence, no_node, no_edge, killed_node, list_of, end_of, widened, attached, node_added, edge_added, edge_removed, edges_removed, node_removed, redirected, moved, payload_set}
use Rattle.plain.specs.Step.{Capacities}
use Rattle.plain.specs.WellFormed.{Incident}
use Rattle.plain.proofs.Laws.Booleans.{by_test, below_or_not, and_left, or_false, or_true, or_other, eqb_comm}
use Rattle.plain.proofs.Laws.ListLaws.{map_snoc, get_d_map, get_or_from, length_from, member_append}
use Rattle.plain.specs.Laws.Deleting.{without_all}
use Rattle.plain.proofs.Laws.Deleting.{get_d_set, get_or_snoc, map_set, get_or_append_at, length_append_at, length_delete_at, without_all_keeps}
use Rattle.plain.proofs.Laws.Rank.{live_below}
use Rattle.plain.proofs.Laws.Directions.{redirected_list, moved_list}
use Rattle.plain.proofs.Laws.Operating.{incident, edge_below, edges_removed_well_formed, edges_removed_list, edges_removed_nodes, edges_removed_ends, edges_removed_live}
use Rattle.shape.specs.Chains.{In}
use Rattle.shape.specs.Shape.{Adjacency, Axis, Shape, part, raw, live_in, walk_of, no_adjacency, axis_in, adjacency_of, node_flags_of, edge_flags_of, walks_of, plain_of}
use Rattle.shape.specs.Steps.{live_entries, taken, swept, with_run, opened, appended, redirected_axis, moved_axis, with_axis, retired, walk_in, acted}
use Rattle.shape.proofs.Laws.Taking.{keep_append, keep_again, keep_without, keep_one, keep_agree, keep_both, live_taken, live_edited}
use Rattle.shape.specs.Laws.Refining.{Proper}

-- ---- equal plain lists

plain_ext : {p q : Plain} → p.nodes ≡ q.nodes → p.edges ≡ q.edges → p.outgoing ≡ q.outgoing → p.incoming ≡ q.incoming → p ≡ q
plain_ext a b c d = λ i. record { nodes = a i; edges = b i; outgoing = c i; incoming = d i }

incidence_ext : {a b : Incidence} → a.ends ≡ b.ends → length a.lists ≡ length b.lists → ((x : ℕ) → get_or a.lists x [] ≡ get_or b.lists x []) → a ≡ b
incidence_ext {a} {b} p l h =
    let lists : a.lists ≡ b.lists = ext_get_or [] a.lists b.lists l (λ x _. h x) in
    λ i. record { ends = p i; lists = lists i }

-- ---- the lists of a shape

-- a node with nothing walks empty
walk_nothing : (flags : List Bool) (live : Bool) → walk_of flags live no_adjacency ≡ []
unfolding keep
walk_nothing flags true = refl
walk_nothing flags false = refl

module _ (flags nodes : List Bool) (axis : Axis) where
  pub lists_length : length (walks_of flags nodes axis).lists ≡ length axis.nodes
  lists_length =
      length-map (from 0 (length axis.nodes)) (λ x. walk_of flags (get_or nodes x false) (get_or axis.nodes x no_adjacency))
      ∙ length_from 0 (length axis.nodes)

  pub list_at : (x : ℕ) → get_or (walks_of flags nodes axis).lists x [] ≡ walk_of flags (get_or nodes x false) (get_or axis.nodes x no_adjacency)
  list_at x =
      let walk : ℕ → List ℕ = λ y. walk_of flags (get_or nodes y false) (get_or axis.nodes y no_adjacency) in
      let n = length axis.nodes in
      ⊎_elim
      (λ l. get_d_map walk (from 0 n) x 0 [] (rw (length_from 0 n) l) ∙ ap walk (get_or_from 0 n x 0 l ∙ zero-add x))
      (λ l. get_or-eq_default (walks_of flags nodes axis).lists [] (rw lists_length l)
      ∙ sym (ap (walk_of flags (get_or nodes x false)) (get_or-eq_default axis.nodes no_adjacency l) ∙ walk_nothing flags (get_or nodes x false)))
      (below_or_not x n)

-- the list of a node is its walk
pub list_is_walk : (s : Shape) (d : TraversalDirection) (x : ℕ) → list_of d (plain_of s) x ≡ walk_in d s x
unfolding plain_of
list_is_walk s Outgoing x = list_at (edge_flags_of s) (node_flags_of s) s.outgoing x
list_is_walk s Incoming x = list_at (edge_flags_of s) (node_flags_of s) s.incoming x

-- its slots and ends are the shape's
pub nodes_of : (s : Shape) → (plain_of s).nodes ≡ s.nodes
unfolding plain_of
nodes_of s = refl

pub ends_of : (s : Shape) (d : TraversalDirection) → (incidence d (plain_of s)).ends ≡ (axis_in d s).ends
unfolding plain_of
ends_of s Outgoing = refl
ends_of s Incoming = refl

-- ---- the slots

-- an added default is read as before
pub get_or_added : {A : Type 0} (l : List A) (d : A) (x : ℕ) → get_or (l ++ (d ∷ [])) x d ≡ get_or l x d
get_or_added l d x =
    get_or_snoc l x d d
    ∙ by_test (eqb x (length l)) (λ h. rw h (sym (get_or-eq_default l d (let e = eqb-true x (length l) h in omega arith)))) (λ h. rw h)

module _ {caps : Capacities} {s : Shape} (h : Proper caps s) where
  -- both directions have an adjacency a node, and an end an edge
  axis_nodes : (d : TraversalDirection) → length (axis_in d s).nodes ≡ length s.nodes
  unfolding plain_of
  axis_nodes Outgoing = sym (lists_length (edge_flags_of s) (node_flags_of s) s.outgoing) ∙ h.walks.outgoing.lists_length
  axis_nodes Incoming = sym (lists_length (edge_flags_of s) (node_flags_of s) s.incoming) ∙ h.walks.incoming.lists_length

-- ---- a node added

-- one direction of an added node
opened_lists : (flags nodes : List Bool) (axis : Axis) → length axis.nodes ≡ length nodes
    → walks_of flags (nodes ++ (true ∷ [])) (opened axis) ≡ widened (walks_of flags nodes axis)
opened_lists flags nodes axis even =
    incidence_ext refl
    (lists_length flags (nodes ++ (true ∷ [])) (opened axis) ∙ length-append axis.nodes (no_adjacency ∷ [])
    ∙ sym (length-append (walks_of flags nodes axis).lists ([] ∷ []) ∙ ap (λ (n : ℕ). n + 1) (lists_length flags nodes axis)))
    (λ x. list_at flags (nodes ++ (true ∷ [])) (opened axis) x ∙ ap (walk_of flags (get_or (nodes ++ (true ∷ [])) x false)) (get_or_added axis.nodes no_adjacency x)
    ∙ walked x ∙ sym (get_or_added (walks_of flags nodes axis).lists [] x ∙ list_at flags nodes axis x))
  where
    walked : (x : ℕ) → walk_of flags (get_or (nodes ++ (true ∷ [])) x false) (get_or axis.nodes x no_adjacency)
        ≡ walk_of flags (get_or nodes x false) (get_or axis.nodes x no_adjacency)
    walked x =
        by_test (eqb x (length nodes))
        (λ q. let past : get_or axis.nodes x no_adjacency ≡ no_adjacency =
        get_or-eq_default axis.nodes no_adjacency (let e = eqb-true x (length nodes) q in omega (arith, even)) in
        rw (past, walk_nothing flags (get_or (nodes ++ (true ∷ [])) x false), walk_nothing flags (get_or nodes x false)))
        (λ q. rw (get_or_snoc nodes x true false, q))

pub add_node_refines : {caps : Capacities} {s : Shape} → Proper caps s → (v : ℕ) → plain_of (acted (AddNode v) s) ≡ node_added v (plain_of s)
unfolding acted plain_of node_added
add_node_refines {s = s} h v =
    let slot : NodeSlot = record { payload = v; live = true } in
    let flags : map (λ (n : NodeSlot). n.live) (s.nodes ++ (slot ∷ [])) ≡ node_flags_of s ++ (true ∷ []) = map_snoc (λ (n : NodeSlot). n.live) s.nodes slot in
    let even : (d : TraversalDirection) → length (axis_in d s).nodes ≡ length (node_flags_of s) =
    λ d. axis_nodes h d ∙ sym (length-map s.nodes (λ (n : NodeSlot). n.live)) in
    plain_ext refl refl
    (ap (λ (f : List Bool). walks_of (edge_flags_of s) f (opened s.outgoing)) flags
    ∙ opened_lists (edge_flags_of s) (node_flags_of s) s.outgoing (even Outgoing))
    (ap (λ (f : List Bool). walks_of (edge_flags_of s) f (opened s.incoming)) flags
    ∙ opened_lists (edge_flags_of s) (node_flags_of s) s.incoming (even Incoming))

-- ---- an edge added

-- a live edge more changes no walk that does not hold it
live_wider : (flags : List Bool) (l : List ℕ) → ((e : ℕ) → In e l → e < length flags) → keep (live_in (flags ++ (true ∷ []))) l ≡ keep (live_in flags) l
live_wider flags l below =
    keep_agree (live_in (flags ++ (true ∷ []))) (live_in flags) l
    (λ e m. get_or_snoc flags e true false ∙ rw (ne_eqb e (length flags) (λ q. let b = below e m in omega arith)))

-- one direction of an added edge, at a live node
module _ (flags nodes : List Bool) (axis : Axis) (x : ℕ) (low : x < length axis.nodes) (live : get_or nodes x false ≡ true)
    (below : (y e : ℕ) → In e (raw (get_or axis.nodes y no_adjacency)) → e < length flags) where
  -- the walk of the node itself
  appended_here : keep (live_in (flags ++ (true ∷ []))) (part (get_or axis.nodes x no_adjacency) ++ ((get_or axis.nodes x no_adjacency).ring ++ (length flags ∷ [])))
      ≡ keep (live_in flags) (raw (get_or axis.nodes x no_adjacency)) ++ (length flags ∷ [])
  appended_here =
      let a = get_or axis.nodes x no_adjacency in
      let now = live_in (flags ++ (true ∷ [])) in
      ap (keep now) (sym (append_assoc (part a) a.ring (length flags ∷ []))) ∙ keep_append now (raw a) (length flags ∷ [])
      ∙ ap₂ (λ (k l : List ℕ). k ++ l) (live_wider flags (raw a) (below x))
      (keep_one now (length flags) (get_or_snoc flags (length flags) true false ∙ rw (eq-eqb (length flags) (length flags) refl)))

  appended_at : (z : ℕ) → get_or (walks_of (flags ++ (true ∷ [])) nodes (appended (length flags) x axis)).lists z []
      ≡ get_or (attached (length flags) x (walks_of flags nodes axis)).lists z []
  unfolding appended
  appended_at z =
      let a = get_or axis.nodes x no_adjacency in
      let b : Adjacency = record { base = a.base; run = a.run; ring = a.ring ++ (length flags ∷ []) } in
      let old = walks_of flags nodes axis in
      list_at (flags ++ (true ∷ [])) nodes (appended (length flags) x axis) z
      ∙ rw (
        get_d_set axis.nodes x z b no_adjacency low,
        get_or_append_at x z (length flags ∷ []) old.lists (rw (lists_length flags nodes axis) low),
        list_at flags nodes axis x,
        list_at flags nodes axis z,
        live,
      )
      (by_test (eqb z x) (λ q. rw (q, eqb-true z x q, live) appended_here)
      (λ q. rw q (ap (λ (l : List ℕ). cond (get_or nodes z false) l []) (live_wider flags (raw (get_or axis.nodes z no_adjacency)) (below z)))))

  appended_lists : walks_of (flags ++ (true ∷ [])) nodes (appended (length flags) x axis) ≡ attached (length flags) x (walks_of flags nodes axis)
  unfolding appended
  appended_lists =
      let a = get_or axis.nodes x no_adjacency in
      let b : Adjacency = record { base = a.base; run = a.run; ring = a.ring ++ (length flags ∷ []) } in
      let old = walks_of flags nodes axis in
      incidence_ext refl
      (lists_length (flags ++ (true ∷ [])) nodes (appended (length flags) x axis) ∙ length-set axis.nodes x b
      ∙ sym (length_append_at x (length flags ∷ []) old.lists ∙ lists_length flags nodes axis))
      appended_at

module _ {caps : Capacities} {s : Shape} (h : Proper caps s) where
  -- entries are below the number of edge flags
  flags_below : (d : TraversalDirection) (x e : ℕ) → In e (raw (adjacency_of d s x)) → e < length (edge_flags_of s)
  flags_below d x e m = rw (length-map s.edges (λ (e : EdgeSlot). e.live)) (h.entries_below d x e m)

  -- a live node has an adjacency
  pub live_node_below : (d : TraversalDirection) (x : ℕ) → get_or (node_flags_of s) x false ≡ true → x < length (axis_in d s).nodes
  live_node_below d x l = rw (axis_nodes h d) (omega (arith, live_below (node_flags_of s) x l, length-map s.nodes (λ (n : NodeSlot). n.live)))

  added_lists : (d : TraversalDirection) (x : ℕ) → get_or (node_flags_of s) x false ≡ true
      → walks_of (edge_flags_of s ++ (true ∷ [])) (node_flags_of s) (appended (length s.edges) x (axis_in d s))
      ≡ attached (length s.edges) x (walks_of (edge_flags_of s) (node_flags_of s) (axis_in d s))
  added_lists d x l =
      subst (λ (n : ℕ). walks_of (edge_flags_of s ++ (true ∷ [])) (node_flags_of s) (appended n x (axis_in d s))
      ≡ attached n x (walks_of (edge_flags_of s) (node_flags_of s) (axis_in d s)))
      (length-map s.edges (λ (e : EdgeSlot). e.live))
      (appended_lists (edge_flags_of s) (node_flags_of s) (axis_in d s) x (live_node_below d x l) l (flags_below d))

  pub add_edge_refines : (source target : ℕ) (v : EdgePayload) → get_or (node_flags_of s) source false ≡ true → get_or (node_flags_of s) target false ≡ true
      → plain_of (acted (AddEdge source target v) s) ≡ edge_added source target v (plain_of s)
  unfolding acted plain_of edge_added
  add_edge_refines source target v ls lt =
      let slot : EdgeSlot = record { payload = v; live = true } in
      let flags = map_snoc (λ (e : EdgeSlot). e.live) s.edges slot in
      plain_ext refl refl
      (ap (λ (f : List Bool). walks_of f (node_flags_of s) (appended (length s.edges) source s.outgoing)) flags ∙ added_lists Outgoing source ls)
      (ap (λ (f : List Bool). walks_of f (node_flags_of s) (appended (length s.edges) target s.incoming)) flags ∙ added_lists Incoming target lt)

-- ---- edges removed

keep_none : (l : List ℕ) → keep (λ (e : ℕ). false) l ≡ []
unfolding keep
keep_none [] = refl
keep_none (x ∷ l) = keep_none l

-- the slots that removals leave are those of the plain lists
retired_is : (es : List ℕ) (p : Plain) → (edges_removed es p).edges ≡ retired es p.edges
unfolding edges_removed edge_removed retired
retired_is [] p = refl
retired_is (e ∷ es) p = retired_is es (edge_removed e p)

without_all_nil : (es : List ℕ) → without_all es [] ≡ []
unfolding without_all without
without_all_nil [] = refl
without_all_nil (e ∷ es) = without_all_nil es

-- what is kept with fewer live edges: the walk without them
live_fewer : (was now : List Bool) (es l : List ℕ) → ((e : ℕ) → get_or now e false ≡ (get_or was e false && not (member e es)))
    → keep (live_in now) l ≡ without_all es (keep (live_in was) l)
live_fewer was now es l fewer =
    keep_agree (live_in now) (λ e. get_or was e false && not (member e es)) l (λ e m. fewer e)
    ∙ sym (without_all_keeps es (keep (live_in was) l) ∙ keep_both (λ e. not (member e es)) (live_in was) l)

module _ {caps : Capacities} {s : Shape} (h : Proper caps s) (es : List ℕ) (low : (e : ℕ) → In e es → e < length s.edges) where
  -- the flags afterwards
  retired_flags : List Bool
  retired_flags = map (λ (e : EdgeSlot). e.live) (retired es s.edges)

  retired_live : (e : ℕ) → get_or retired_flags e false ≡ (get_or (edge_flags_of s) e false && not (member e es))
  unfolding retired_flags plain_of
  retired_live e =
      ap (λ (l : List EdgeSlot). get_or (map (λ (e : EdgeSlot). e.live) l) e false) (sym (retired_is es (plain_of s))) ∙ edges_removed_live es (plain_of s) low e

  -- the walk of a node afterwards, by its own flag
  retired_walk : (live : Bool) (a : Adjacency) → walk_of retired_flags live a ≡ without_all es (walk_of (edge_flags_of s) live a)
  retired_walk true a = live_fewer (edge_flags_of s) retired_flags es (raw a) retired_live
  retired_walk false a = sym (without_all_nil es)

  -- the list of a node afterwards
  retired_list : (d : TraversalDirection) (x : ℕ) → list_of d (edges_removed es (plain_of s)) x ≡ without_all es (walk_in d s x)
  unfolding plain_of
  retired_list d x = edges_removed_list es low h.walks d x ∙ ap (without_all es) (list_is_walk s d x)

  -- the lists afterwards, with node flags that agree where there is something to walk
  retired_lists : (d : TraversalDirection) (nodes : List Bool)
      → ((x : ℕ) → walk_of retired_flags (get_or nodes x false) (adjacency_of d s x) ≡ without_all es (walk_in d s x))
      → walks_of retired_flags nodes (axis_in d s) ≡ incidence d (edges_removed es (plain_of s))
  unfolding plain_of
  retired_lists d nodes walked =
      let w = edges_removed_well_formed es low h.walks in
      incidence_ext (sym (edges_removed_ends es (plain_of s) d ∙ ends_of s d))
      (lists_length retired_flags nodes (axis_in d s) ∙ axis_nodes h d ∙ sym ((incident w d).lists_length ∙ ap length (edges_removed_nodes es (plain_of s)) ∙ plain_nodes))
      (λ x. list_at retired_flags nodes (axis_in d s) x ∙ walked x ∙ sym (retired_list d x))
    where
      plain_nodes : length (plain_of s).nodes ≡ length s.nodes
      plain_nodes = ap length (nodes_of s)

  -- edges removed, and no node
  retire_refines : plain_of (record { nodes = s.nodes; edges = retired es s.edges; base_nodes = s.base_nodes; base_edges = s.base_edges; outgoing = s.outgoing; incoming = s.incoming })
      ≡ edges_removed es (plain_of s)
  unfolding plain_of retired_flags
  retire_refines =
      plain_ext (sym (edges_removed_nodes es (plain_of s))) (sym (retired_is es (plain_of s)))
      (retired_lists Outgoing (node_flags_of s) (λ x. retired_walk (get_or (node_flags_of s) x false) (adjacency_of Outgoing s x)))
      (retired_lists Incoming (node_flags_of s) (λ x. retired_walk (get_or (node_flags_of s) x false) (adjacency_of Incoming s x)))

pub remove_edge_refines : {caps : Capacities} {s : Shape} → Proper caps s → (e : ℕ) → get_or (edge_flags_of s) e false ≡ true
    → plain_of (acted (RemoveEdge e) s) ≡ edge_removed e (plain_of s)
unfolding acted edges_removed member
remove_edge_refines {s = s} h e live =
    retire_refines h (e ∷ [])
    (λ k m. let same : k ≡ e = eqb-true k e (sym (or_false (eqb k e)) ∙ m) in
    rw same (omega (arith, live_below (edge_flags_of s) e live, length-map s.edges (λ (e : EdgeSlot). e.live))))

-- ---- a node removed

-- the edges removed, and then the node
abbrev removing_node : ℕ → List ℕ → Plain → Plain
removing_node x es p =
    let q = edges_removed es p in
    record { nodes = set q.nodes x (killed_node (get_or q.nodes x no_node)); edges = q.edges; outgoing = q.outgoing; incoming = q.incoming }

-- what is kept of a list where every entry is removed
without_all_gone : (es l : List ℕ) → ((e : ℕ) → In e l → In e es) → without_all es l ≡ []
without_all_gone es l gone =
    without_all_keeps es l ∙ keep_agree (λ e. not (member e es)) (λ e. false) l (λ e m. rw (gone e m)) ∙ keep_none l

module _ {caps : Capacities} {s : Shape} (h : Proper caps s) (x : ℕ) (live : get_or (node_flags_of s) x false ≡ true) where
  incident_edges : List ℕ
  incident_edges = walk_in Outgoing s x ++ walk_in Incoming s x

  -- an edge of either walk is one of them
  walked_in : (d : TraversalDirection) (e : ℕ) → In e (walk_in d s x) → In e incident_edges
  unfolding incident_edges
  walked_in Outgoing e m = rw (member_append e (walk_in Outgoing s x) (walk_in Incoming s x), m)
  walked_in Incoming e m = rw (member_append e (walk_in Outgoing s x) (walk_in Incoming s x), m, or_true (member e (walk_in Outgoing s x)))

  -- and is below the bound
  walked_below : (d : TraversalDirection) (e : ℕ) → In e (walk_in d s x) → e < length s.edges
  unfolding plain_of
  walked_below d e m =
      edge_below (plain_of s) e
      (and_left (get_or (edge_flags_of s) e false) (eqb (end_of d (plain_of s) e) x) (sym ((incident h.walks d).listed x e) ∙ ap (member e) (list_is_walk s d x) ∙ m))

  incident_below : (e : ℕ) → In e incident_edges → e < length s.edges
  unfolding incident_edges
  incident_below e m =
      let k = rw (member_append e (walk_in Outgoing s x) (walk_in Incoming s x)) at m in
      by_test (member e (walk_in Outgoing s x)) (λ q. walked_below Outgoing e q) (λ q. walked_below Incoming e (or_other k q))

  -- the walks afterwards: the node's own is empty
  removed_walk : (d : TraversalDirection) (z : ℕ)
      → walk_of (retired_flags h incident_edges incident_below) (get_or (set (node_flags_of s) x false) z false) (adjacency_of d s z) ≡ without_all incident_edges (walk_in d s z)
  removed_walk d z =
      rw (get_d_set (node_flags_of s) x z false false (live_below (node_flags_of s) x live))
      (by_test (eqb z x)
      (λ q. rw q (sym (ap (λ (y : ℕ). without_all incident_edges (walk_in d s y)) (eqb-true z x q) ∙ without_all_gone incident_edges (walk_in d s x) (walked_in d))))
      (λ q. rw q (retired_walk h incident_edges incident_below (get_or (node_flags_of s) z false) (adjacency_of d s z))))

  -- the node's flag cleared
  cleared_flags : map (λ (n : NodeSlot). n.live) (set s.nodes x (killed_node (get_or s.nodes x no_node))) ≡ set (node_flags_of s) x false
  cleared_flags = map_set (λ (n : NodeSlot). n.live) s.nodes x (killed_node (get_or s.nodes x no_node))

  removed_lists : (d : TraversalDirection)
      → walks_of (retired_flags h incident_edges incident_below) (map (λ (n : NodeSlot). n.live) (set s.nodes x (killed_node (get_or s.nodes x no_node)))) (axis_in d s)
      ≡ incidence d (edges_removed incident_edges (plain_of s))
  removed_lists d =
      ap (λ (f : List Bool). walks_of (retired_flags h incident_edges incident_below) f (axis_in d s)) cleared_flags
      ∙ retired_lists h incident_edges incident_below d (set (node_flags_of s) x false) (removed_walk d)

  pub remove_node_refines : plain_of (acted (RemoveNode x) s) ≡ node_removed x (plain_of s)
  unfolding acted plain_of node_removed incident_edges retired_flags
  remove_node_refines =
      let p = plain_of s in
      let edges : list_of Outgoing p x ++ list_of Incoming p x ≡ incident_edges =
      ap₂ (λ (a b : List ℕ). a ++ b) (list_is_walk s Outgoing x) (list_is_walk s Incoming x) in
      plain_ext (sym (ap (λ (l : List NodeSlot). set l x (killed_node (get_or l x no_node))) (edges_removed_nodes incident_edges p)))
      (sym (retired_is incident_edges p)) (removed_lists Outgoing) (removed_lists Incoming)
      ∙ sym (ap (λ (es : List ℕ). removing_node x es p) edges)

-- ---- one end of an edge redirected, one list moved

-- one direction changed
with_axis_refines : (s : Shape) (d : TraversalDirection) (axis : Axis) (i : Incidence) → walks_of (edge_flags_of s) (node_flags_of s) axis ≡ i
    → plain_of (with_axis d axis s) ≡ with_incidence d i (plain_of s)
unfolding plain_of
with_axis_refines s Outgoing axis i e = plain_ext refl refl e refl
with_axis_refines s Incoming axis i e = plain_ext refl refl refl e

-- a node whose run was edited walks the live entries of the run
edited_walk : (flags : List Bool) (run : List ℕ) (a : Adjacency) → walk_of flags true (with_run run a) ≡ live_entries flags run
edited_walk flags run a = ap (keep (live_in flags)) (append-nil run)

-- one direction of a redirected edge
module _ (flags nodes : List Bool) (n : ℕ) (axis : Axis) (t : Incident flags n (walks_of flags nodes axis)) (e new : ℕ)
    (live : get_or flags e false ≡ true) (low : new < n) (live-new : get_or nodes new false ≡ true) (live-old : get_or nodes (get_or axis.ends e 0) false ≡ true)
    (other : eqb new (get_or axis.ends e 0) ≡ false) where
  -- every node below n has an adjacency
  here : (x : ℕ) → x < n → x < length axis.nodes
  here x l = omega (arith, lists_length flags nodes axis, t.lists_length)

  old_below : get_or axis.ends e 0 < n
  old_below = t.ends_below e (live_below flags e live)

  redirected_at : (z : ℕ) → get_or (walks_of flags nodes (redirected_axis flags e new axis)).lists z []
      ≡ get_or (redirected e new (walks_of flags nodes axis)).lists z []
  unfolding redirected_axis
  redirected_at z =
      let old = get_or axis.ends e 0 in
      let a = get_or axis.nodes old no_adjacency in
      let b = get_or axis.nodes new no_adjacency in
      let a' = with_run (without e (swept flags (taken flags a))) a in
      let b' = with_run (swept flags (taken flags b) ++ (e ∷ [])) b in
      let walk-a : walk_of flags true a' ≡ without e (keep (live_in flags) (raw a)) =
      edited_walk flags (without e (swept flags (taken flags a))) a ∙ keep_without (live_in flags) e (swept flags (taken flags a)) ∙ ap (without e) (live_edited flags a) in
      let walk-b : walk_of flags true b' ≡ keep (live_in flags) (raw b) ++ (e ∷ []) =
      edited_walk flags (swept flags (taken flags b) ++ (e ∷ [])) b ∙ keep_append (live_in flags) (swept flags (taken flags b)) (e ∷ [])
      ∙ ap₂ (λ (k l : List ℕ). k ++ l) (live_edited flags b) (keep_one (live_in flags) e live) in
      list_at flags nodes (redirected_axis flags e new axis) z
      ∙ rw (
        get_d_set (set axis.nodes old a') new z b' no_adjacency (rw (length-set axis.nodes old a') (here new low)),
        get_d_set axis.nodes old z a' no_adjacency (here old old_below),
        redirected_list e new live low t other z,
        list_at flags nodes axis new,
        list_at flags nodes axis old,
        list_at flags nodes axis z,
      )
      (by_test (eqb z new) (λ q. rw (q, eqb-true z new q, live-new) walk-b)
      (λ q. rw q (by_test (eqb z old) (λ r. rw (r, eqb-true z old r, live-old) walk-a) (λ r. rw r))))

  redirected_lists : walks_of flags nodes (redirected_axis flags e new axis) ≡ redirected e new (walks_of flags nodes axis)
  unfolding redirected_axis redirected
  redirected_lists =
      let old = get_or axis.ends e 0 in
      let a = get_or axis.nodes old no_adjacency in
      let b = get_or axis.nodes new no_adjacency in
      let a' = with_run (without e (swept flags (taken flags a))) a in
      let lists = (walks_of flags nodes axis).lists in
      incidence_ext refl
      (lists_length flags nodes (redirected_axis flags e new axis)
      ∙ length-set (set axis.nodes old a') new (with_run (swept flags (taken flags b) ++ (e ∷ [])) b) ∙ length-set axis.nodes old a'
      ∙ sym (length_append_at new (e ∷ []) (delete_at old e lists) ∙ length_delete_at old e lists ∙ lists_length flags nodes axis))
      redirected_at

-- one direction of a moved list
module _ (flags nodes : List Bool) (n : ℕ) (axis : Axis) (t : Incident flags n (walks_of flags nodes axis)) (old new : ℕ)
    (low-old : old < n) (low : new < n) (live-old : get_or nodes old false ≡ true) (live-new : get_or nodes new false ≡ true) (other : eqb new old ≡ false) where
  -- what moves is the walk of the old node
  moving_is : live_entries flags (taken flags (get_or axis.nodes old no_adjacency)) ≡ get_or (walks_of flags nodes axis).lists old []
  moving_is =
      live_taken flags (get_or axis.nodes old no_adjacency)
      ∙ sym (list_at flags nodes axis old ∙ ap (λ (b : Bool). walk_of flags b (get_or axis.nodes old no_adjacency)) live-old)

  moved_at : (z : ℕ) → get_or (walks_of flags nodes (moved_axis flags old new axis)).lists z []
      ≡ get_or (moved old new (walks_of flags nodes axis)).lists z []
  unfolding moved_axis keep
  moved_at z =
      let a = get_or axis.nodes old no_adjacency in
      let b = get_or axis.nodes new no_adjacency in
      let moving = live_entries flags (taken flags a) in
      let a' = with_run [] a in
      let b' = with_run (swept flags (taken flags b) ++ moving) b in
      let there : (x : ℕ) → x < n → x < length axis.nodes = λ x l. omega (arith, lists_length flags nodes axis, t.lists_length) in
      let lists = (walks_of flags nodes axis).lists in
      let walk-b : walk_of flags true b' ≡ get_or lists new [] ++ get_or lists old [] =
      edited_walk flags (swept flags (taken flags b) ++ moving) b ∙ keep_append (live_in flags) (swept flags (taken flags b)) moving
      ∙ ap₂ (λ (k l : List ℕ). k ++ l)
      (live_edited flags b ∙ sym (list_at flags nodes axis new ∙ ap (λ (f : Bool). walk_of flags f b) live-new))
      (keep_again (live_in flags) (taken flags a) ∙ moving_is) in
      list_at flags nodes (moved_axis flags old new axis) z
      ∙ rw (
        get_d_set (set axis.nodes old a') new z b' no_adjacency (rw (length-set axis.nodes old a') (there new low)),
        get_d_set axis.nodes old z a' no_adjacency (there old low-old),
        moved_list old new low-old low t other z,
      )
      (by_test (eqb z old) (λ q. rw (q, eqb-true z old q, eqb_comm old new, other, live-old))
      (λ q. rw q (by_test (eqb z new) (λ r. rw (r, eqb-true z new r, live-new) walk-b) (λ r. rw r (sym (list_at flags nodes axis z))))))

  moved_lists : walks_of flags nodes (moved_axis flags old new axis) ≡ moved old new (walks_of flags nodes axis)
  unfolding moved_axis moved
  moved_lists =
      let a = get_or axis.nodes old no_adjacency in
      let b = get_or axis.nodes new no_adjacency in
      let moving = live_entries flags (taken flags a) in
      let a' = with_run [] a in
      let lists = (walks_of flags nodes axis).lists in
      incidence_ext (ap (λ (l : List ℕ). set_all l new axis.ends) moving_is)
      (lists_length flags nodes (moved_axis flags old new axis) ∙ length-set (set axis.nodes old a') new (with_run (swept flags (taken flags b) ++ moving) b)
      ∙ length-set axis.nodes old a'
      ∙ sym (length-set (append_at new (get_or lists old []) lists) old [] ∙ length_append_at new (get_or lists old []) lists ∙ lists_length flags nodes axis))
      moved_at

module _ {caps : Capacities} {s : Shape} (h : Proper caps s) where
  -- one direction of the shape's lists is well formed
  direction : (d : TraversalDirection) → Incident (edge_flags_of s) (length s.nodes) (walks_of (edge_flags_of s) (node_flags_of s) (axis_in d s))
  unfolding plain_of
  direction Outgoing = h.walks.outgoing
  direction Incoming = h.walks.incoming

  -- it is that of the plain lists
  direction_is : (d : TraversalDirection) → walks_of (edge_flags_of s) (node_flags_of s) (axis_in d s) ≡ incidence d (plain_of s)
  unfolding plain_of
  direction_is Outgoing = refl
  direction_is Incoming = refl

  live_node_low : (x : ℕ) → get_or (node_flags_of s) x false ≡ true → x < length s.nodes
  live_node_low x l = omega (arith, live_below (node_flags_of s) x l, length-map s.nodes (λ (n : NodeSlot). n.live))

  -- the end of an edge, off the shape
  end_is : (d : TraversalDirection) (e : ℕ) → end_of d (plain_of s) e ≡ get_or (axis_in d s).ends e 0
  end_is d e = ap (λ (l : List ℕ). get_or l e 0) (ends_of s d)

  pub redirect_refines : (d : TraversalDirection) (e new : ℕ) → get_or (edge_flags_of s) e false ≡ true → get_or (node_flags_of s) new false ≡ true
      → (end_of d (plain_of s) e ≡ new → ⊥) → plain_of (acted (Redirect d e new) s) ≡ with_incidence d (redirected e new (incidence d (plain_of s))) (plain_of s)
  unfolding acted plain_of
  redirect_refines d e new le ln other =
      let apart : eqb new (get_or (axis_in d s).ends e 0) ≡ false = ne_eqb new (get_or (axis_in d s).ends e 0) (λ q. other (end_is d e ∙ sym q)) in
      let live-old : get_or (node_flags_of s) (get_or (axis_in d s).ends e 0) false ≡ true =
      ap (λ (x : ℕ). get_or (node_flags_of s) x false) (sym (end_is d e)) ∙ h.walks.ends_live d e le in
      with_axis_refines s d (redirected_axis (edge_flags_of s) e new (axis_in d s)) (redirected e new (incidence d (plain_of s)))
      (redirected_lists (edge_flags_of s) (node_flags_of s) (length s.nodes) (axis_in d s) (direction d) e new le (live_node_low new ln) ln live-old apart
      ∙ ap (redirected e new) (direction_is d))

  -- a node with something to walk is live
  walked_live : (d : TraversalDirection) (x : ℕ) → (list_of d (plain_of s) x ≡ [] → ⊥) → get_or (node_flags_of s) x false ≡ true
  walked_live d x held =
      by_test (get_or (node_flags_of s) x false) (λ l. l)
      (λ l. absurd (held (list_is_walk s d x ∙ ap (λ (b : Bool). walk_of (edge_flags_of s) b (adjacency_of d s x)) l)))

  pub move_refines : (d : TraversalDirection) (old new : ℕ) → (old ≡ new → ⊥) → old < length s.nodes → (list_of d (plain_of s) old ≡ [] → ⊥)
      → get_or (node_flags_of s) new false ≡ true → plain_of (acted (Move d old new) s) ≡ with_incidence d (moved old new (incidence d (plain_of s))) (plain_of s)
  unfolding acted
  move_refines d old new other low held ln =
      with_axis_refines s d (moved_axis (edge_flags_of s) old new (axis_in d s)) (moved old new (incidence d (plain_of s)))
      (moved_lists (edge_flags_of s) (node_flags_of s) (length s.nodes) (axis_in d s) (direction d) old new low (live_node_low new ln) (walked_live d old held) ln
      (ne_eqb new old (λ q. other (sym q))) ∙ ap (moved old new) (direction_is d))

  pub set_payload_refines : (e : ℕ) (v : EdgePayload) → plain_of (acted (SetPayload e v) s) ≡ payload_set e v (plain_of s)
  unfolding acted plain_of payload_set
  set_payload_refines e v =
      let slot : EdgeSlot = record { payload = v; live = (get_or s.edges e no_edge).live } in
      let flags : map (λ (e : EdgeSlot). e.live) (set s.edges e slot) ≡ edge_flags_of s = map-set_same (λ (e : EdgeSlot). e.live) s.edges e slot no_edge refl in
      plain_ext refl refl (ap (λ (f : List Bool). walks_of f (node_flags_of s) s.outgoing) flags)
      (ap (λ (f : List Bool). walks_of f (node_flags_of s) s.incoming) flags)
