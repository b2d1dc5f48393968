-- What the shape's step keeps: a proper shape stays proper.
use Rattle.std.specs.Prelude.{ℕ, zero, suc, ◌+◌, ◌<◌, ◌≡◌, refl, Bool, true, not, List, [], ◌∷◌, ◌++◌, length, get_or, set, eqb}
use Rattle.plain.specs.Library.{sym, ◌∙◌, Option, none, some, length-set, length-append, arith, eqb-true}
use Rattle.plain.specs.declared.TraversalDirection.{TraversalDirection}
use Rattle.plain.specs.declared.TraversalDirection.TheVariants.{Outgoing, Incoming}
use Rattle.plain.specs.declared.Operation.{Operation}
use Rattle.plain.specs.declared.Operation.TheVariants.{AddNode, AddEdge, RemoveEdge, RemoveNode, Redirect, Move, SetPayload, Unknown}
use Rattle.plain.specs.Lists.{member, without, keep}
use Rattle.plain.specs.Plain.{EdgeSlot, killed_edge, no_edge}
use Rattle.plain.specs.Step.{Capacities, Outcome, step}
use Rattle.plain.proofs.Laws.Booleans.{by_test, and_left, or_other, or_false}
use Rattle.plain.proofs.Laws.ListLaws.{member_append, member_keep, member_without}
use Rattle.plain.specs.Laws.Cases.{Case, redirect_edge_absent, redirect_edge_removed, redirect_node_absent, redirect_node_removed, redirect_same, redirect}
use Rattle.plain.proofs.Laws.Cases.{case_of}
use Rattle.plain.proofs.Laws.Operating.{edge_below}
use Rattle.plain.specs.Laws.Stepping.{Fitting}
use Rattle.plain.proofs.Laws.Stepping.{step_well_formed}
use Rattle.shape.specs.Chains.{In}
use Rattle.shape.specs.Shape.{Adjacency, Shape, hiding, part, raw, live_in, no_adjacency, axis_in, adjacency_of, edge_flags_of, plain_of}
use Rattle.shape.specs.Steps.{live_entries, run_or_base, taken, swept, with_run, opened, appended, redirected_axis, moved_axis, retired, walk_in, acted, acts, shape_step}
use Rattle.shape.proofs.Laws.Chains.{in_front, in_none}
use Rattle.shape.specs.Laws.Refining.{Proper}
use Rattle.shape.proofs.Laws.Refining.{get_or_added}
use Rattle.shape.proofs.Laws.Stepping.{step_refines}

-- ---- entries of edited lists come from the lists

-- an entry of two lists joined is in one of them
pub in_either : {P : Type 0} (e : ℕ) (a b : List ℕ) → In e (a ++ b) → (In e a → P) → (In e b → P) → P
in_either e a b m f g =
    let k = sym (member_append e a b) ∙ m in
    by_test (member e a) f (λ q. g (or_other k q))

pub in_second : (e : ℕ) (a b : List ℕ) → In e b → In e (a ++ b)
in_second e a b m = rw (member_append e a b, m) (by_test (member e a) (λ q. rw q) (λ q. rw q))

-- what is kept was there
pub in_keep : (test : ℕ → Bool) (e : ℕ) (l : List ℕ) → In e (keep test l) → In e l
in_keep test e l m = and_left (member e l) (test e) (sym (member_keep test e l) ∙ m)

pub in_without : (y e : ℕ) (l : List ℕ) → In e (without y l) → In e l
in_without y e l m = and_left (member e l) (not (eqb y e)) (sym (member_without e y l) ∙ m)

module _ (flags : List Bool) where
  -- what a run takes over comes from the node's adjacency
  pub in_taken : (a : Adjacency) (e : ℕ) → In e (taken flags a) → In e (raw a)
  unfolding taken
  in_taken a e m =
      in_either e (run_or_base flags a.run a.base) (keep (live_in flags) a.ring) m (λ k. in_front e (part a) a.ring (first a.run k))
      (λ k. in_second e (part a) a.ring (in_keep (live_in flags) e a.ring k))
    where
      first : (run : Option (List ℕ)) → In e (run_or_base flags run a.base) → In e (hiding run a.base)
      first none k = in_keep (live_in flags) e a.base k
      first (some run) k = k

  pub in_edited : (a : Adjacency) (e : ℕ) → In e (swept flags (taken flags a)) → In e (raw a)
  in_edited a e m = in_taken a e (in_keep (live_in flags) e (taken flags a) m)

-- ---- entries stay edges of the store

-- an entry of a list of one
pub in_one : (k e : ℕ) → In k (e ∷ []) → k ≡ e
unfolding member
in_one k e m = eqb-true k e (sym (or_false (eqb k e)) ∙ m)

-- what holds of each element, and of one that is set, holds of each afterwards
pub set_each : {A : Type 0} (P : A → Type 0) (d : A) (l : List A) (x : ℕ) (a : A) → ((y : ℕ) → P (get_or l y d)) → P a → (y : ℕ) → P (get_or (set l x a) y d)
set_each P d [] x a h k y = h y
set_each P d (b ∷ l) zero a h k zero = k
set_each P d (b ∷ l) zero a h k (suc y) = h (suc y)
set_each P d (b ∷ l) (suc x) a h k zero = h zero
set_each P d (b ∷ l) (suc x) a h k (suc y) = set_each P d l x a (λ z. h (suc z)) k y

-- an adjacency whose entries are below n
abbrev Low : ℕ → Adjacency → Type 0
Low n a = (e : ℕ) → In e (raw a) → e < n

-- entries of a run that was edited
run_low : (n : ℕ) (run : List ℕ) (a : Adjacency) → ((e : ℕ) → In e run → e < n) → Low n (with_run run a)
run_low n run a h e m = in_either e run [] m (h e) (λ k. in_none e k)

module _ {caps : Capacities} {s : Shape} (h : Proper caps s) where
  bound : ℕ
  bound = length s.edges

  low : (d : TraversalDirection) (x : ℕ) → Low bound (adjacency_of d s x)
  unfolding bound
  low d x = h.entries_below d x

  -- a direction whose edited nodes stay low
  redirected_low : (d : TraversalDirection) (e new : ℕ) → e < bound → (x : ℕ) → Low bound (get_or (redirected_axis (edge_flags_of s) e new (axis_in d s)).nodes x no_adjacency)
  unfolding redirected_axis
  redirected_low d e new le =
      let flags = edge_flags_of s in
      let old = get_or (axis_in d s).ends e 0 in
      let a = adjacency_of d s old in
      let b = adjacency_of d s new in
      set_each (Low bound) no_adjacency (set (axis_in d s).nodes old (with_run (without e (swept flags (taken flags a))) a)) new
      (with_run (swept flags (taken flags b) ++ (e ∷ [])) b)
      (set_each (Low bound) no_adjacency (axis_in d s).nodes old (with_run (without e (swept flags (taken flags a))) a) (low d)
      (run_low bound (without e (swept flags (taken flags a))) a (λ k m. low d old k (in_edited flags a k (in_without e k (swept flags (taken flags a)) m)))))
      (run_low bound (swept flags (taken flags b) ++ (e ∷ [])) b
      (λ k m. in_either k (swept flags (taken flags b)) (e ∷ []) m (λ q. low d new k (in_edited flags b k q)) (λ q. rw (in_one k e q) le)))

  moved_low : (d : TraversalDirection) (old new : ℕ) → (x : ℕ) → Low bound (get_or (moved_axis (edge_flags_of s) old new (axis_in d s)).nodes x no_adjacency)
  unfolding moved_axis
  moved_low d old new =
      let flags = edge_flags_of s in
      let a = adjacency_of d s old in
      let b = adjacency_of d s new in
      let moving = live_entries flags (taken flags a) in
      set_each (Low bound) no_adjacency (set (axis_in d s).nodes old (with_run [] a)) new (with_run (swept flags (taken flags b) ++ moving) b)
      (set_each (Low bound) no_adjacency (axis_in d s).nodes old (with_run [] a) (low d) (run_low bound [] a (λ k m. in_none k m)))
      (run_low bound (swept flags (taken flags b) ++ moving) b
      (λ k m. in_either k (swept flags (taken flags b)) moving m (λ q. low d new k (in_edited flags b k q))
      (λ q. low d old k (in_taken flags a k (in_keep (live_in flags) k (taken flags a) q)))))

  -- one edge more
  appended_low : (d : TraversalDirection) (x : ℕ) → (y : ℕ) → Low (bound + 1) (get_or (appended bound x (axis_in d s)).nodes y no_adjacency)
  unfolding appended
  appended_low d x =
      let a = adjacency_of d s x in
      set_each (Low (bound + 1)) no_adjacency (axis_in d s).nodes x (record { base = a.base; run = a.run; ring = a.ring ++ (bound ∷ []) })
      (λ y e m. let l = low d y e m in omega arith)
      (λ e m. in_either e (part a) (a.ring ++ (bound ∷ [])) m (λ k. let l = low d x e (in_front e (part a) a.ring k) in omega arith)
      (λ k. in_either e a.ring (bound ∷ []) k (λ q. let l = low d x e (in_second e (part a) a.ring q) in omega arith)
      (λ q. let same = in_one e bound q in omega arith)))

  opened_low : (d : TraversalDirection) (x : ℕ) → Low bound (get_or (opened (axis_in d s)).nodes x no_adjacency)
  opened_low d x = rw (get_or_added (axis_in d s).nodes no_adjacency x) (low d x)

-- removals keep the number of edge slots
pub retired_length : (es : List ℕ) (edges : List EdgeSlot) → length (retired es edges) ≡ length edges
unfolding retired
retired_length [] edges = refl
retired_length (e ∷ es) edges = retired_length es (set edges e (killed_edge (get_or edges e no_edge))) ∙ length-set edges e (killed_edge (get_or edges e no_edge))

module _ {caps : Capacities} {s : Shape} (h : Proper caps s) where
  -- a redirected edge is one of the store's
  abbrev Known : Operation → Type 0
  Known (AddNode v) = Unit
  Known (AddEdge a b v) = Unit
  Known (RemoveEdge e) = Unit
  Known (RemoveNode x) = Unit
  Known (Redirect d e new) = e < length s.edges
  Known (Move d old new) = Unit
  Known (SetPayload e v) = Unit
  Known Unknown = Unit

  acted_low : (operation : Operation) → Known operation → (d : TraversalDirection) (x : ℕ) → Low (length (acted operation s).edges) (adjacency_of d (acted operation s) x)
  unfolding acted bound
  acted_low (AddNode v) k Outgoing x = opened_low h Outgoing x
  acted_low (AddNode v) k Incoming x = opened_low h Incoming x
  acted_low (AddEdge a b v) k Outgoing x = rw (length-append s.edges (record { payload = v; live = true } ∷ [])) (appended_low h Outgoing a x)
  acted_low (AddEdge a b v) k Incoming x = rw (length-append s.edges (record { payload = v; live = true } ∷ [])) (appended_low h Incoming b x)
  acted_low (RemoveEdge e) k Outgoing x = rw (retired_length (e ∷ []) s.edges) (low h Outgoing x)
  acted_low (RemoveEdge e) k Incoming x = rw (retired_length (e ∷ []) s.edges) (low h Incoming x)
  acted_low (RemoveNode y) k Outgoing x = rw (retired_length (walk_in Outgoing s y ++ walk_in Incoming s y) s.edges) (low h Outgoing x)
  acted_low (RemoveNode y) k Incoming x = rw (retired_length (walk_in Outgoing s y ++ walk_in Incoming s y) s.edges) (low h Incoming x)
  acted_low (Redirect Outgoing e new) k Outgoing x = redirected_low h Outgoing e new k x
  acted_low (Redirect Outgoing e new) k Incoming x = low h Incoming x
  acted_low (Redirect Incoming e new) k Outgoing x = low h Outgoing x
  acted_low (Redirect Incoming e new) k Incoming x = redirected_low h Incoming e new k x
  acted_low (Move Outgoing old new) k Outgoing x = moved_low h Outgoing old new x
  acted_low (Move Outgoing old new) k Incoming x = low h Incoming x
  acted_low (Move Incoming old new) k Outgoing x = low h Outgoing x
  acted_low (Move Incoming old new) k Incoming x = moved_low h Incoming old new x
  acted_low (SetPayload e v) k Outgoing x = rw (length-set s.edges e (record { payload = v; live = (get_or s.edges e no_edge).live })) (low h Outgoing x)
  acted_low (SetPayload e v) k Incoming x = rw (length-set s.edges e (record { payload = v; live = (get_or s.edges e no_edge).live })) (low h Incoming x)
  acted_low Unknown k d x = low h d x

  -- a redirect that is done names an edge of the store
  redirect_known : (d : TraversalDirection) (e new : ℕ) {o : Outcome} → Case caps (plain_of s) (Redirect d e new) o → o.number ≡ 0 → e < length s.edges
  unfolding plain_of
  redirect_known d e new (redirect_edge_absent k) n = absurd (omega arith)
  redirect_known d e new (redirect_edge_removed k) n = absurd (omega arith)
  redirect_known d e new (redirect_node_absent k l) n = absurd (omega arith)
  redirect_known d e new (redirect_node_removed k l) n = absurd (omega arith)
  redirect_known d e new (redirect_same k l m) n = edge_below (plain_of s) e k
  redirect_known d e new (redirect k l m) n = edge_below (plain_of s) e k

  known : (operation : Operation) → acts operation (step caps (plain_of s) operation) ≡ true → Known operation
  known (AddNode v) a = tt
  known (AddEdge x y v) a = tt
  known (RemoveEdge e) a = tt
  known (RemoveNode x) a = tt
  known (Redirect d e new) a =
      let o = step caps (plain_of s) (Redirect d e new) in
      redirect_known d e new (case_of caps (plain_of s) (Redirect d e new)) (eqb-true o.number 0 (and_left (eqb o.number 0) (not (eqb o.value new)) a))
  known (Move d old new) a = tt
  known (SetPayload e v) a = tt
  known Unknown a = tt

  -- entries stay edges of the store
  stepped_low : (operation : Operation) (d : TraversalDirection) (x e : ℕ) → In e (raw (adjacency_of d (shape_step caps s operation) x))
      → e < length (shape_step caps s operation).edges
  unfolding shape_step bound
  stepped_low operation d x =
      by_test (acts operation (step caps (plain_of s) operation)) (λ a. rw a (acted_low operation (known operation a) d x)) (λ a. rw a (low h d x))

  -- an operation keeps a shape proper
  pub step_proper : (operation : Operation) → Fitting operation → Proper caps (shape_step caps s operation)
  step_proper operation fits = record {
    walks = rw (step_refines h operation) (step_well_formed operation fits h.walks);
    entries_below = stepped_low operation;
  }
