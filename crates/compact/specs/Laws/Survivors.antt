-- The shape of survivors is compact, and its plain lists are the survivors'.
use Rattle.std.specs.Prelude.{ℕ, ◌<◌, ◌≡◌, refl, Bool, false, not, true, List, [], ◌∷◌, map, get_or, length, replicate}
use Rattle.plain.specs.Library.{◌∙◌, ap, ap₂, sym, append-nil, get_or-map, length-map, arith, eq-eqb, lt-ltb, ltb-true}
use Rattle.plain.specs.Compaction.{EdgeRecord, Survivors, kept_edge, kept_node, of_survivors, source_of, target_of}
use Rattle.plain.specs.Lists.{all, from, member}
use Rattle.plain.specs.Plain.{EdgeSlot, Incidence, NodeSlot, Plain, node_flags, edge_flags}
use Rattle.plain.specs.Step.{State}
use Rattle.plain.specs.WellFormed.{Fitted, Sound}
use Rattle.plain.proofs.Laws.Compacting.{edge_flags_of, node_flags_of}
use Rattle.plain.proofs.Laws.Fitting.{fitted_many, has_end_below, right_at}
use Rattle.plain.proofs.Laws.ListLaws.{map_get_or, map_same, member_below}
use Rattle.plain.proofs.Laws.Rank.{live_all_live}
use Rattle.shape.specs.Shape.{has_run, is_compact, live_in, no_adjacency, plain_of, walk_of, walks_of}
use Rattle.shape.specs.Steps.{state_of}
use Rattle.shape.specs.Laws.NewBase.{in_base}
use Rattle.shape.proofs.Laws.Taking.{keep_passing}
use Rattle.compact.specs.Survivors.{shape_of_survivors}

-- ---- one direction

module _ {n : ℕ} {ends : List ℕ} {lists : List (List ℕ)} (f : Fitted n ends lists) where
  -- every entry of a list is an edge
  entry_live : (x e : ℕ) → member e (get_or lists x []) ≡ true → live_in (replicate (length ends) true) e ≡ true
  entry_live x e m =
      let low = has_end_below ends x e ((right_at ends lists f.right).at_end x e m) in
      live_all_live (length ends) e ∙ lt-ltb e (length ends) low

  -- the walk of a node is its list
  based_walk : (x : ℕ) → x < n → walk_of (replicate (length ends) true) (get_or (replicate n true) x false) (get_or (map in_base lists) x no_adjacency) ≡ get_or lists x []
  based_walk x h =
      rw (live_all_live n x ∙ lt-ltb x n h, get_or-map in_base lists x [], append-nil (get_or lists x []))
      (keep_passing (live_in (replicate (length ends) true)) (get_or lists x []) (entry_live x))

  -- the direction's plain lists
  based_incidence : walks_of (replicate (length ends) true) (replicate n true) (record { ends = ends; nodes = map in_base lists })
      ≡ record { ends = ends; lists = lists }
  based_incidence =
      let walk : ℕ → List ℕ = λ x. walk_of (replicate (length ends) true) (get_or (replicate n true) x false) (get_or (map in_base lists) x no_adjacency) in
      ap (λ (ls : List (List ℕ)). record { ends = ends; lists = ls })
      (ap (λ (k : ℕ). map walk (from 0 k)) (length-map lists in_base)
      ∙ map_same walk (λ x. get_or lists x []) (from 0 (length lists))
      (λ x m. based_walk x (let l = ltb-true x (length lists) (sym (member_below x (length lists)) ∙ m) in let many = fitted_many f in omega arith))
      ∙ map_get_or lists [])

-- ---- every slot is live, and no node has a run

-- slots that are made live
all_made : {A B : Type 0} (live : B → Bool) (make : A → B) → ((x : A) → live (make x) ≡ true) → (l : List A) → all (λ f. f) (map live (map make l)) ≡ true
unfolding all
all_made live make on [] = refl
all_made live make on (x ∷ l) = rw (on x) (all_made live make on l)

all_based : (l : List (List ℕ)) → all (λ a. not (has_run a)) (map in_base l) ≡ true
unfolding all
all_based [] = refl
all_based (x ∷ l) = all_based l

-- ---- the whole

module _ (s : Survivors) (sound : Sound s) where
  -- a direction, by the function that gives an edge's end in it
  direction : (end : EdgeRecord → ℕ) (lists : List (List ℕ)) → Fitted (length s.nodes) (map end s.edges) lists
      → walks_of (edge_flags (of_survivors s)) (node_flags (of_survivors s)) (record { ends = map end s.edges; nodes = map in_base lists })
      ≡ record { ends = map end s.edges; lists = lists }
  direction end lists fitted =
      ap₂ {C = Incidence} (λ (e n : List Bool). walks_of e n (record { ends = map end s.edges; nodes = map in_base lists })) (edge_flags_of s) (node_flags_of s)
      ∙ ap (λ (k : ℕ). walks_of (replicate k true) (replicate (length s.nodes) true) (record { ends = map end s.edges; nodes = map in_base lists }))
      (sym (length-map s.edges end)) ∙ based_incidence fitted

  -- its plain lists are the survivors'
  pub survivors_plain : plain_of (shape_of_survivors s) ≡ of_survivors s
  unfolding plain_of shape_of_survivors of_survivors
  survivors_plain =
      let out = direction source_of s.outs sound.outs in
      let into = direction target_of s.ins sound.ins in
      λ i. record { nodes = map kept_node s.nodes; edges = map kept_edge s.edges; outgoing = out i; incoming = into i }

  -- it is compact
  pub survivors_compact : is_compact (shape_of_survivors s) ≡ true
  unfolding is_compact shape_of_survivors
  survivors_compact =
      rw (
        eq-eqb (length s.nodes) (length (map kept_node s.nodes)) (sym (length-map s.nodes kept_node)),
        eq-eqb (length s.edges) (length (map kept_edge s.edges)) (sym (length-map s.edges kept_edge)),
        all_made (λ (n : NodeSlot). n.live) kept_node (λ x. refl) s.nodes,
        all_made (λ (e : EdgeSlot). e.live) kept_edge (λ x. refl) s.edges,
        all_based s.outs,
        all_based s.ins,
      )

  -- so lists and flag are what document 01 leaves
  pub survivors_state : state_of (shape_of_survivors s) ≡ record { lists = of_survivors s; compact = true }
  survivors_state = ap₂ {C = State} (λ (p : Plain) (c : Bool). record { lists = p; compact = c }) survivors_plain survivors_compact
