-- Laws of joining: the result is well formed, its lists are the renumbered lists of both, what the maps give, that joining is associative on survivors, and that an empty
-- book adds nothing to what compaction leaves.
-- ---- raised numbers
use Rattle.std.specs.Prelude.{ℕ, zero, suc, ◌+◌, ◌-◌, ◌≤◌, ◌<◌, ◌^◌, ◌≡◌, refl, Bool, true, false, cond, ◌&&◌, List, [], ◌∷◌, ◌++◌, map, length, get_or, replicate, eqb}
use Rattle.plain.specs.Library.{sym, ap, ap₂, ◌∙◌, subst, ⊎_elim, map-map, append_assoc, append-nil, length-append, length-map, length-replicate, get_or-append, get_or-map, zero-add, arith, ne_eqb, lt-ltb, le-ltb}
use Rattle.std.proofs.lemmas.List.{map-append}
use Rattle.std.proofs.Common.{add_assoc, get_or-append-add}
use Rattle.plain.specs.declared.TraversalDirection.{TraversalDirection}
use Rattle.plain.specs.declared.TraversalDirection.TheVariants.{Outgoing, Incoming}
use Rattle.plain.specs.Numbers.{NONE, LIMIT}
use Rattle.plain.specs.Lists.{member, distinct, joined}
use Rattle.plain.specs.declared.EdgePayload.{EdgePayload}
use Rattle.plain.specs.Plain.{no_payload, Plain, empty, Incidence, node_flags, edge_flags, list_of}
use Rattle.plain.specs.Step.{Capacities}
use Rattle.plain.specs.Reads.{live_nodes, live_edges, live_from}
use Rattle.plain.specs.Renumbering.{lookup}
use Rattle.plain.specs.Compaction.{EdgeRecord, Survivors, rank, survivors, of_survivors, compacted, renumbering_from, renumbering, source_of, target_of, payload_of}
use Rattle.plain.proofs.Laws.Booleans.{refuted, below_or_not, eqb_same, and_false}
use Rattle.plain.proofs.Laws.ListLaws.{get_d_map, member_map, member_source, distinct_map}
use Rattle.plain.proofs.Laws.Rank.{live_all_live, rank_live}
use Rattle.plain.proofs.Laws.Renumberings.{lookup_from}
use Rattle.plain.proofs.Laws.Fitting.{incident_fitted, fitted_incident, fitted_many}
use Rattle.plain.specs.WellFormed.{Weighed, Incident, Fitted, WellFormed, Sound}
use Rattle.plain.proofs.Laws.Compacting.{of_survivors_well_formed, compacted_list, length_surviving_nodes, length_surviving_edges, survivors_sound, survivors_of}
use Rattle.plain.specs.Joining.{raised, raised_edge, joined_survivors, joined_plain, join_maps}
use Rattle.plain.specs.Laws.Joining.{no_survivors}

-- a raised number is a member where the number is
member_raised : (m e : ℕ) (xs : List ℕ) → member (m + e) (raised m xs) ≡ member e xs
member_raised m e xs = member_map (λ x. m + x) e xs (λ x h q. omega arith)

-- and none below is one
member_below_raised : (m e : ℕ) (xs : List ℕ) → e < m → member e (raised m xs) ≡ false
member_below_raised m e xs h =
    refuted (member e (raised m xs)) (λ k. let there = member_source (λ x. m + x) e xs k in let x = there.0 in let same : m + x ≡ e = there.2 in omega arith)

distinct_raised : (m : ℕ) (xs : List ℕ) → distinct xs ≡ true → distinct (raised m xs) ≡ true
distinct_raised m xs h = distinct_map (λ x. m + x) xs (λ x y k l q. omega arith) ∙ h

-- ---- one direction

-- the lists of both: those of the first, then those of the second by raised numbers
abbrev both : ℕ → ℕ → Incidence → Incidence → Incidence
both n m i j = record { ends = i.ends ++ raised n j.ends; lists = i.lists ++ map (raised m) j.lists }

module _ (n₁ m₁ n₂ m₂ : ℕ) (i j : Incidence) (s : Incident (replicate m₁ true) n₁ i) (t : Incident (replicate m₂ true) n₂ j) where
  long_ends : length i.ends ≡ m₁
  long_ends = s.ends_length ∙ length-replicate m₁ true

  -- lists and ends of the first book
  first_list : (x : ℕ) → x < n₁ → get_or (both n₁ m₁ i j).lists x [] ≡ get_or i.lists x []
  first_list x h = get_or-append i.lists (map (raised m₁) j.lists) [] x (subst (λ (k : ℕ). x < k) (sym s.lists_length) h)

  first_end : (e : ℕ) → e < m₁ → get_or (both n₁ m₁ i j).ends e 0 ≡ get_or i.ends e 0
  first_end e h = get_or-append i.ends (raised n₁ j.ends) 0 e (subst (λ (k : ℕ). e < k) (sym long_ends) h)

  -- and of the second
  second_list : (y : ℕ) → get_or (both n₁ m₁ i j).lists (n₁ + y) [] ≡ raised m₁ (get_or j.lists y [])
  second_list y =
      ap (λ (k : ℕ). get_or (both n₁ m₁ i j).lists (k + y) []) (sym s.lists_length)
      ∙ get_or-append-add i.lists (map (raised m₁) j.lists) y [] ∙ get_or-map (raised m₁) j.lists y []

  second_end : (f : ℕ) → f < m₂ → get_or (both n₁ m₁ i j).ends (m₁ + f) 0 ≡ n₁ + get_or j.ends f 0
  second_end f h =
      ap (λ (k : ℕ). get_or (both n₁ m₁ i j).ends (k + f) 0) (sym long_ends)
      ∙ get_or-append-add i.ends (raised n₁ j.ends) f 0
      ∙ get_d_map (λ x. n₁ + x) j.ends f 0 0 (subst (λ (k : ℕ). f < k) (sym (t.ends_length ∙ length-replicate m₂ true)) h)

  -- "all live"
  all_live : (k e : ℕ) → e < k → get_or (replicate k true) e false ≡ true
  all_live k e h = live_all_live k e ∙ lt-ltb e k h

  none_live : (k e : ℕ) → k ≤ e → get_or (replicate k true) e false ≡ false
  none_live k e h = live_all_live k e ∙ le-ltb e k h

  -- a test that an edge is live and ends at a node
  abbrev ends_at : ℕ → ℕ → Bool
  ends_at x e = get_or (replicate (m₁ + m₂) true) e false && eqb (get_or (both n₁ m₁ i j).ends e 0) x

  -- no edge of the second book ends in the first
  second_edge : (x e : ℕ) → x < n₁ → m₁ ≤ e → ends_at x e ≡ false
  second_edge x e h k =
      ⊎_elim
      (λ within.
      let f = e - m₁ in
      let at : e ≡ m₁ + f = omega arith in
      let end : get_or (both n₁ m₁ i j).ends e 0 ≡ n₁ + get_or j.ends f 0 = ap (λ (k : ℕ). get_or (both n₁ m₁ i j).ends k 0) at ∙ second_end f (omega arith) in
      ap (λ (b : Bool). get_or (replicate (m₁ + m₂) true) e false && b) (ne_eqb (get_or (both n₁ m₁ i j).ends e 0) x (λ q. omega arith))
      ∙ and_false (get_or (replicate (m₁ + m₂) true) e false))
      (λ beyond. ap (λ (b : Bool). b && eqb (get_or (both n₁ m₁ i j).ends e 0) x) (none_live (m₁ + m₂) e beyond)) (below_or_not e (m₁ + m₂))

  -- and none of the first in the second
  first_edge : (y e : ℕ) → e < m₁ → ends_at (n₁ + y) e ≡ false
  first_edge y e h =
      let end = first_end e h in
      let below : get_or i.ends e 0 < n₁ = s.ends_below e (subst (λ (k : ℕ). e < k) (sym (length-replicate m₁ true)) h) in
      ap (λ (b : Bool). get_or (replicate (m₁ + m₂) true) e false && b) (ne_eqb (get_or (both n₁ m₁ i j).ends e 0) (n₁ + y) (λ q. omega arith))
      ∙ and_false (get_or (replicate (m₁ + m₂) true) e false)

  in_first : (x e : ℕ) → x < n₁ → member e (get_or (both n₁ m₁ i j).lists x []) ≡ ends_at x e
  in_first x e h =
      ap (member e) (first_list x h) ∙ s.listed x e
      ∙ ⊎_elim
      (λ k. ap₂ (λ (a : Bool) (b : ℕ). a && eqb b x) (all_live m₁ e k ∙ sym (all_live (m₁ + m₂) e (omega arith))) (sym (first_end e k)))
      (λ k. ap (λ (a : Bool). a && eqb (get_or i.ends e 0) x) (none_live m₁ e k) ∙ sym (second_edge x e h k)) (below_or_not e m₁)

  of_second : (y f : ℕ) → member (m₁ + f) (get_or (both n₁ m₁ i j).lists (n₁ + y) []) ≡ ends_at (n₁ + y) (m₁ + f)
  of_second y f =
      ap (member (m₁ + f)) (second_list y) ∙ member_raised m₁ f (get_or j.lists y []) ∙ t.listed y f
      ∙ ⊎_elim
      (λ k.
      ap₂ (λ (a b : Bool). a && b) (all_live m₂ f k ∙ sym (all_live (m₁ + m₂) (m₁ + f) (omega arith)))
      (eqb_same (get_or j.ends f 0) y (n₁ + get_or j.ends f 0) (n₁ + y) (λ q. omega arith) (λ q. omega arith)
      ∙ ap (λ (a : ℕ). eqb a (n₁ + y)) (sym (second_end f k))))
      (λ k.
      ap (λ (a : Bool). a && eqb (get_or j.ends f 0) y) (none_live m₂ f k)
      ∙ sym (ap (λ (a : Bool). a && eqb (get_or (both n₁ m₁ i j).ends (m₁ + f) 0) (n₁ + y)) (none_live (m₁ + m₂) (m₁ + f) (omega arith))))
      (below_or_not f m₂)

  in_second : (y e : ℕ) → member e (get_or (both n₁ m₁ i j).lists (n₁ + y) []) ≡ ends_at (n₁ + y) e
  in_second y e =
      ⊎_elim (λ k. ap (member e) (second_list y) ∙ member_below_raised m₁ e (get_or j.lists y []) k ∙ sym (first_edge y e k))
      (λ k.
      let at : m₁ + (e - m₁) ≡ e = omega arith in
      subst (λ (k : ℕ). member k (get_or (both n₁ m₁ i j).lists (n₁ + y) []) ≡ ends_at (n₁ + y) k) at (of_second y (e - m₁)))
      (below_or_not e m₁)

  joined_listed : (x e : ℕ) → member e (get_or (both n₁ m₁ i j).lists x []) ≡ ends_at x e
  joined_listed x e =
      ⊎_elim (in_first x e)
      (λ h.
      let at : n₁ + (x - n₁) ≡ x = omega arith in
      subst (λ (k : ℕ). member e (get_or (both n₁ m₁ i j).lists k []) ≡ ends_at k e) at (in_second (x - n₁) e))
      (below_or_not x n₁)

  joined_once : (x : ℕ) → distinct (get_or (both n₁ m₁ i j).lists x []) ≡ true
  joined_once x =
      ⊎_elim (λ h. ap distinct (first_list x h) ∙ s.once x)
      (λ h.
      let at : n₁ + (x - n₁) ≡ x = omega arith in
      subst (λ (k : ℕ). distinct (get_or (both n₁ m₁ i j).lists k []) ≡ true) at
      (ap distinct (second_list (x - n₁)) ∙ distinct_raised m₁ (get_or j.lists (x - n₁) []) (t.once (x - n₁))))
      (below_or_not x n₁)

  joined_end_below : (e : ℕ) → e < m₁ + m₂ → get_or (both n₁ m₁ i j).ends e 0 < n₁ + n₂
  joined_end_below e h =
      ⊎_elim
      (λ k.
      let end = first_end e k in
      let below : get_or i.ends e 0 < n₁ = s.ends_below e (subst (λ (k : ℕ). e < k) (sym (length-replicate m₁ true)) k) in
      omega arith)
      (λ k.
      let f = e - m₁ in
      let within : f < m₂ = omega arith in
      let at : e ≡ m₁ + f = omega arith in
      let end : get_or (both n₁ m₁ i j).ends e 0 ≡ n₁ + get_or j.ends f 0 = ap (λ (k : ℕ). get_or (both n₁ m₁ i j).ends k 0) at ∙ second_end f within in
      let below : get_or j.ends f 0 < n₂ = t.ends_below f (subst (λ (k : ℕ). f < k) (sym (length-replicate m₂ true)) within) in
      omega arith)
      (below_or_not e m₁)

  pub joined_incident : Incident (replicate (m₁ + m₂) true) (n₁ + n₂) (both n₁ m₁ i j)
  joined_incident = record {
    ends_length =
        length-append i.ends (raised n₁ j.ends)
        ∙ ap₂ (λ (a b : ℕ). a + b) long_ends (length-map j.ends (λ x. n₁ + x) ∙ t.ends_length ∙ length-replicate m₂ true)
        ∙ sym (length-replicate (m₁ + m₂) true);
    lists_length =
        length-append i.lists (map (raised m₁) j.lists) ∙ ap₂ (λ (a b : ℕ). a + b) s.lists_length (length-map j.lists (raised m₁) ∙ t.lists_length);
    ends_below = λ e h. joined_end_below e (subst (λ (k : ℕ). e < k) (length-replicate (m₁ + m₂) true) h);
    listed = joined_listed;
    once = joined_once;
  }

-- fitted lists of both are fitted
joined_fitted : (n₁ n₂ : ℕ) (ends₁ ends₂ : List ℕ) (lists₁ lists₂ : List (List ℕ)) → Fitted n₁ ends₁ lists₁ → Fitted n₂ ends₂ lists₂
    → Fitted (n₁ + n₂) (ends₁ ++ raised n₁ ends₂) (lists₁ ++ map (raised (length ends₁)) lists₂)
joined_fitted n₁ n₂ ends₁ ends₂ lists₁ lists₂ f g =
    let i : Incidence = record { ends = ends₁; lists = lists₁ } in
    let j : Incidence = record { ends = ends₂; lists = lists₂ } in
    incident_fitted (n₁ + n₂) (length ends₁ + length ends₂) (both n₁ (length ends₁) i j)
    (length-append ends₁ (raised n₁ ends₂) ∙ ap (λ (k : ℕ). length ends₁ + k) (length-map ends₂ (λ x. n₁ + x)))
    (joined_incident n₁ (length ends₁) n₂ (length ends₂) i j (fitted_incident n₁ (length ends₁) i refl f) (fitted_incident n₂ (length ends₂) j refl g))

-- ---- survivors

-- an end of the edges of both
pub ends_of_both : (end : EdgeRecord → ℕ) (by : ℕ) (es fs : List EdgeRecord) → ((r : EdgeRecord) → end (raised_edge by r) ≡ by + end r)
    → map end (es ++ map (raised_edge by) fs) ≡ map end es ++ raised by (map end fs)
ends_of_both end by [] fs h = map-map end (raised_edge by) fs ∙ each fs ∙ sym (map-map (λ x. by + x) end fs)
  where
    each : (fs : List EdgeRecord) → map (λ r. end (raised_edge by r)) fs ≡ map (λ r. by + end r) fs
    each [] = refl
    each (f ∷ fs) = ap₂ (λ (x : ℕ) (xs : List ℕ). x ∷ xs) (h f) (each fs)
ends_of_both end by (e ∷ es) fs h = ap (λ (xs : List ℕ). end e ∷ xs) (ends_of_both end by es fs h)

-- what holds of every entry of both lists holds of theirs one behind the other
append_each : {A : Type 0} (P : A → Type 0) (d : A) (xs ys : List A) → ((x : ℕ) → P (get_or xs x d)) → ((y : ℕ) → P (get_or ys y d)) → (x : ℕ) → P (get_or (xs ++ ys) x d)
append_each P d [] ys f g x = g x
append_each P d (x ∷ xs) ys f g zero = f 0
append_each P d (x ∷ xs) ys f g (suc k) = append_each P d xs ys (λ i. f (suc i)) g k

-- what of the edges is not raised
pub columns_of_both : {A : Type 0} (column : EdgeRecord → A) (by : ℕ) (es fs : List EdgeRecord) → ((r : EdgeRecord) → column (raised_edge by r) ≡ column r)
    → map column (es ++ map (raised_edge by) fs) ≡ map column es ++ map column fs
columns_of_both {A} column by [] fs h = map-map column (raised_edge by) fs ∙ each fs
  where
    each : (fs : List EdgeRecord) → map (λ r. column (raised_edge by r)) fs ≡ map column fs
    each [] = refl
    each (f ∷ fs) = ap₂ (λ (x : A) (xs : List A). x ∷ xs) (h f) (each fs)
columns_of_both {A} column by (e ∷ es) fs h = ap (λ (xs : List A). column e ∷ xs) (columns_of_both column by es fs h)

-- the survivors of both books have an image, if there are not too many
pub joined_sound : (s t : Survivors) → Sound s → Sound t → length s.nodes + length t.nodes ≤ LIMIT → length s.edges + length t.edges ≤ LIMIT
    → Sound (joined_survivors s t)
unfolding joined_survivors
joined_sound s t a b nodes edges =
    let n = length s.nodes in
    let m = length s.edges in
    let direction : (end : EdgeRecord → ℕ) (xs ys : List (List ℕ)) → ((r : EdgeRecord) → end (raised_edge n r) ≡ n + end r)
    → Fitted n (map end s.edges) xs → Fitted (length t.nodes) (map end t.edges) ys
    → Fitted (length (s.nodes ++ t.nodes)) (map end (s.edges ++ map (raised_edge n) t.edges)) (xs ++ map (raised m) ys) =
    λ end xs ys h f g.
    let there = joined_fitted n (length t.nodes) (map end s.edges) (map end t.edges) xs ys f g in
    rw (length-append, ends_of_both end n s.edges t.edges h, ← length-map s.edges end) there in
    record {
      nodes_within = rw length-append nodes;
      edges_within = rw (length-append, length-map) edges;
      node_payloads = append_each (λ (x : ℕ). x < 2 ^ 32) 0 s.nodes t.nodes a.node_payloads b.node_payloads;
      edge_payloads = λ e. subst (λ (l : List EdgePayload). Weighed (get_or l e no_payload)) (sym (columns_of_both payload_of n s.edges t.edges (λ r. refl)))
          (append_each Weighed no_payload (map payload_of s.edges) (map payload_of t.edges) a.edge_payloads b.edge_payloads e);
      outs = direction source_of s.outs t.outs (λ r. refl) a.outs b.outs;
      ins = direction target_of s.ins t.ins (λ r. refl) a.ins b.ins;
    }

-- ---- what joining leaves

-- lists in each direction
lists_of : TraversalDirection → Survivors → List (List ℕ)
lists_of Outgoing s = s.outs
lists_of Incoming s = s.ins

list_of_survivors : (s : Survivors) (d : TraversalDirection) (x : ℕ) → list_of d (of_survivors s) x ≡ get_or (lists_of d s) x []
unfolding of_survivors lists_of
list_of_survivors s Outgoing x = refl
list_of_survivors s Incoming x = refl

lists_joined : (s t : Survivors) (d : TraversalDirection)
    → lists_of d (joined_survivors s t) ≡ lists_of d s ++ map (raised (length s.edges)) (lists_of d t)
unfolding joined_survivors lists_of
lists_joined s t Outgoing = refl
lists_joined s t Incoming = refl

lists_many : (s : Survivors) → Sound s → (d : TraversalDirection) → length (lists_of d s) ≡ length s.nodes
unfolding lists_of
lists_many s a Outgoing = fitted_many a.outs
lists_many s a Incoming = fitted_many a.ins

module _ (s t : Survivors) (a : Sound s) (d : TraversalDirection) where
  -- a list of the first book is as it was
  pub joined_first : (x : ℕ) → x < length s.nodes → list_of d (of_survivors (joined_survivors s t)) x ≡ list_of d (of_survivors s) x
  joined_first x h =
      list_of_survivors (joined_survivors s t) d x ∙ ap (λ (ls : List (List ℕ)). get_or ls x []) (lists_joined s t d)
      ∙ get_or-append (lists_of d s) (map (raised (length s.edges)) (lists_of d t)) [] x (subst (λ (k : ℕ). x < k) (sym (lists_many s a d)) h)
      ∙ sym (list_of_survivors s d x)

  -- one of the second has its numbers raised
  pub joined_second : (y : ℕ) → list_of d (of_survivors (joined_survivors s t)) (length s.nodes + y) ≡ raised (length s.edges) (list_of d (of_survivors t) y)
  joined_second y =
      list_of_survivors (joined_survivors s t) d (length s.nodes + y)
      ∙ ap₂ (λ (ls : List (List ℕ)) (n : ℕ). get_or ls (n + y) []) (lists_joined s t d) (sym (lists_many s a d))
      ∙ get_or-append-add (lists_of d s) (map (raised (length s.edges)) (lists_of d t)) y []
      ∙ get_or-map (raised (length s.edges)) (lists_of d t) y []
      ∙ ap (raised (length s.edges)) (sym (list_of_survivors t d y))

module _ (caps₁ caps₂ : Capacities) (p q : Plain) (w : WellFormed caps₁ p) (v : WellFormed caps₂ q) (few₁ : (caps₁.nodes ≤ LIMIT) × (caps₁.edges ≤ LIMIT))
    (few₂ : (caps₂.nodes ≤ LIMIT) × (caps₂.edges ≤ LIMIT)) where
  sound_first : Sound (survivors p)
  sound_first = survivors_sound caps₁ p w few₁.0 few₁.1

  sound_second : Sound (survivors q)
  sound_second = survivors_sound caps₂ q v few₂.0 few₂.1

  -- "as a compact store": well-formed lists of the third memory's capacities, if the survivors of both are within them
  pub joined_well_formed : (caps : Capacities) → caps.nodes ≤ LIMIT → caps.edges ≤ LIMIT → live_nodes p + live_nodes q ≤ caps.nodes
      → live_edges p + live_edges q ≤ caps.edges → WellFormed caps (joined_plain p q)
  unfolding joined_plain joined_survivors
  joined_well_formed caps few_nodes few_edges nodes edges =
      let np = length_surviving_nodes p in
      let nq = length_surviving_nodes q in
      let ep = length_surviving_edges p in
      let eq = length_surviving_edges q in
      of_survivors_well_formed caps (joined_survivors (survivors p) (survivors q))
      (joined_sound (survivors p) (survivors q) sound_first sound_second (omega arith) (omega arith))
      (rw length-append (omega arith)) (rw (length-append, length-map) (omega arith))

  -- "The plain lists of the result are the renumbered lists of both."
  pub first_book : (d : TraversalDirection) (x : ℕ) → get_or (node_flags p) x false ≡ true
      → list_of d (joined_plain p q) (rank (node_flags p) x) ≡ map (rank (edge_flags p)) (list_of d p x)
  unfolding joined_plain compacted
  first_book d x live =
      let below = rank_live (node_flags p) x live in
      joined_first (survivors p) (survivors q) sound_first d (rank (node_flags p) x) (omega (arith, length_surviving_nodes p)) ∙ compacted_list p d x live

  pub second_book : (d : TraversalDirection) (x : ℕ) → get_or (node_flags q) x false ≡ true
      → list_of d (joined_plain p q) (live_nodes p + rank (node_flags q) x) ≡ map (λ e. live_edges p + rank (edge_flags q) e) (list_of d q x)
  unfolding joined_plain compacted
  second_book d x live =
      ap (λ (n : ℕ). list_of d (joined_plain p q) (n + rank (node_flags q) x)) (sym (length_surviving_nodes p))
      ∙ joined_second (survivors p) (survivors q) sound_first d (rank (node_flags q) x)
      ∙ ap₂ (λ (n : ℕ) (l : List ℕ). raised n l) (length_surviving_edges p) (compacted_list q d x live)
      ∙ map-map (λ e. live_edges p + e) (rank (edge_flags q)) (list_of d q x)

-- ---- the maps

pub second_node_map : (p q : Plain) (x : ℕ)
    → lookup (join_maps p q).second_nodes x ≡ cond (get_or (node_flags q) x false) (live_nodes p + rank (node_flags q) x) NONE
unfolding join_maps
second_node_map p q x = lookup_from (live_nodes p) (node_flags q) x

pub second_edge_map : (p q : Plain) (e : ℕ)
    → lookup (join_maps p q).second_edges e ≡ cond (get_or (edge_flags q) e false) (live_edges p + rank (edge_flags q) e) NONE
unfolding join_maps
second_edge_map p q e = lookup_from (live_edges p) (edge_flags q) e

-- ---- joined lists

-- joined lists, raised
pub joined_raised : (by : ℕ) (ls : List (List ℕ)) → raised by (joined ls) ≡ joined (map (raised by) ls)
unfolding joined
joined_raised by [] = refl
joined_raised by (l ∷ ls) = map-append (λ x. by + x) l (joined ls) ∙ ap (λ (k : List ℕ). raised by l ++ k) (joined_raised by ls)

-- ---- joining and survivors

module _ (s t : Survivors) (a : Sound s) (b : Sound t) (nodes : length s.nodes + length t.nodes ≤ LIMIT) (edges : length s.edges + length t.edges ≤ LIMIT) where
  -- the survivors of a join are the joined survivors
  pub survivors_joined : survivors (of_survivors (joined_survivors s t)) ≡ joined_survivors s t
  survivors_joined = survivors_of (joined_survivors s t) (joined_sound s t a b nodes edges)

-- raised twice is raised by both
raised_twice : (a b : ℕ) (xs : List ℕ) → raised a (raised b xs) ≡ raised (a + b) xs
raised_twice a b [] = refl
raised_twice a b (x ∷ xs) = ap₂ (λ (y : ℕ) (ys : List ℕ). y ∷ ys) (sym (add_assoc a b x)) (raised_twice a b xs)

raised_lists_twice : (a b : ℕ) (ls : List (List ℕ)) → map (raised a) (map (raised b) ls) ≡ map (raised (a + b)) ls
raised_lists_twice a b [] = refl
raised_lists_twice a b (l ∷ ls) = ap₂ (λ (k : List ℕ) (ks : List (List ℕ)). k ∷ ks) (raised_twice a b l) (raised_lists_twice a b ls)

raised_edges_twice : (a b : ℕ) (es : List EdgeRecord) → map (raised_edge a) (map (raised_edge b) es) ≡ map (raised_edge (a + b)) es
raised_edges_twice a b [] = refl
raised_edges_twice a b (e ∷ es) =
    ap₂ (λ (f : EdgeRecord) (fs : List EdgeRecord). f ∷ fs)
    (λ i. record { source = sym (add_assoc a b e.source) i; target = sym (add_assoc a b e.target) i; payload = e.payload }) (raised_edges_twice a b es)

-- lists of three books
lists_grouped : (m k j : ℕ) (a b c : List (List ℕ)) → j ≡ m + k
    → (a ++ map (raised m) b) ++ map (raised j) c ≡ a ++ map (raised m) (b ++ map (raised k) c)
lists_grouped m k j a b c is =
    append_assoc a (map (raised m) b) (map (raised j) c)
    ∙ ap (λ (l : List (List ℕ)). a ++ l)
    (ap (λ (l : List (List ℕ)). map (raised m) b ++ l) (ap (λ (z : ℕ). map (raised z) c) is ∙ sym (raised_lists_twice m k c)) ∙ sym (map-append (raised m) b (map (raised k) c)))

-- joining is associative on survivors
pub joined_associative : (s t u : Survivors) → joined_survivors (joined_survivors s t) u ≡ joined_survivors s (joined_survivors t u)
unfolding joined_survivors
joined_associative s t u =
    let n = length s.nodes in
    let m = length s.edges in
    let nodes : (s.nodes ++ t.nodes) ++ u.nodes ≡ s.nodes ++ (t.nodes ++ u.nodes) = append_assoc s.nodes t.nodes u.nodes in
    let both_nodes : length (s.nodes ++ t.nodes) ≡ n + length t.nodes = length-append s.nodes t.nodes in
    let both_edges : length (s.edges ++ map (raised_edge n) t.edges) ≡ m + length t.edges =
    length-append s.edges (map (raised_edge n) t.edges) ∙ ap (λ (k : ℕ). m + k) (length-map t.edges (raised_edge n)) in
    let edges : (s.edges ++ map (raised_edge n) t.edges) ++ map (raised_edge (length (s.nodes ++ t.nodes))) u.edges
    ≡ s.edges ++ map (raised_edge n) (t.edges ++ map (raised_edge (length t.nodes)) u.edges) =
    append_assoc s.edges (map (raised_edge n) t.edges) (map (raised_edge (length (s.nodes ++ t.nodes))) u.edges)
    ∙ ap (λ (l : List EdgeRecord). s.edges ++ l)
    (ap (λ (l : List EdgeRecord). map (raised_edge n) t.edges ++ l)
    (ap (λ (k : ℕ). map (raised_edge k) u.edges) both_nodes ∙ sym (raised_edges_twice n (length t.nodes) u.edges))
    ∙ sym (map-append (raised_edge n) t.edges (map (raised_edge (length t.nodes)) u.edges))) in
    let outs = lists_grouped m (length t.edges) _ s.outs t.outs u.outs both_edges in
    let ins = lists_grouped m (length t.edges) _ s.ins t.ins u.ins both_edges in
    λ i. record { nodes = nodes i; edges = edges i; outs = outs i; ins = ins i }

-- ---- an empty book

pub survivors_empty : survivors empty ≡ no_survivors
unfolding survivors live_from
survivors_empty = refl

pub raised_none : (xs : List ℕ) → raised 0 xs ≡ xs
raised_none [] = refl
raised_none (x ∷ xs) = ap₂ (λ (y : ℕ) (ys : List ℕ). y ∷ ys) (zero-add x) (raised_none xs)

raised_lists_none : (ls : List (List ℕ)) → map (raised 0) ls ≡ ls
raised_lists_none [] = refl
raised_lists_none (l ∷ ls) = ap₂ (λ (k : List ℕ) (ks : List (List ℕ)). k ∷ ks) (raised_none l) (raised_lists_none ls)

raised_edges_none : (es : List EdgeRecord) → map (raised_edge 0) es ≡ es
raised_edges_none [] = refl
raised_edges_none (e ∷ es) =
    ap₂ (λ (f : EdgeRecord) (fs : List EdgeRecord). f ∷ fs)
    (λ i. record { source = zero-add e.source i; target = zero-add e.target i; payload = e.payload }) (raised_edges_none es)

pub joined_with_none : (s : Survivors) → joined_survivors s no_survivors ≡ s
unfolding joined_survivors
joined_with_none s = λ i. record { nodes = append-nil s.nodes i; edges = append-nil s.edges i; outs = append-nil s.outs i; ins = append-nil s.ins i }

pub none_joined_with : (s : Survivors) → joined_survivors no_survivors s ≡ s
unfolding joined_survivors
none_joined_with s = λ i. record { nodes = s.nodes; edges = raised_edges_none s.edges i; outs = raised_lists_none s.outs i; ins = raised_lists_none s.ins i }

-- joining with a book without survivors, an empty one for instance, leaves what compaction leaves, whichever comes first
module _ (p q : Plain) (nothing : survivors q ≡ no_survivors) where
  pub joined_with_empty : joined_plain p q ≡ compacted p
  unfolding joined_plain compacted
  joined_with_empty = ap of_survivors (ap (joined_survivors (survivors p)) nothing ∙ joined_with_none (survivors p))

  pub empty_joined_with : joined_plain q p ≡ compacted p
  unfolding joined_plain compacted
  empty_joined_with = ap of_survivors (ap (λ (s : Survivors). joined_survivors s (survivors p)) nothing ∙ none_joined_with (survivors p))

  -- and the maps of the other book are those of its compaction
  pub first_maps_compacted : ((join_maps p q).first_nodes ≡ renumbering (node_flags p)) × ((join_maps p q).first_edges ≡ renumbering (edge_flags p))
  unfolding join_maps
  first_maps_compacted = (refl, refl)

  pub second_maps_compacted : ((join_maps q p).second_nodes ≡ renumbering (node_flags p)) × ((join_maps q p).second_edges ≡ renumbering (edge_flags p))
  unfolding join_maps
  second_maps_compacted = (
    ap (λ (n : ℕ). renumbering_from n (node_flags p)) (sym (length_surviving_nodes q) ∙ ap (λ (s : Survivors). length s.nodes) nothing),
    ap (λ (n : ℕ). renumbering_from n (edge_flags p)) (sym (length_surviving_edges q) ∙ ap (λ (s : Survivors). length s.edges) nothing),
  )
