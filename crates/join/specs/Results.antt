-- What follows from the record of a join of two checked books that is done: its survivors are the joined survivors, so its image is a function of the survivors of the two
-- books; its lists are the renumbered lists of both; joining is associative on survivors; and with an empty book it is compaction's result.
use Rattle.std.specs.Prelude.{ℕ, ◌+◌, ◌≤◌, ◌≡◌, refl, Bool, true, false, cond, List, map, length, get_or}
use Rattle.plain.specs.Library.{sym, ap, ap₂, ◌∙◌, arith, eq-eqb}
use Rattle.plain.specs.declared.Answer.{Answer}
use Rattle.plain.specs.declared.TraversalDirection.{TraversalDirection}
use Rattle.plain.specs.declared.TraversalDirection.TheVariants.{Outgoing}
use Rattle.plain.specs.Compaction.{Survivors, rank, survivors, renumbering}
use Rattle.plain.specs.Image.{image}
use Rattle.plain.specs.Joining.{sizes, MapRooms, Maps, joined_survivors, joined_plain, join_maps, no_maps, join_answer, join}
use Rattle.plain.specs.Lists.{written}
use Rattle.plain.specs.Numbers.{LIMIT}
use Rattle.plain.specs.Plain.{Plain, node_flags, edge_flags, list_of}
use Rattle.plain.specs.Reads.{live_nodes, live_edges}
use Rattle.plain.specs.Step.{State}
use Rattle.plain.proofs.Laws.Compacting.{length_surviving_nodes, length_surviving_edges}
use Rattle.plain.specs.Laws.Joining.{no_survivors}
use Rattle.plain.proofs.Laws.Joining.{survivors_joined, first_book, second_book, joined_associative, joined_with_none, none_joined_with, first_maps_compacted, second_maps_compacted}
use Rattle.shape.specs.Checked.{Checked}
use Rattle.shape.specs.Rules.{broken}
use Rattle.shape.specs.Shape.{Words, capacities, shape_of, lists, lengths_of}
use Rattle.compact.specs.Calls.{CompactOf}
use Rattle.compact.specs.Survivors.{shape_of_survivors}
use Rattle.survivors.proofs.Laws.Left.{left_sound}
use Rattle.join.specs.Calls.{LentMaps, joining_of, JoinOf}
use Rattle.join_columns.specs.Laws.Answers.{Accepted, accepted, join_done}

-- the survivors of a store
abbrev left_of : Words → Survivors
left_of w = survivors (lists w)

module _ {first second w : Words} {maps : LentMaps} {value : ℕ} {v : Words} {maps' : LentMaps} (a : Checked first) (b : Checked second)
    (r : JoinOf first second w maps 0 value v maps') where
  -- none of the refusals holds
  rooms : MapRooms
  rooms = record {
    first_nodes = length maps.first_nodes;
    first_edges = length maps.first_edges;
    second_nodes = length maps.second_nodes;
    second_edges = length maps.second_edges;
  }

  taken : Accepted (lengths_of w) (sizes (lists first)) (sizes (lists second)) rooms
  unfolding join rooms
  taken =
      accepted (lengths_of w) (sizes (lists first)) (sizes (lists second)) rooms
      (join_done (broken first) (broken second) (join_answer (lengths_of w) (sizes (lists first)) (sizes (lists second)) rooms)
      (sym (ap (λ (t : Answer). t.number) r.answered)))

  few_nodes : length (left_of first).nodes + length (left_of second).nodes ≤ LIMIT
  few_nodes = omega (arith, length_surviving_nodes (lists first), length_surviving_nodes (lists second), taken.nodes_fit, taken.takes.nodes)

  few_edges : length (left_of first).edges + length (left_of second).edges ≤ LIMIT
  few_edges = omega (arith, length_surviving_edges (lists first), length_surviving_edges (lists second), taken.edges_fit, taken.takes.edges)

  -- "The plain lists of the result are the renumbered lists of both."
  lists_are : lists v ≡ joined_plain (lists first) (lists second)
  lists_are = ap (λ (s : State). s.lists) (r.state refl)

  pub first_lists : (d : TraversalDirection) (x : ℕ) → get_or (node_flags (lists first)) x false ≡ true
      → list_of d (lists v) (rank (node_flags (lists first)) x) ≡ map (rank (edge_flags (lists first))) (list_of d (lists first) x)
  first_lists d x live =
      ap (λ (p : Plain). list_of d p (rank (node_flags (lists first)) x)) lists_are
      ∙ first_book (capacities first) (capacities second) (lists first) (lists second) a.walks b.walks
      ((a.axis Outgoing).sized.nodes_within, (a.axis Outgoing).sized.edges_within) ((b.axis Outgoing).sized.nodes_within, (b.axis Outgoing).sized.edges_within) d x live

  pub second_lists : (d : TraversalDirection) (x : ℕ) → get_or (node_flags (lists second)) x false ≡ true
      → list_of d (lists v) (live_nodes (lists first) + rank (node_flags (lists second)) x)
      ≡ map (λ e. live_edges (lists first) + rank (edge_flags (lists second)) e) (list_of d (lists second) x)
  second_lists d x live =
      ap (λ (p : Plain). list_of d p (live_nodes (lists first) + rank (node_flags (lists second)) x)) lists_are
      ∙ second_book (capacities first) (capacities second) (lists first) (lists second) a.walks b.walks
      ((a.axis Outgoing).sized.nodes_within, (a.axis Outgoing).sized.edges_within) ((b.axis Outgoing).sized.nodes_within, (b.axis Outgoing).sized.edges_within) d x live

  -- the survivors of a join are the joined survivors
  pub join_survivors : survivors (lists v) ≡ joined_survivors (left_of first) (left_of second)
  unfolding joined_plain
  join_survivors = ap survivors lists_are ∙ survivors_joined (left_of first) (left_of second) (left_sound a) (left_sound b) few_nodes few_edges

  -- so its image is a function of the survivors of the two books
  pub join_image : image (survivors (lists v)) ≡ image (joined_survivors (left_of first) (left_of second))
  join_image = ap image join_survivors

  -- the maps that were written
  maps_are : (joining_of first second w maps).maps ≡ join_maps (lists first) (lists second)
  unfolding join
  maps_are =
      ap (λ (t : Bool). cond t (join_maps (lists first) (lists second)) no_maps)
      (eq-eqb (joining_of first second w maps).answer.number 0 (sym (ap (λ (t : Answer). t.number) r.answered)))

  -- ---- an empty book

  -- with a second book that has no survivor, an empty one for instance, the result is compaction's of the first, and so are the maps
  module _ (nothing : left_of second ≡ no_survivors) where
    pub join_with_empty : {node_map edge_map work : List ℕ} {value' : ℕ} {u : Words} {node-map' edge-map' work' : List ℕ}
        → CompactOf first node_map edge_map work 0 value' u node-map' edge-map' work' → shape_of v ≡ shape_of u
    join_with_empty c =
        r.shape refl ∙ ap shape_of_survivors (ap (joined_survivors (left_of first)) nothing ∙ joined_with_none (left_of first)) ∙ sym (c.shape refl)

    pub maps_with_empty : (maps'.first_nodes ≡ written (renumbering (node_flags (lists first))) maps.first_nodes)
        × (maps'.first_edges ≡ written (renumbering (edge_flags (lists first))) maps.first_edges)
    maps_with_empty =
        let same = first_maps_compacted (lists first) (lists second) nothing in (
          r.first_nodes_mapped ∙ ap (λ (m : Maps). written m.first_nodes maps.first_nodes) maps_are
              ∙ ap (λ (l : List ℕ). written l maps.first_nodes) same.0,
          r.first_edges_mapped ∙ ap (λ (m : Maps). written m.first_edges maps.first_edges) maps_are
              ∙ ap (λ (l : List ℕ). written l maps.first_edges) same.1,
        )

  -- and with such a first book it is compaction's of the second
  module _ (nothing : left_of first ≡ no_survivors) where
    pub empty_join_with : {node_map edge_map work : List ℕ} {value' : ℕ} {u : Words} {node-map' edge-map' work' : List ℕ}
        → CompactOf second node_map edge_map work 0 value' u node-map' edge-map' work' → shape_of v ≡ shape_of u
    empty_join_with c =
        r.shape refl ∙ ap shape_of_survivors (ap (λ (s : Survivors). joined_survivors s (left_of second)) nothing ∙ none_joined_with (left_of second)) ∙ sym (c.shape refl)

    pub empty_maps_with : (maps'.second_nodes ≡ written (renumbering (node_flags (lists second))) maps.second_nodes)
        × (maps'.second_edges ≡ written (renumbering (edge_flags (lists second))) maps.second_edges)
    empty_maps_with =
        let same = second_maps_compacted (lists second) (lists first) nothing in (
          r.second_nodes_mapped ∙ ap (λ (m : Maps). written m.second_nodes maps.second_nodes) maps_are
              ∙ ap (λ (l : List ℕ). written l maps.second_nodes) same.0,
          r.second_edges_mapped ∙ ap (λ (m : Maps). written m.second_edges maps.second_edges) maps_are
              ∙ ap (λ (l : List ℕ). written l maps.second_edges) same.1,
        )

-- ---- two joins

-- books with the same survivors have joins with the same image, whatever their slots, links and memories are
pub joins_alike : {first second w v first' second' w' v' : Words} {maps maps' lent lent' : LentMaps} {value value' : ℕ} → Checked first → Checked second → Checked first'
    → Checked second' → JoinOf first second w maps 0 value v maps' → JoinOf first' second' w' lent 0 value' v' lent' → left_of first ≡ left_of first'
    → left_of second ≡ left_of second' → (shape_of v ≡ shape_of v') × (image (survivors (lists v)) ≡ image (survivors (lists v')))
joins_alike a b c d r s one two =
    let same = ap₂ joined_survivors one two in
    (r.shape refl ∙ ap shape_of_survivors same ∙ sym (s.shape refl), join_image a b r ∙ ap image same ∙ sym (join_image c d s))

-- joining is associative: the first two books and then the third, or the first and the last two joined
module _ {one two three : Words} (a : Checked one) (b : Checked two) (c : Checked three)
    {w-front w-left w-back w-right front left back right : Words} {m-front n-front m-left n-left m-back n-back m-right n-right : LentMaps}
    {x-front x-left x-back x-right : ℕ} (to_front : JoinOf one two w-front m-front 0 x-front front n-front) (to-left : JoinOf front three w-left m-left 0 x-left left n-left)
    (to_back : JoinOf two three w-back m-back 0 x-back back n-back) (to-right : JoinOf one back w-right m-right 0 x-right right n-right) where
  regrouped : joined_survivors (left_of front) (left_of three) ≡ joined_survivors (left_of one) (left_of back)
  regrouped =
      ap (λ (s : Survivors). joined_survivors s (left_of three)) (join_survivors a b to_front)
      ∙ joined_associative (left_of one) (left_of two) (left_of three)
      ∙ ap (joined_survivors (left_of one)) (sym (join_survivors b c to_back))

  pub join_associative : (shape_of left ≡ shape_of right) × (survivors (lists left) ≡ survivors (lists right))
  join_associative = (
    to-left.shape refl ∙ ap shape_of_survivors regrouped ∙ sym (to-right.shape refl),
    join_survivors (to_front.checked refl) c to-left ∙ regrouped ∙ sym (join_survivors a (to_back.checked refl) to-right),
  )
