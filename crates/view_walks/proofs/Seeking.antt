-- Finding an edge from one node to another: the first wanted entry of the words' walk is the one that the plain lists give.
use Rattle.std.specs.Prelude.{ℕ, ◌≤◌, ◌<◌, ◌≡◌, refl, Bool, false, get_or, eqb, Option, unwrap_or, Ok, Err}
use Rattle.plain.specs.Library.{sym, ap, ◌∙◌}
use Rattle.plain.specs.declared.TraversalDirection.TheVariants.{Outgoing, Incoming}
use Rattle.plain.specs.declared.refusals.Refusal.{Refusal}
use Rattle.plain.specs.Answers.{found_of}
use Rattle.plain.specs.Numbers.{NONE}
use Rattle.plain.specs.Lists.{keep}
use Rattle.plain.specs.Plain.{list_of, end_of}
use Rattle.plain.specs.Reads.{answered, first_or_none, found, find}
use Rattle.plain.proofs.Laws.CallCases.{find_first_absent, find_second_absent, find_there}
use Rattle.shape.specs.Shape.{Words, node_capacity, edge_capacity, node_live, lists}
use Rattle.shape.specs.Checked.{Checked}
use Rattle.shape.proofs.Laws.Reading.{plain_end}
use Rattle.shape.proofs.Laws.Taking.{keep_agree}
use Rattle.shape.proofs.Laws.Slots.{nodes_told, node_bound_of, absent_slot}
use Rattle.cursor.specs.Finding.{first_of, ends_at, Among}
use Rattle.adjacency.specs.Walk.{walk_in}
use Rattle.adjacency.specs.Laws.Walk.{walk_below}
use Rattle.adjacency.specs.Laws.StoreWalks.{checked_walkable, list_is_walk}
use Rattle.view.specs.Calls.{Answered}
use Rattle.view.specs.Laws.Calls.{answer_refuses, answer_done}
use Rattle.view_walks.specs.Walks.{Placed, no_store, past, there}
use Rattle.view_walks.proofs.Walking.{no_zero}

module _ {w : Words} (a b : ℕ) where
  pub find_refused : {r : Refusal} → Placed w a (Err r) → Answered w (λ w. find (lists w) a b) (found_of (Err r))
  find_refused (no_store {rule} j) = answer_refuses j (no_zero rule) refl
  find_refused (past j h) = answer_done j refl (sym (find_first_absent (lists w) a b (absent_slot (nodes_told w) a h)))

  -- the second is at or above the bound
  pub second_past : {done : Unit} → Placed w a (Ok done) → w.counts.nodes.bound ≤ b → Answered w (λ w. find (lists w) a b) (record { number = 5; value = NONE })
  second_past (there j below) h = answer_done j refl (sym (find_second_absent (lists w) a b (rw (node_bound_of w) below) (absent_slot (nodes_told w) b h)))

  -- the first wanted entry of the words is that of the lists
  first_is_found : Checked w → a < w.counts.nodes.bound → {live : Bool} → live ≡ get_or (node_live w) a false
      → first_of (ends_at w.incoming b) (walk_in w.outgoing (edge_capacity w) (node_capacity w) w.counts w.live_edges a live) ≡ found (lists w) a b
  unfolding first_of
  first_is_found k below {live} is =
      let walk = walk_in w.outgoing (edge_capacity w) (node_capacity w) w.counts w.live_edges a live in
      let list : list_of Outgoing (lists w) a ≡ walk = rw is (list_is_walk w Outgoing a below) in
      let same = keep_agree (ends_at w.incoming b) (λ e. eqb (end_of Incoming (lists w) e) b) walk
      (λ e m. ap (λ (x : ℕ). eqb x b) (sym (plain_end w Incoming e (walk_below (checked_walkable k Outgoing a below) live e m)))) in
      ap first_or_none (same ∙ ap (keep (λ e. eqb (end_of Incoming (lists w) e) b)) (sym list))

  -- both are below it
  pub find_done : {done : Unit} → Placed w a (Ok done) → b < w.counts.nodes.bound → {live : Bool} → live ≡ get_or (node_live w) a false → (edge : Option ℕ)
      → unwrap_or edge NONE ≡ first_of (ends_at w.incoming b) (walk_in w.outgoing (edge_capacity w) (node_capacity w) w.counts w.live_edges a live)
      → Answered w (λ w. find (lists w) a b) (found_of (Ok edge))
  find_done (there j below) second is edge is_first =
      answer_done j refl
      (ap answered (is_first ∙ first_is_found (j.checked refl) below is)
      ∙ sym (find_there (lists w) a b (rw (node_bound_of w) below) (rw (node_bound_of w) second)))

  -- what is found in the words' walk is one of the list
  pub found_among : {done : Unit} → Placed w a (Ok done) → {live : Bool} → live ≡ get_or (node_live w) a false → (edge : Option ℕ)
      → Among edge (walk_in w.outgoing (edge_capacity w) (node_capacity w) w.counts w.live_edges a live) → Among edge (list_of Outgoing (lists w) a)
  found_among (there j below) is edge m = rw (list_is_walk w Outgoing a below) (rw is at m)
