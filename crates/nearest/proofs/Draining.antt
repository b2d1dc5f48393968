-- The search's outer loop: lots taken from the queue until the first lot has a word or the queue is done. And what its end means.
use Rattle.std.specs.Prelude.{ℕ, suc, ◌+◌, ◌*◌, ◌<◌, ◌≡◌, refl, true, List, [], ◌∷◌, length, get_or, drop}
use Rattle.plain.specs.Library.{sym, ap, ◌∙◌, subst, ⊎_elim, none, some, add-one, arith}
use lib.Seq.{get_or-take, get_or-drop}
use Rattle.plain.specs.declared.TraversalDirection.TheVariants.{Outgoing, Incoming}
use Rattle.plain.specs.Lists.{member}
use Rattle.plain.specs.Plain.{list_of}
use Rattle.shape.specs.Columns.{end_at}
use Rattle.shape.specs.Shape.{Words, node_capacity, lists}
use Rattle.nearest.specs.Chains.{Chain, nearest}
use Rattle.nearest.specs.Laws.Chains.{simple, simple_short}
use Rattle.nearest.specs.Search.{Distance}
use Rattle.nearest.specs.Frontier.{Frontier, frontier, dist_in, queue_in, expanded, Held, Standing}
use Rattle.nearest.specs.Stores.{network, LiveLot, Asked}
use Rattle.nearest.specs.Backwards.{ExpandLot, Drain, Draining, Drained}
use Rattle.nearest.specs.Forwards.{way_in}
use Rattle.nearest.proofs.SearchLaws.{head_seen}
use Rattle.nearest.proofs.FrontierLaws.{queue_long, dist_word, expanded_next}
use Rattle.nearest.proofs.Stores.{consistent, lot_below, lot_within, within, end_live, end_within}
use Rattle.nearest.proofs.Expanding.{length_expanded}
use Rattle.nearest.proofs.Downhill.{search_found, search_denied}

-- a distance in a store is below the number of its lots
pub distance_few : {w : Words} {first goal : ℕ} {work : List ℕ} → Asked w first goal work → (x d : ℕ) → x < node_capacity w
    → Distance (list_of Outgoing (lists w)) (end_at w.incoming) goal x d → d < node_capacity w
distance_few {w} {goal = goal} asked x d low far =
    let out = list_of Outgoing (lists w) in
    let once = simple out (end_at w.incoming) x goal far.way far.is_chain in
    let short = simple_short out (end_at w.incoming) (node_capacity w) x goal (within asked.checked) low once in
    let least = far.least once.edges once.is_chain in
    omega arith

module _ {w : Words} {first goal : ℕ} {work₀ : List ℕ} (d : Drain w first goal work₀) where
  pub draining_start : Draining w goal work₀ work₀ 0 1
  draining_start = record {
    head_within = omega arith;
    tail_within = d.start.within;
    long = d.start.long;
    same_length = refl;
    held = d.start;
  }

  module _ {work : List ℕ} {head tail : ℕ} (i : Draining w goal work₀ work head tail) (more : head < tail) where
    -- the lot at the head, as it is read
    abbrev z : ℕ
    z = get_or work (node_capacity w + head) 0

    head_read : get_or (queue_in (node_capacity w) tail work) head 0 ≡ z
    head_read = get_or-take tail (drop (node_capacity w) work) head 0 more ∙ get_or-drop (node_capacity w) work head 0

    z_queued : member z (queue_in (node_capacity w) tail work) ≡ true
    z_queued =
        subst (λ (v : ℕ). member v (queue_in (node_capacity w) tail work) ≡ true) head_read
        (head_seen (consistent d.asked.checked) i.held.search
        (let q = queue_long (consistent d.asked.checked) (node_capacity w) goal head i.held in omega arith))

    z_distance : (k : ℕ) × (get_or (dist_in (node_capacity w) work) z 0 ≡ suc k) × Distance (list_of Outgoing (lists w)) (end_at w.incoming) goal z k
    z_distance = i.held.search.seen z z_queued

    -- it is live: the goal, or the source of an edge
    z_live : LiveLot w z
    z_live = by_way z_distance.2.way z_distance.2.is_chain
      where
        by_way : (c : List ℕ) → Chain (list_of Outgoing (lists w)) (end_at w.incoming) z c goal → LiveLot w z
        by_way [] chain = subst (λ (v : ℕ). LiveLot w v) (sym chain) d.asked.goal_live
        by_way (e ∷ c) chain =
            subst (λ (v : ℕ). LiveLot w v) ((consistent d.asked.checked).out_source z e chain.0) (end_live d.asked.checked Outgoing Outgoing z e chain.0)

    z_low : z < node_capacity w
    z_low = lot_within d.asked.checked z z_live

    z_word : get_or work z 0 ≡ suc z_distance.0
    z_word = sym (dist_word (consistent d.asked.checked) (node_capacity w) goal head i.held z z_low) ∙ z_distance.1

    standing : Standing (node_capacity w) head z (get_or work z 0 + 1) (frontier tail work)
    standing = record {
      more = more;
      at = head_read;
      next = ap (λ (v : ℕ). v + 1) (sym (dist_word (consistent d.asked.checked) (node_capacity w) goal head i.held z z_low));
    }

    pub expand_lot : ExpandLot w z tail work
    expand_lot =
        let k = d.asked.checked in
        record {
          checked = k;
          lot_below = lot_below k z z_live;
          able = record {
            target = end_at w.incoming;
            out = list_of Outgoing (lists w);
            ins = list_of Incoming (lists w);
            consistent = consistent k;
            goal = goal;
            head = head;
            lot = z;
            rest = drop (2 * node_capacity w) work₀;
            past = [];
            held = i.held;
            standing = standing;
            listed = λ e m. m;
            low = end_within k Incoming Outgoing z;
          };
          lot_low = let low = z_low in let l = i.long in omega arith;
          word_low = let v = z_word in let near = distance_few d.asked z z_distance.0 z_low z_distance.2 in let f = d.few in omega arith;
        }

    module _ {tail' : ℕ} {work' : List ℕ}
        (is : frontier tail' work' ≡ expanded (node_capacity w) (end_at w.outgoing) (get_or work z 0 + 1)
        (list_of Incoming (lists w) z) (frontier tail work)) where
      next_held : Held (network w) (node_capacity w) goal (head + 1) (drop (2 * node_capacity w) work₀) [] (frontier tail' work')
      next_held =
          let k = d.asked.checked in
          subst (λ (h : ℕ). Held (network w) (node_capacity w) goal h (drop (2 * node_capacity w) work₀) [] (frontier tail' work')) (sym (add-one head))
          (subst (λ (f : Frontier). Held (network w) (node_capacity w) goal (suc head) (drop (2 * node_capacity w) work₀) [] f)
          (sym is)
          (expanded_next (consistent k) (node_capacity w) goal head i.held standing (end_within k Incoming Outgoing z)))

      pub draining_on : Draining w goal work₀ work' (head + 1) tail'
      draining_on = record {
        head_within = let h = next_held.search.head_within in
            let q = queue_long (consistent d.asked.checked) (node_capacity w) goal (head + 1) next_held in omega arith;
        tail_within = next_held.within;
        long = next_held.long;
        same_length = ap (λ (f : Frontier). length f.work) is
            ∙ length_expanded (node_capacity w) (get_or work z 0 + 1) (end_at w.outgoing)
            (list_of Incoming (lists w) z) (frontier tail work) ∙ i.same_length;
        held = next_held;
      }

-- ---- what it means

module _ {w : Words} {first goal : ℕ} {work₀ work : List ℕ} (asked : Asked w first goal work₀) (done : Drained w first goal work₀ work) where
  pub first_word : get_or (dist_in (node_capacity w) work) first 0 ≡ get_or work first 0
  first_word =
      dist_word (consistent asked.checked) (node_capacity w) goal done.head done.kept.held first (lot_within asked.checked first asked.first_live)

  -- the first lot has a word: the nearest chain is the way forward, by the words
  pub drained_found : (k : ℕ) → get_or work first 0 ≡ suc k
      → nearest (list_of Outgoing (lists w)) (end_at w.incoming) (node_capacity w) first goal ≡ some (way_in w work k first)
  drained_found k v =
      search_found (consistent asked.checked) done.kept.held.search (node_capacity w) first k (within asked.checked)
      (lot_within asked.checked first asked.first_live) (first_word ∙ v)

  -- it has none: there is no chain
  pub drained_denied : get_or work first 0 ≡ 0 → nearest (list_of Outgoing (lists w)) (end_at w.incoming) (node_capacity w) first goal ≡ none
  drained_denied v =
      let q = queue_long (consistent asked.checked) (node_capacity w) goal done.head done.kept.held in
      search_denied (consistent asked.checked) done.kept.held.search (node_capacity w) first
      (⊎_elim (λ some. absurd (some v)) (λ over. omega arith) done.over) (first_word ∙ v)
