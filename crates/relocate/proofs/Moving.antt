-- What moving the edges of a node does, step by step: both runs are prepared, their ends are stored, and their run is handed over.
use Rattle.std.specs.Prelude.{ℕ, ◌+◌, ◌-◌, ◌*◌, ◌≤◌, ◌<◌, ◌≡◌, refl, Bool, true, ◌≢◌, List, [], ◌∷◌, ◌++◌, length, get_or, set, eqb}
use Rattle.plain.specs.Library.{sym, ap, ap₂, ◌∙◌, subst, ⊎_elim, append-nil, length-set, get_or-set_same, get_or-set_other, append_snoc, arith, eqb-true, eqb-false}
use Rattle.plain.specs.declared.Counts.{Counts}
use Rattle.plain.specs.Lists.{set_all}
use Rattle.plain.proofs.Laws.Booleans.{by_test}
use Rattle.plain.proofs.Laws.ListLaws.{member_first}
use Rattle.shape.specs.Columns.{cell, end_at, link_at, first_at, count_at}
use Rattle.shape.specs.Chains.{In, chain}
use Rattle.shape.specs.Shape.{adjacency_in, Adjacency, Axis, raw, live_in, run_list, ring_of, axis_of, no_adjacency}
use Rattle.shape.specs.Steps.{taken, swept, with_run, moved_axis}
use Rattle.shape.proofs.Laws.Chains.{in_front, in_none, in_last, in_snoc, chain_none, chain_some, run_is}
use Rattle.shape.specs.Kept.{axis_kept_again}
use Rattle.shape.proofs.Laws.Frames.{run_list_below}
use Rattle.shape.proofs.Laws.Taking.{live_taken, swept_live}
use Rattle.shape.proofs.Laws.Keeping.{in_either, in_edited, in_second}
use Rattle.shape.proofs.Laws.Reading.{axis_adjacency}
use Rattle.runs.specs.Runs.{Editable, Cuttable}
use Rattle.runs.specs.Laws.Editing.{list_of_run, mark_of_run}
use Rattle.runs.specs.Overlay.{flags_of, Remade, Preparable, Prepared}
use Rattle.runs.specs.Laws.Remaking.{remade_run}
use Rattle.relocate.specs.Redirects.{Linked, Relabelled, Relocated}
use Rattle.relocate.proofs.Relinking.{placed_ready, remade_linked, remade_axis, remade_placed, relocated_axis, relocated_checked, relabelled_node, relabelled_linked, relabelled_kept}
use Rattle.relocate.specs.Moves.{RunRelabelled, HandableOver, HandedOver, Movable, Met, Moved}
use Rattle.runs.specs.Laws.Pushing.{run_before}

-- ---- relabelling

-- `done` of the run has the new end; `left` entries from p on are to come
pub record Relabelling (ws vs : List ℕ) (ce cn node new left p : ℕ) : Type 0 where
  pub done : List ℕ
  pub whole : run_list ws ce cn node ≡ done ++ chain (cell ws (3 * ce)) left p
  pub now : Relabelled ws vs done new

module _ {ws : List ℕ} {ce cn : ℕ} {counts : Counts} {node : ℕ} (pre : Cuttable ws ce cn counts node) (new : ℕ) where
  abbrev run : List ℕ
  run = run_list ws ce cn node

  -- entries are edges
  small : (e : ℕ) → In e run → e < ce
  small e m = let low = run_list_below pre.editable.runs node e pre.editable.node_below m in omega (arith, pre.editable.edges_within)

  pub relabel_start : Relabelling ws ws ce cn node new (count_at ws ce cn node) (first_at ws ce cn node)
  relabel_start =
      record {
        done = [];
        whole = sym (run_is (run_before pre.editable pre.marked));
        now = record { ends = λ e m. in_none e m; kept = λ i out. refl; long = refl };
      }

  module _ {vs : List ℕ} {left p : ℕ} (some_left : 0 < left) (s : Relabelling ws vs ce cn node new left p) where
    abbrev rest : List ℕ
    rest = chain (cell ws (3 * ce)) (left - 1) (link_at ws ce p)

    -- the run, split before p
    split : run ≡ s.done ++ (p ∷ rest)
    split = s.whole ∙ ap (λ (l : List ℕ). s.done ++ l) (chain_some (cell ws (3 * ce)) left p some_left)

    pub relabel_below : p < ce
    relabel_below = small p (rw split (in_second p s.done (p ∷ rest) (member_first p rest)))

    -- the link of p is as it was
    relabel_link : get_or vs (3 * ce + p) 0 ≡ link_at ws ce p
    relabel_link =
        let low = relabel_below in
        s.now.kept (3 * ce + p) (λ m. let bad = small (3 * ce + p) (rw split (in_front (3 * ce + p) s.done (p ∷ rest) m)) in omega arith)

    -- the end of p is stored
    pub relabel_more : Relabelling ws (set vs p new) ce cn node new (left - 1) (get_or vs (3 * ce + p) 0)
    relabel_more =
        rw relabel_link
        (record {
          done = s.done ++ (p ∷ []);
          whole = split ∙ sym (append_snoc s.done p rest);
          now =
              record {
                ends = λ e m. by_test (eqb e p) (λ t. rw (eqb-true e p t) (get_or-set_same vs p new 0 room))
                    (λ t. get_or-set_other vs p e new 0 (eqb-false e p t) ∙ s.now.ends e (earlier e (eqb-false e p t) m));
                kept = λ i out. get_or-set_other vs p i new 0 (λ q. out (rw q (in_last p s.done))) ∙ s.now.kept i (λ m. out (in_front i s.done (p ∷ []) m));
                long = length-set vs p new ∙ s.now.long;
              };
        })
      where
        room : p < length vs
        room = omega (arith, relabel_below, s.now.long, pre.editable.sized.room)

        earlier : (e : ℕ) → e ≢ p → In e (s.done ++ (p ∷ [])) → In e s.done
        earlier e ne m = ⊎_elim (λ k. k) (λ q. absurd (ne q)) (in_snoc e s.done p m)

  pub relabel_end : {vs : List ℕ} {left p : ℕ} → left ≤ 0 → Relabelling ws vs ce cn node new left p
      → RunRelabelled ws vs ce cn node new (count_at ws ce cn node)
  relabel_end {vs} {left} {p} h s =
      let none : left ≡ 0 = omega arith in
      let all : run ≡ s.done = s.whole ∙ ap (λ (l : List ℕ). s.done ++ l) (chain_none (cell ws (3 * ce)) left p none) ∙ append-nil s.done in
      record { relabelled = rw all s.now; counted = (run_before pre.editable pre.marked).counted }

-- ---- moving

-- a moved axis by the two nodes that it reads
moved_is : (flags : List Bool) (old new : ℕ) (axis : Axis) (a b : Adjacency) → get_or axis.nodes old no_adjacency ≡ a → get_or axis.nodes new no_adjacency ≡ b
    → moved_axis flags old new axis ≡ record {
      ends = set_all (swept flags (taken flags a)) new axis.ends;
      nodes = set (set axis.nodes old (with_run [] a)) new (with_run (swept flags (taken flags b) ++ swept flags (taken flags a)) b);
    }
unfolding moved_axis
moved_is flags old new axis a b p q = rw (p, q)

module _ {ws : List ℕ} {ce cn : ℕ} {counts : Counts} {live : List ℕ} {tombstoned : Bool} {old new : ℕ} (pre : Movable ws ce cn counts live tombstoned old new) where
  abbrev flags : List Bool
  flags = flags_of live counts

  -- the edges that move
  abbrev moving : List ℕ
  moving = swept flags (taken flags (adjacency_in ws ce cn counts old))

  -- a gathered edge is live and ended at the node
  alive : (e : ℕ) → In e moving → live_in flags e ≡ true
  alive = swept_live flags (taken flags (adjacency_in ws ce cn counts old))

  ended : (e : ℕ) → In e moving → end_at ws e ≡ old
  ended e m =
      pre.old_placed.own e (alive e m) (in_edited flags (adjacency_in ws ce cn counts old) e m)

  -- then the other can be
  pub move_prepare_new : {us : List ℕ} → Prepared ws us ce cn counts live old → Preparable us ce cn counts live tombstoned new
  move_prepare_new got =
      record {
        ready =
            placed_ready (remade_axis pre.axis got (λ e _ m. ended e m)) (remade_placed pre.axis got new (λ q. pre.apart (sym q)) pre.new_placed);
        all_live = pre.all_live;
      }

  module _ {us : List ℕ} (met : Met ws us ce cn counts live old new) where
    -- the axis between
    linked : Linked us ce cn counts
    linked = remade_linked (remade_linked pre.axis.linked met.gathered) met.prepared

    -- both nodes now
    old_now : adjacency_in us ce cn counts old ≡ with_run moving (adjacency_in ws ce cn counts old)
    old_now = met.prepared.others old pre.old_placed.below pre.apart ∙ met.gathered.here

    new_now : adjacency_in us ce cn counts new ≡ with_run (swept flags (taken flags (adjacency_in ws ce cn counts new))) (adjacency_in ws ce cn counts new)
    new_now =
        met.prepared.here
        ∙ ap (λ (a : Adjacency). with_run (swept flags (taken flags a)) a) (met.gathered.others new pre.new_placed.below (λ q. pre.apart (sym q)))

    editable : {vs : List ℕ} (x : ℕ) → x < counts.nodes.bound → Linked vs ce cn counts → Editable vs ce cn counts x
    editable x h l = record { sized = l.sized; runs = l.runs; node_below = h; nodes_within = l.nodes_within; edges_within = l.edges_within }

    -- the ends of the gathered edges can be stored
    pub move_relabel : Cuttable us ce cn counts old
    move_relabel =
        record {
          editable = editable old pre.old_placed.below linked;
          marked = mark_of_run us ce cn old (ap (λ (a : Adjacency). a.run) old_now);
        }

    gathered_list : run_list us ce cn old ≡ moving
    gathered_list = list_of_run us ce cn old (ap (λ (a : Adjacency). a.run) old_now)

    module _ {vs : List ℕ} {r : ℕ} (named : RunRelabelled us vs ce cn old new r) where
      -- they are edges, and in no ring
      edges : (e : ℕ) → In e (run_list us ce cn old) → e < counts.edges.bound
      edges e m = run_list_below linked.runs old e pre.old_placed.below m

      unringed : (x e : ℕ) → x < counts.nodes.bound → In e (run_list us ce cn old) → In e (ring_of us ce counts.edges.base counts.edges.bound x) → ⊥
      unringed x e h m k =
          by_test (eqb x new) (λ t. in_none e (moved_to (ap (adjacency_in us ce cn counts) (eqb-true x new t) ∙ new_now)))
          (λ t. by_test (eqb x old) (λ u. in_none e (moved_to (ap (adjacency_in us ce cn counts) (eqb-true x old u) ∙ old_now)))
          (λ u. let ne = eqb-false x old u in
          ne (sym (pre.axis.linked.rings.own x e h (moved_to (met.prepared.others x h (eqb-false x new t) ∙ met.gathered.others x h ne)))
          ∙ ended e (rw gathered_list at m))))
        where
          moved_to : {a : Adjacency} → adjacency_in us ce cn counts x ≡ a → In e a.ring
          moved_to q = subst (λ (b : Adjacency). In e b.ring) q k

      named_linked : Linked vs ce cn counts
      named_linked = relabelled_linked linked edges named.relabelled unringed

      node_named : (x : ℕ) → adjacency_in vs ce cn counts x ≡ adjacency_in us ce cn counts x
      node_named = relabelled_node linked edges named.relabelled

      old_named : adjacency_in vs ce cn counts old ≡ with_run moving (adjacency_in ws ce cn counts old)
      old_named = node_named old ∙ old_now

      new_named : adjacency_in vs ce cn counts new ≡ with_run (swept flags (taken flags (adjacency_in ws ce cn counts new))) (adjacency_in ws ce cn counts new)
      new_named = node_named new ∙ new_now

      -- the run can be handed over
      pub move_hand : HandableOver vs ce cn counts old new
      move_hand =
          record {
            editable = editable old pre.old_placed.below named_linked;
            new_below = pre.new_placed.below;
            apart = pre.apart;
            old_marked = mark_of_run vs ce cn old (ap (λ (a : Adjacency). a.run) old_named);
            new_marked = mark_of_run vs ce cn new (ap (λ (a : Adjacency). a.run) new_named);
          }

      module _ {zs : List ℕ} (handed : HandedOver vs zs ce cn counts old new) where
        -- both steps, of nodes with an empty ring
        emptied : Remade vs handed.between ce cn counts old []
        emptied =
            let l = named_linked in
            remade_run l.nodes_based l.edges_based l.index l.rings (ap (λ (a : Adjacency). a.ring) old_named) (λ e m. in_none e m)
            handed.emptied

        -- the other run, and its node between the steps
        abbrev swept_run : List ℕ
        swept_run = swept flags (taken flags (adjacency_in ws ce cn counts new))

        new_between : adjacency_in handed.between ce cn counts new ≡ with_run swept_run (adjacency_in ws ce cn counts new)
        new_between = emptied.others new pre.new_placed.below (λ q. pre.apart (sym q)) ∙ new_named

        joined : Remade handed.between zs ce cn counts new (run_list vs ce cn new ++ run_list vs ce cn old)
        joined =
            let l = remade_linked named_linked emptied in
            remade_run l.nodes_based l.edges_based l.index l.rings
            (ap (λ (a : Adjacency). a.ring) new_between)
            (λ e m. subst (λ (a : Adjacency). In e (raw a)) (sym new_between) (in_front e swept_run [] (rw (list_of_run vs ce cn new (ap (λ (a : Adjacency). a.run) new_named)) at m)))
            handed.joined

        -- what the second run has now
        lists : run_list vs ce cn new ++ run_list vs ce cn old ≡ swept flags (taken flags (adjacency_in ws ce cn counts new)) ++ moving
        lists =
            ap₂ (λ (a b : List ℕ). a ++ b) (list_of_run vs ce cn new (ap (λ (a : Adjacency). a.run) new_named))
            (list_of_run vs ce cn old (ap (λ (a : Adjacency). a.run) old_named))

        relocated : Relocated ws zs ce cn counts old new [] (swept flags (taken flags (adjacency_in ws ce cn counts new)) ++ moving) moving
        relocated =
            record {
              first =
                  joined.others old pre.old_placed.below pre.apart ∙ emptied.here ∙ ap (λ (a : Adjacency). with_run [] a) old_named;
              second =
                  joined.here
                  ∙ ap₂ (λ (l : List ℕ) (a : Adjacency). with_run l a) lists
                  (emptied.others new pre.new_placed.below (λ q. pre.apart (sym q)) ∙ new_named);
              others = λ x h no nn.
                  joined.others x h nn ∙ emptied.others x h no ∙ node_named x ∙ met.prepared.others x h nn ∙ met.gathered.others x h no;
              ends = λ e m.
                  let low = edges e (rw gathered_list m) in
                  joined.below e (omega (arith, pre.axis.linked.edges_within)) ∙ emptied.below e (omega (arith, pre.axis.linked.edges_within))
                  ∙ named.relabelled.ends e (rw gathered_list m);
              kept = λ e h out.
                  joined.below e (omega (arith, pre.axis.linked.edges_within)) ∙ emptied.below e (omega (arith, pre.axis.linked.edges_within))
                  ∙ named.relabelled.kept e (λ m. out (rw gathered_list at m)) ∙ met.prepared.below e (omega (arith, pre.axis.linked.edges_within))
                  ∙ met.gathered.below e (omega (arith, pre.axis.linked.edges_within));
              linked = remade_linked (remade_linked named_linked emptied) joined;
              frame =
                  axis_kept_again met.gathered.frame
                  (axis_kept_again met.prepared.frame
                  (axis_kept_again (relabelled_kept linked edges named.relabelled) (axis_kept_again emptied.frame joined.frame)));
              writes = λ i out lo ln o n.
                  joined.writes i (λ q. ln (q.0, q.1, joined_in q.0 q.2)) n ∙ emptied.writes i (λ q. lo (q.0, q.1, emptied_in q.0 q.2)) o
                  ∙ named.relabelled.kept i (λ m. out (rw gathered_list at m))
                  ∙ met.prepared.writes i (λ q. ln (q.0, q.1, prepared_in q.0 q.2)) n ∙ met.gathered.writes i lo o;
            }
          where
            -- what the nodes have at each step they had at entry
            joined_in : (e : ℕ) → In e (raw (adjacency_in handed.between ce cn counts new)) → In e (raw (adjacency_in ws ce cn counts new))
            joined_in e m =
                in_edited flags (adjacency_in ws ce cn counts new) e
                (in_either e swept_run [] (subst (λ (a : Adjacency). In e (raw a)) new_between m) (λ k. k) (in_none e))

            emptied_in : (e : ℕ) → In e (raw (adjacency_in vs ce cn counts old)) → In e (raw (adjacency_in ws ce cn counts old))
            emptied_in e m =
                in_edited flags (adjacency_in ws ce cn counts old) e
                (in_either e moving [] (subst (λ (a : Adjacency). In e (raw a)) old_named m) (λ k. k) (in_none e))

            prepared_in : (e : ℕ) → In e (raw (adjacency_in met.between ce cn counts new)) → In e (raw (adjacency_in ws ce cn counts new))
            prepared_in e m =
                subst (λ (a : Adjacency). In e (raw a)) (met.gathered.others new pre.new_placed.below (λ q. pre.apart (sym q))) m

        -- the move is done
        pub move_done : Moved ws zs ce cn counts live old new r
        move_done =
            let below : (e : ℕ) → In e moving → e < counts.edges.bound = λ e m. edges e (rw gathered_list m) in
            record {
              counted = named.counted ∙ ap length gathered_list;
              axis =
                  relocated_axis pre.old_placed.below pre.new_placed.below pre.apart below relocated
                  ∙ sym (moved_is flags old new (axis_of ws ce cn counts) (adjacency_in ws ce cn counts old) (adjacency_in ws ce cn counts new)
                  (axis_adjacency ws ce cn counts old pre.old_placed.below) (axis_adjacency ws ce cn counts new pre.new_placed.below));
              live_only = (
                record { entries = []; has = ap (λ (a : Adjacency). a.run) relocated.first; live_only = λ e m. in_none e m },
                record {
                  entries = swept_run ++ moving;
                  has = ap (λ (a : Adjacency). a.run) relocated.second;
                  live_only = λ e m.
                      in_either e swept_run moving m (swept_live flags (taken flags (adjacency_in ws ce cn counts new)) e) (alive e);
                },
              );
              checked = λ nodes. relocated_checked pre.old_placed.below pre.new_placed.below pre.apart below relocated nodes flags;
              frame = relocated.frame;
              writes = λ i out. relocated.writes i (λ m. out (rw (← live_taken flags (adjacency_in ws ce cn counts old)) m));
            }
