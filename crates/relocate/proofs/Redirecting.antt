-- What redirecting an edge does, step by step: it leaves one run, joins another, and its end is stored.
use Rattle.std.specs.Prelude.{ℕ, ◌<◌, ◌≡◌, refl, Bool, true, ◌≢◌, List, [], ◌∷◌, ◌++◌, length, get_or, set, eqb}
use Rattle.plain.specs.Library.{sym, ap, ◌∙◌, subst, length-set, get_or-set_same, get_or-set_other, arith, eqb-true, eqb-false}
use Rattle.plain.specs.declared.Counts.{Counts}
use Rattle.plain.specs.Lists.{without, set_all}
use Rattle.plain.proofs.Laws.Booleans.{by_test, true_false}
use Rattle.plain.proofs.Laws.ListLaws.{member_first}
use Rattle.plain.proofs.Laws.Deleting.{member_gone}
use Rattle.shape.specs.Columns.{end_at}
use Rattle.shape.specs.Chains.{In}
use Rattle.shape.specs.Shape.{adjacency_in, Adjacency, Axis, raw, live_in, ring_of, axis_of, no_adjacency}
use Rattle.shape.specs.Steps.{taken, swept, with_run, redirected_axis}
use Rattle.shape.specs.Kept.{axis_kept_none, axis_kept_again}
use Rattle.shape.proofs.Laws.Chains.{in_none}
use Rattle.shape.proofs.Laws.Taking.{swept_live}
use Rattle.shape.proofs.Laws.Keeping.{in_either, in_edited, in_one, in_without}
use Rattle.shape.proofs.Laws.Reading.{axis_end, axis_adjacency}
use Rattle.runs.specs.Runs.{Cuttable, TakenOut, Pushable, Grown}
use Rattle.runs.specs.Overlay.{flags_of, Preparable, Prepared}
use Rattle.runs.specs.Laws.Remaking.{remade_edited, remade_list, remade_mark, remade_new}
use Rattle.relocate.specs.Redirects.{Relocatable, Placed, Relabelled, Relocated, Left, Arrivable, Arrived, Redirectable, Redirected}
use Rattle.relocate.proofs.Relinking.{placed_ready, remade_axis, remade_placed, relocated_axis, relocated_checked, remade_linked, relabelled_node, relabelled_linked, relabelled_kept}

-- ---- leaving

module _
    {ws us : List ℕ}
    {ce cn : ℕ}
    {counts : Counts}
    {live : List ℕ}
    {tombstoned : Bool}
    {node : ℕ}
    (pre : Preparable ws ce cn counts live tombstoned node)
    (made : Prepared ws us ce cn counts live node)
  where
    pub leave_out : Cuttable us ce cn counts node
    leave_out = record { editable = made.editable; marked = remade_mark made }

    pub leave_end : {vs : List ℕ} (e : ℕ) → TakenOut us vs ce cn counts node e → Left ws vs ce cn counts live node e
    leave_end e done =
        remade_edited pre.ready.nodes_based pre.ready.edges_based (in_edited (flags_of live counts) (adjacency_in ws ce cn counts node)) made
        (rw (remade_list made) at done)

-- ---- arriving

module _
    {ws us : List ℕ}
    {ce cn : ℕ}
    {counts : Counts}
    {live : List ℕ}
    {tombstoned : Bool}
    {node e : ℕ}
    (pre : Arrivable ws ce cn counts live tombstoned node e)
    (made : Prepared ws us ce cn counts live node)
  where
    pub arrive_push : Pushable us ce cn counts node e
    arrive_push =
        record {
          editable = made.editable;
          marked = remade_mark made;
          edge_below = pre.edge_below;
          new = remade_new made e (λ m. pre.away (in_edited (flags_of live counts) (adjacency_in ws ce cn counts node) e m)) pre.elsewhere;
        }

    pub arrive_end : {vs : List ℕ} → Grown us vs ce cn counts node (e ∷ []) → Arrived ws vs ce cn counts live node e
    arrive_end grown =
        remade_edited pre.preparable.ready.nodes_based pre.preparable.ready.edges_based
        (in_edited (flags_of live counts) (adjacency_in ws ce cn counts node)) made (rw (remade_list made) at grown)

-- ---- redirecting

-- a redirected axis by the end and the two nodes that it reads
redirected_is : (flags : List Bool) (e new : ℕ) (axis : Axis) (old : ℕ) (a b : Adjacency) → get_or axis.ends e 0 ≡ old
    → get_or axis.nodes old no_adjacency ≡ a → get_or axis.nodes new no_adjacency ≡ b → redirected_axis flags e new axis ≡ record {
      ends = set axis.ends e new;
      nodes = set (set axis.nodes old (with_run (without e (swept flags (taken flags a))) a)) new (with_run (swept flags (taken flags b) ++ (e ∷ [])) b);
    }
unfolding redirected_axis
redirected_is flags e new axis old a b p q r = rw (p, q, r)

module _ {ws : List ℕ} {ce cn : ℕ} {counts : Counts} {live : List ℕ} {tombstoned : Bool} {e new : ℕ} (pre : Redirectable ws ce cn counts live tombstoned e new) where
  abbrev flags : List Bool
  flags = flags_of live counts

  -- the end before
  abbrev old : ℕ
  old = end_at ws e

  -- the runs afterwards
  abbrev left_run : List ℕ
  left_run = without e (swept flags (taken flags (adjacency_in ws ce cn counts old)))

  -- the present end again
  pub redirect_same : old ≡ new → Redirected ws ws ce cn counts live e new old
  redirect_same q =
      record { previous = refl; unchanged = λ p. refl; changed = λ ne. absurd (ne q); live_only = λ ne. absurd (ne q); checked = λ nodes a b was. was; frame = axis_kept_none ws ce cn counts.nodes.bound counts.edges.bound; writes = λ i ne lo ln o n. refl }

  module _ (apart : old ≢ new) {us : List ℕ} (gone : Left ws us ce cn counts live old e) where
    -- a live entry of the run that it left was at the node
    own : (f : ℕ) → live_in flags f ≡ true → In f left_run → end_at ws f ≡ old
    own f alive m =
        pre.old_placed.own f alive
        (in_edited flags (adjacency_in ws ce cn counts old) f (in_without e f (swept flags (taken flags (adjacency_in ws ce cn counts old))) m))

    -- the axis after that
    axis_left : Relocatable us ce cn counts live
    axis_left = remade_axis pre.axis gone own

    new_left : Placed us ce cn counts live new
    new_left = remade_placed pre.axis gone new (λ q. apart (sym q)) pre.new_placed

    -- the end is not stored yet
    end_left : end_at us e ≡ old
    end_left = gone.below e (omega (arith, pre.edge_below, pre.axis.linked.edges_within))

    -- the edge can join the other node
    pub redirect_arrive : Arrivable us ce cn counts live tombstoned new e
    redirect_arrive =
        record {
          preparable = record { ready = placed_ready axis_left new_left; all_live = pre.all_live };
          edge_below = pre.edge_below;
          away = λ m. apart (sym end_left ∙ new_left.own e pre.edge_live m);
          elsewhere = λ x h ne. remade_new gone e (λ m. true_false m (member_gone e (swept flags (taken flags (adjacency_in ws ce cn counts old)))))
              (λ y k ny m. ny (sym (pre.axis.run_ends y e k pre.edge_live m))) x h;
        }

    module _ {vs : List ℕ} (come : Arrived us vs ce cn counts live new e) where
      -- the words with the end stored
      abbrev zs : List ℕ
      zs = set vs e new

      room : e < length vs
      room = omega (arith, pre.edge_below, pre.axis.linked.edges_within, come.editable.sized.room)

      -- only the end of e differs from vs
      relabelled : Relabelled vs zs (e ∷ []) new
      relabelled =
          record {
            ends = λ f m. rw (in_one f e m) (get_or-set_same vs e new 0 room);
            kept = λ i out. get_or-set_other vs e i new 0 (λ q. out (rw q (member_first e [])));
            long = length-set vs e new;
          }

      -- the rings of both nodes are empty, and no other has e
      unringed : (x f : ℕ) → x < counts.nodes.bound → In f (e ∷ []) → In f (ring_of vs ce counts.edges.base counts.edges.bound x) → ⊥
      unringed x f h m k =
          by_test (eqb x new) (λ t. in_none f (subst (λ (l : List ℕ). In f l) (ring (ap (adjacency_in vs ce cn counts) (eqb-true x new t) ∙ come.here)) k))
          (λ t.
          let later = ring (come.others x h (eqb-false x new t)) in
          by_test (eqb x old)
          (λ u. in_none f (subst (λ (l : List ℕ). In f l) (later ∙ ring (ap (adjacency_in us ce cn counts) (eqb-true x old u) ∙ gone.here)) k))
          (λ u. let ne = eqb-false x old u in
          ne (sym (pre.axis.linked.rings.own x e h
          (subst (λ (z : ℕ). In z (ring_of ws ce counts.edges.base counts.edges.bound x)) (in_one f e m)
          (subst (λ (l : List ℕ). In f l) (later ∙ ring (gone.others x h ne)) k))))))
        where
          ring : {a b : Adjacency} → a ≡ b → a.ring ≡ b.ring
          ring q = ap (λ (c : Adjacency). c.ring) q

      -- both nodes and the end
      relocated : Relocated ws zs ce cn counts old new left_run (swept flags (taken flags (adjacency_in ws ce cn counts new)) ++ (e ∷ [])) (e ∷ [])
      relocated =
          let l = remade_linked (remade_linked pre.axis.linked gone) come in
          let edges : (f : ℕ) → In f (e ∷ []) → f < counts.edges.bound = λ f m. rw (in_one f e m) pre.edge_below in
          let new-same = gone.others new pre.new_placed.below (λ q. apart (sym q)) in
          record {
            first = relabelled_node l edges relabelled old ∙ come.others old pre.old_placed.below apart ∙ gone.here;
            second =
                relabelled_node l edges relabelled new ∙ come.here
                ∙ ap (λ (a : Adjacency). with_run (swept flags (taken flags a) ++ (e ∷ [])) a) new-same;
            others = λ x h no nn. relabelled_node l edges relabelled x ∙ come.others x h nn ∙ gone.others x h no;
            ends = relabelled.ends;
            kept = λ f h out.
                relabelled.kept f out ∙ come.below f (omega (arith, pre.axis.linked.edges_within))
                ∙ gone.below f (omega (arith, pre.axis.linked.edges_within));
            linked = relabelled_linked l edges relabelled unringed;
            frame = axis_kept_again gone.frame (axis_kept_again come.frame (relabelled_kept l edges relabelled));
            writes = λ i out lo ln o n.
                relabelled.kept i out ∙ come.writes i (λ q. ln (q.0, q.1, subst (λ (a : Adjacency). In q.0 (raw a)) new-same q.2)) n ∙ gone.writes i lo o;
          }

      -- the redirection is done
      pub redirect_done : Redirected ws zs ce cn counts live e new old
      unfolding set_all
      redirect_done =
          let edges : (f : ℕ) → In f (e ∷ []) → f < counts.edges.bound = λ f m. rw (in_one f e m) pre.edge_below in
          record {
            previous = refl;
            unchanged = λ q. absurd (apart q);
            changed = λ ne.
                relocated_axis pre.old_placed.below pre.new_placed.below apart edges relocated
                ∙ sym (redirected_is flags e new (axis_of ws ce cn counts) old (adjacency_in ws ce cn counts old) (adjacency_in ws ce cn counts new)
                (axis_end ws ce cn counts e pre.edge_below) (axis_adjacency ws ce cn counts old pre.old_placed.below)
                (axis_adjacency ws ce cn counts new pre.new_placed.below));
            live_only = λ ne. (
              record {
                entries = left_run;
                has = ap (λ (a : Adjacency). a.run) relocated.first;
                live_only = λ f m.
                    let run = taken flags (adjacency_in ws ce cn counts old) in
                    swept_live flags run f (in_without e f (swept flags run) m);
              },
              record {
                entries = swept flags (taken flags (adjacency_in ws ce cn counts new)) ++ (e ∷ []);
                has = ap (λ (a : Adjacency). a.run) relocated.second;
                live_only = λ f m.
                    let run = taken flags (adjacency_in ws ce cn counts new) in
                    in_either f (swept flags run) (e ∷ []) m (swept_live flags run f) (λ q. rw (in_one f e q) pre.edge_live);
              },
            );
            checked = λ nodes. relocated_checked pre.old_placed.below pre.new_placed.below apart edges relocated nodes flags;
            frame = relocated.frame;
            writes = λ i ne. relocated.writes i (λ m. ne (in_one i e m));
          }
