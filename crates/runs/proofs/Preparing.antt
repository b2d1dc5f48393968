-- Taking over and sweeping, one after the other.
use Rattle.std.specs.Prelude.{ℕ, Bool, List}
use Rattle.plain.specs.Library.{subst}
use Rattle.plain.specs.declared.Counts.{Counts}
use Rattle.shape.specs.Shape.{adjacency_in}
use Rattle.shape.specs.Steps.{swept}
use Rattle.shape.proofs.Laws.Keeping.{in_taken}
use Rattle.runs.specs.Runs.{Edited, Sweepable, Swept}
use Rattle.runs.specs.Overlay.{flags_of, TakenOver, Preparable, Prepared}
use Rattle.runs.specs.Laws.Remaking.{remade_edited, remade_list, remade_mark}

module _
    {ws us : List ℕ}
    {ce cn : ℕ}
    {counts : Counts}
    {live : List ℕ}
    {tombstoned : Bool}
    {node : ℕ}
    (pre : Preparable ws ce cn counts live tombstoned node)
    (over : TakenOver ws us ce cn counts live node)
  where
    -- a run that has taken over can be swept
    pub prepare_sweep : Sweepable us ce cn counts node live tombstoned
    prepare_sweep =
        record {
          scannable = record { editable = over.editable; marked = remade_mark over; live_long = pre.ready.live_long };
          all_live = pre.all_live;
        }

    -- and is then prepared
    pub prepare_end : {vs : List ℕ} → Swept us vs ce cn counts node live → Prepared ws vs ce cn counts live node
    prepare_end {vs} done =
        remade_edited pre.ready.nodes_based pre.ready.edges_based (in_taken (flags_of live counts) (adjacency_in ws ce cn counts node)) over
        (subst (λ (l : List ℕ). Edited us vs ce cn counts node (swept (flags_of live counts) l) l) (remade_list over) done.edited)
