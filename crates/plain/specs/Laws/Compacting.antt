-- The definitions that the laws of proofs/Laws/Compacting.antt speak of.
use Rattle.std.specs.Prelude.{Bool, List, [], map, get_or}
use Rattle.plain.specs.Plain.{Incidence, no_payload}
use Rattle.plain.specs.Reads.{live_slots}
use Rattle.plain.specs.Compaction.{rank, EdgeRecord}

-- one direction by new numbers: the ends of the live edges and the lists of the live nodes
abbrev pub renumbered : List Bool → List Bool → Incidence → Incidence
renumbered nodes edges i = record {
  ends = map (λ e. rank nodes (get_or i.ends e 0)) (live_slots edges);
  lists = map (λ x. map (rank edges) (get_or i.lists x [])) (live_slots nodes);
}

-- what stands past the end of a list of records, and is never read
abbrev pub no_ends : EdgeRecord
no_ends = record { source = 0; target = 0; payload = no_payload }
