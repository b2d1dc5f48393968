-- What joining two books comes to on any words: number and value, the maps as whole lists, and the third memory.
use Rattle.std.specs.Prelude.{ℕ, ◌≡◌, length}
use Rattle.plain.specs.declared.Answer.{Answer}
use Rattle.plain.specs.Compaction.{survivors}
use Rattle.plain.specs.Joining.{joined_survivors, joined_state, Joining, join}
use Rattle.plain.specs.Lists.{written}
use Rattle.shape.specs.Checked.{Checked}
use Rattle.shape.specs.Fields.{RenewalLeaves}
use Rattle.shape.specs.Kept.{Renewed, Spared, SameLengths}
use Rattle.shape.specs.Rules.{broken}
use Rattle.shape.specs.Shape.{Words, lengths_of, shape_of, lists}
use Rattle.shape.specs.Steps.{state_of}
use Rattle.compact.specs.Calls.{Canonical}
use Rattle.compact.specs.Survivors.{shape_of_survivors}
pub use Rattle.join_memory.specs.Settling.{no_counts, cleared, LentMaps, lent_maps, maps_of}

-- what document 02 says of joining two books into a memory, number 1 included
abbrev pub joining_of : Words → Words → Words → LentMaps → Joining
joining_of first second w maps =
    join (broken first) (broken second) (lengths_of w) (lists first) (lists second)
    (record {
      first_nodes = length maps.first_nodes;
      first_edges = length maps.first_edges;
      second_nodes = length maps.second_nodes;
      second_edges = length maps.second_edges;
    })

-- Joining two books: w is what was in the third memory, with no counts, v is what is there then.
pub record JoinOf (first second w : Words) (maps : LentMaps) (number value : ℕ) (v : Words) (maps' : LentMaps) : Type 0 where
  pub answered : ◌≡◌ {A = Answer} (record { number = number; value = value }) (joining_of first second w maps).answer
  -- a refusal writes nothing, and words past the answers keep their content
  pub first_nodes_mapped : maps'.first_nodes ≡ written (joining_of first second w maps).maps.first_nodes maps.first_nodes
  pub first_edges_mapped : maps'.first_edges ≡ written (joining_of first second w maps).maps.first_edges maps.first_edges
  pub second_nodes_mapped : maps'.second_nodes ≡ written (joining_of first second w maps).maps.second_nodes maps.second_nodes
  pub second_edges_mapped : maps'.second_edges ≡ written (joining_of first second w maps).maps.second_edges maps.second_edges
  -- "The plain lists of the result are the renumbered lists of both", "as a compact store"
  pub state : number ≡ 0 → state_of (shape_of v) ≡ joined_state (lists first) (lists second)
  -- nothing is left in runs or rings: the result equals what compaction leaves
  pub shape : number ≡ 0 → shape_of v ≡ shape_of_survivors (joined_survivors (survivors (lists first)) (survivors (lists second)))
  pub checked : number ≡ 0 → Checked v
  pub canonical : number ≡ 0 → Canonical v
  pub lengths : SameLengths w v
  -- not a word, and the counts are 0
  pub refused_keeps : (number ≡ 0 → ⊥) → v ≡ w
  -- column by column: no word past the bounds, no link, no first, tail or count, and no spare one is written; every field is fixed (Agreeing)
  pub renewed : Renewed w v
  pub spared : Spared w v
  -- of what is no field (`NoField`): all is as it was but the offset of a store without a node, and nothing is left to the program
  pub leaves : RenewalLeaves w v
