-- Document 02, No. 4, by example, on small stores: proved by computation from the definitions.
use Rattle.std.specs.Prelude.{ℕ, ◌≡◌, refl, List, [], ◌∷◌, ◌++◌}
use Rattle.plain.specs.declared.EdgePayload.{EdgePayload}
use Rattle.plain.specs.declared.Operation.{Operation}
use Rattle.plain.specs.declared.Operation.TheVariants.{AddNode, AddEdge, RemoveEdge, RemoveNode, Redirect}
use Rattle.plain.specs.declared.TraversalDirection.TheVariants.{Outgoing}
use Rattle.plain.specs.Numbers.{NONE}
use Rattle.plain.specs.Lists.{joined, keep, append_at, delete_at, without}
use Rattle.plain.specs.Plain.{Plain, node_added, edge_added, edge_removed, edges_removed, node_removed, redirected}
use Rattle.plain.specs.Step.{Capacities, step, run}
use Rattle.plain.specs.Calls.{fresh_state}
use Rattle.nearest.specs.Chains.{first_candidate, chains, nearest_from, nearest}
use Rattle.nearest.specs.Calls.{Searched, unsearched, nearest_lot}

abbrev weight : EdgePayload
weight = record { low = 1; high = 1 }

abbrev small : Capacities
small = record { nodes = 5; edges = 8 }

abbrev book : List Operation → Plain
book operations = (run small fresh_state operations).lists

-- five lots; from lot 0 to lot 3 two ways of two transfers, 0 then 3 and 1 then 2, and one of three, 1 then 4 then 3; lot 4 is on its own
abbrev square : List Operation
square =
    AddNode 1 ∷ AddNode 2 ∷ AddNode 3 ∷ AddNode 4 ∷ AddNode 5 ∷ AddEdge 0 2 weight ∷ AddEdge 0 1 weight ∷ AddEdge 1 3 weight ∷ AddEdge 2 3 weight
    ∷ AddEdge 1 2 weight ∷ []

-- the same with a transfer more, straight from lot 0 to lot 3
abbrev shortcut : List Operation
shortcut = square ++ (AddEdge 0 3 weight ∷ [])

-- the call with ten words of work and two of room
abbrev ask : List Operation → ℕ → ℕ → Searched
ask operations first second = nearest_lot 5 (book operations) first second 10 2

abbrev clear : List ℕ
clear = 0 ∷ 0 ∷ 0 ∷ 0 ∷ 0 ∷ 0 ∷ 0 ∷ 0 ∷ 0 ∷ 0 ∷ []

abbrev reached : List ℕ → ℕ → Searched
reached chain value = record { number = 0; value = value; work = clear; chain = chain }

abbrev denied : Searched
denied = record { number = 14; value = NONE; work = clear; chain = [] }

pub record Examples : Type 0 where
  -- "a lot reaches itself by an empty chain", though there is no transfer at it
  pub itself : ask square 4 4 ≡ reached [] 0
  -- "among equal lengths take the chain whose first edge stands earliest in the out-list"
  pub first_among_equals : ask square 0 3 ≡ reached (0 ∷ 3 ∷ []) 2
  -- the out-list's order decides, not the slots': transfer 0 taken to another source and back stands last
  pub by_the_list : ask (square ++ (Redirect Outgoing 0 1 ∷ Redirect Outgoing 0 0 ∷ [])) 0 3 ≡ reached (1 ∷ 2 ∷ []) 2
  -- "no shorter chain may exist"
  pub shortest : ask shortcut 0 3 ≡ reached (5 ∷ []) 1
  -- a removed transfer is in no chain
  pub removed_transfer : ask (shortcut ++ (RemoveEdge 5 ∷ RemoveEdge 0 ∷ [])) 0 3 ≡ reached (1 ∷ 2 ∷ []) 2
  -- "following their direction"
  pub denied_back : ask square 3 0 ≡ denied
  pub denied_alone : ask square 0 4 ≡ denied
  -- 2 for the chain
  pub short : nearest_lot 5 (book square) 0 3 10 1 ≡ record { number = 2; value = 2; work = clear; chain = [] }
  -- "after 5 and 6 for the first lot and then for the second, after 2 for the work slice", and 14 "before 2 for the chain"
  pub first_absent : ask (square ++ (RemoveNode 4 ∷ [])) 9 4 ≡ unsearched 5 NONE
  pub first_removed : ask (square ++ (RemoveNode 4 ∷ [])) 4 9 ≡ unsearched 6 NONE
  pub second_absent : ask square 0 5 ≡ unsearched 5 NONE
  pub second_removed : ask (square ++ (RemoveNode 4 ∷ [])) 0 4 ≡ unsearched 6 NONE
  pub work_short : nearest_lot 5 (book square) 0 4 9 0 ≡ unsearched 2 10
  pub denied_before_short : nearest_lot 5 (book square) 0 4 10 0 ≡ denied

examples : Examples
unfolding nearest_lot nearest nearest_from first_candidate chains joined keep append_at delete_at without node_added edge_added edge_removed edges_removed node_removed redirected step run
examples = record {
  itself = refl;
  first_among_equals = refl;
  by_the_list = refl;
  shortest = refl;
  removed_transfer = refl;
  denied_back = refl;
  denied_alone = refl;
  short = refl;
  first_absent = refl;
  first_removed = refl;
  second_absent = refl;
  second_removed = refl;
  work_short = refl;
  denied_before_short = refl;
}
