-- The call's definition by cases, and the sentences of document 02, No. 4, about what it answers, for the plain lists of every store.
use Rattle.std.specs.Prelude.{ℕ, zero, suc, ◌≤◌, ◌<◌, ◌≡◌, refl, false, cond, List, [], ◌∷◌, length, get_or, eqb, ltb}
use Rattle.plain.specs.Library.{sym, ap, ◌∙◌, inl, ⊎_elim, Option, none, some, arith, lt-ltb, le-ltb}
use Rattle.std.proofs.Common.{zero-le}
use Rattle.plain.specs.declared.TraversalDirection.TheVariants.{Outgoing, Incoming}
use Rattle.plain.specs.Numbers.{NONE}
use Rattle.plain.specs.Plain.{Plain, NodeSlot, node_flags, edge_flags, list_of, end_of}
use Rattle.plain.specs.Step.{Capacities, node_fault}
use Rattle.plain.specs.WellFormed.{WellFormed}
use Rattle.plain.proofs.Laws.Booleans.{and_left, below_or_not}
use Rattle.plain.specs.Laws.Cases.{Slot, absent, removed, live}
use Rattle.plain.proofs.Laws.Cases.{slot, fault_absent, fault_removed}
use Rattle.plain.proofs.Laws.Operating.{node_below}
use Rattle.nearest.specs.Chains.{Chain, nearest}
use Rattle.nearest.specs.Laws.Chains.{by_option, Within, First, nearest_is_first, nearest_none, first_unique, first_nearest}
use Rattle.nearest.specs.Calls.{Searched, unsearched, search_unless, work_needed, cleared, chain_answer, nearest_lot, judged_search}

-- ---- the definition's cases

unless_refuses : (number : ℕ) (searched : Searched) → (number ≡ 0 → ⊥) → search_unless number searched ≡ unsearched number NONE
unless_refuses zero searched h = absurd (h refl)
unless_refuses (suc number) searched h = refl

pub judged_refuses : (rule : ℕ) (searched : Searched) → (rule ≡ 0 → ⊥) → judged_search rule searched ≡ unsearched 1 rule
judged_refuses zero searched h = absurd (h refl)
judged_refuses (suc rule) searched h = refl

module _ (capacity : ℕ) (p : Plain) (first second work room : ℕ) where
  -- what is left after the lots
  abbrev by_work : Searched
  by_work =
      cond (ltb work (work_needed capacity)) (unsearched 2 (work_needed capacity))
      (chain_answer capacity room (nearest (list_of Outgoing p) (end_of Incoming p) capacity first second))

  -- the first lot
  pub first_refuses : (number : ℕ) → node_fault p first ≡ number → (number ≡ 0 → ⊥) → nearest_lot capacity p first second work room ≡ unsearched number NONE
  unfolding nearest_lot
  first_refuses number is h =
      ap (λ (n : ℕ). search_unless n (search_unless (node_fault p second) by_work)) is
      ∙ unless_refuses number (search_unless (node_fault p second) by_work) h

  module _ (first-there : node_fault p first ≡ 0) where
    -- the second
    pub second_refuses : (number : ℕ) → node_fault p second ≡ number → (number ≡ 0 → ⊥) → nearest_lot capacity p first second work room ≡ unsearched number NONE
    unfolding nearest_lot
    second_refuses number is h =
        ap (λ (n : ℕ). search_unless n (search_unless (node_fault p second) by_work)) first-there ∙ ap (λ (n : ℕ). search_unless n by_work) is
        ∙ unless_refuses number by_work h

    module _ (second-there : node_fault p second ≡ 0) where
      lots_there : nearest_lot capacity p first second work room ≡ by_work
      unfolding nearest_lot
      lots_there =
          ap (λ (n : ℕ). search_unless n (search_unless (node_fault p second) by_work)) first-there ∙ ap (λ (n : ℕ). search_unless n by_work) second-there

      -- the work slice
      pub work_refuses : work < work_needed capacity → nearest_lot capacity p first second work room ≡ unsearched 2 (work_needed capacity)
      work_refuses short = lots_there ∙ rw (lt-ltb work (work_needed capacity) short)

      -- nothing is refused
      pub none_refuses : work_needed capacity ≤ work
          → nearest_lot capacity p first second work room ≡ chain_answer capacity room (nearest (list_of Outgoing p) (end_of Incoming p) capacity first second)
      none_refuses long = lots_there ∙ rw (le-ltb work (work_needed capacity) long)

-- the chain's slice too short, and long enough
pub chain_short : (capacity room : ℕ) (c : List ℕ) → room < length c
    → chain_answer capacity room (some c) ≡ record { number = 2; value = length c; work = cleared capacity; chain = [] }
chain_short capacity room c h = rw (lt-ltb room (length c) h)

pub chain_fits : (capacity room : ℕ) (c : List ℕ) → length c ≤ room
    → chain_answer capacity room (some c) ≡ record { number = 0; value = length c; work = cleared capacity; chain = c }
chain_fits capacity room c h = rw (le-ltb room (length c) h)

-- the borrowed words are clear once the search was made, whatever it found
pub chain_clears : (capacity room : ℕ) (found : Option (List ℕ)) → (chain_answer capacity room found).work ≡ cleared capacity
chain_clears capacity room none = refl
chain_clears capacity room (some c) =
    ⊎_elim (λ short. ap (λ (r : Searched). r.work) (chain_short capacity room c short)) (λ fits. ap (λ (r : Searched). r.work) (chain_fits capacity room c fits))
    (below_or_not room (length c))

-- ---- the sentences

-- a chain of a store's live transfers
abbrev pub ChainIn : Plain → ℕ → List ℕ → ℕ → Type 0
ChainIn p first c second = Chain (list_of Outgoing p) (end_of Incoming p) first c second

-- one with none shorter, that goes before every other one of its length
abbrev pub FirstIn : Plain → ℕ → ℕ → List ℕ → Type 0
FirstIn p first second c = First (list_of Outgoing p) (end_of Incoming p) first second c

-- What is answered where both lots are live and the work slice, of `work` words, is long enough; `room` is the length of the chain's slice.
pub record Sentences (capacity : ℕ) (p : Plain) (first second work room : ℕ) : Type 0 where
  -- "the shortest chain of live transfers .. written as edge slots into a lent slice"; "the value is the chain's length"
  pub done : (c : List ℕ) → FirstIn p first second c → length c ≤ room
      → nearest_lot capacity p first second work room ≡ record { number = 0; value = length c; work = cleared capacity; chain = c }
  -- "2 for the chain", "the chain's slice then being untouched"
  pub short : (c : List ℕ) → FirstIn p first second c → room < length c
      → nearest_lot capacity p first second work room ≡ record { number = 2; value = length c; work = cleared capacity; chain = [] }
  -- "it refuses with 14, value NONE, where no chain exists"
  pub refused : ((c : List ℕ) → ChainIn p first c second → ⊥)
      → nearest_lot capacity p first second work room ≡ record { number = 14; value = NONE; work = cleared capacity; chain = [] }
  -- "a chain is denied only if there is none at all"
  pub denied : (nearest_lot capacity p first second work room).number ≡ 14 → (c : List ℕ) → ChainIn p first c second → ⊥
  -- where there is a chain there is one with none shorter that goes before every other of its length, and only one: it is done, or short of room
  pub reached : (c : List ℕ) → ChainIn p first c second → (d : List ℕ) × FirstIn p first second d
  pub one : (c d : List ℕ) → FirstIn p first second c → FirstIn p first second d → c ≡ d
  -- "a lot reaches itself by an empty chain"
  pub itself : first ≡ second → nearest_lot capacity p first second work room ≡ record { number = 0; value = 0; work = cleared capacity; chain = [] }

-- a list of no length is empty
no_length : (l : List ℕ) → length l ≡ 0 → [] ≡ l
no_length [] q = refl
no_length (e ∷ l) q = absurd (omega arith)

module _ {caps : Capacities} {p : Plain} (well : WellFormed caps p) where
  -- every transfer leads to a lot below the capacity
  transfers_within : Within (list_of Outgoing p) (end_of Incoming p) caps.nodes
  transfers_within x e m =
      let alive = and_left (get_or (edge_flags p) e false) (eqb (end_of Outgoing p e) x) (sym (well.outgoing.listed x e) ∙ m) in
      let low = node_below p (end_of Incoming p e) (well.ends_live Incoming e alive) in
      let bound = well.nodes_within in
      omega arith

  -- and so is a lot without a fault
  lot_below : (x : ℕ) → node_fault p x ≡ 0 → x < caps.nodes
  lot_below x there = by_slot (slot (node_flags p) x)
    where
      by_slot : Slot (node_flags p) x → x < caps.nodes
      by_slot (absent h) = let q = fault_absent (λ (s : NodeSlot). s.live) 5 6 p.nodes x h in absurd (omega arith)
      by_slot (removed h) = let q = fault_removed (λ (s : NodeSlot). s.live) 5 6 p.nodes x h in absurd (omega arith)
      by_slot (live h) = let low = node_below p x h in let bound = well.nodes_within in omega arith

  module _ (first second work room : ℕ) (first-there : node_fault p first ≡ 0) (second-there : node_fault p second ≡ 0) (long : work_needed caps.nodes ≤ work) where
    abbrev given : Option (List ℕ)
    given = nearest (list_of Outgoing p) (end_of Incoming p) caps.nodes first second

    called : nearest_lot caps.nodes p first second work room ≡ chain_answer caps.nodes room given
    called = none_refuses caps.nodes p first second work room first-there second-there long

    first_given : (c : List ℕ) → FirstIn p first second c → given ≡ some c
    first_given c f = first_nearest (list_of Outgoing p) (end_of Incoming p) caps.nodes first second c transfers_within (lot_below first first-there) f

    chain_given : (c : List ℕ) → given ≡ some c → FirstIn p first second c
    chain_given c is = nearest_is_first (list_of Outgoing p) (end_of Incoming p) caps.nodes first second c is

    none_given : given ≡ none → (c : List ℕ) → ChainIn p first c second → ⊥
    none_given nothing c chain =
        nearest_none (list_of Outgoing p) (end_of Incoming p) caps.nodes first second c transfers_within (lot_below first first-there) nothing chain

    is_done : (c : List ℕ) → FirstIn p first second c → length c ≤ room
        → nearest_lot caps.nodes p first second work room ≡ record { number = 0; value = length c; work = cleared caps.nodes; chain = c }
    is_done c f fits = called ∙ ap (chain_answer caps.nodes room) (first_given c f) ∙ chain_fits caps.nodes room c fits

    is_short : (c : List ℕ) → FirstIn p first second c → room < length c
        → nearest_lot caps.nodes p first second work room ≡ record { number = 2; value = length c; work = cleared caps.nodes; chain = [] }
    is_short c f short = called ∙ ap (chain_answer caps.nodes room) (first_given c f) ∙ chain_short caps.nodes room c short

    pub sentences : Sentences caps.nodes p first second work room
    sentences = record {
      done = is_done;
      short = is_short;
      refused = λ nothing.
          called ∙ ap (chain_answer caps.nodes room) (by_option given (λ c is. absurd (nothing c (chain_given c is).is_chain)) (λ q. q));
      denied = λ q. by_option given
          (λ c is. absurd (⊎_elim (λ less. let a = ap (λ (r : Searched). r.number) (is_short c (chain_given c is) less) in omega arith)
          (λ fits. let a = ap (λ (r : Searched). r.number) (is_done c (chain_given c is) fits) in omega arith) (below_or_not room (length c))))
          none_given;
      reached = λ c chain. by_option given (λ d is. (d, chain_given d is)) (λ nothing. absurd (none_given nothing c chain));
      one = first_unique (list_of Outgoing p) (end_of Incoming p) first second;
      itself = λ same. is_done []
          (record { is_chain = same; shortest = λ other chain. zero-le; first = λ other chain q. inl (no_length other q) }) zero-le;
    }
