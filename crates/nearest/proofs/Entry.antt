-- The call whole: what is refused before the search, in the definition's order, and what counts where nothing is.
use Rattle.std.specs.Prelude.{ℕ, ◌*◌, ◌≤◌, ◌<◌, ◌≡◌, refl, Bool, false, List, length, get_or, Result, Ok, Err, MatchResult}
use Rattle.plain.specs.Library.{sym, ap, ◌∙◌, subst, arith}
use Rattle.plain.specs.declared.Answer.{Answer}
use Rattle.plain.specs.declared.refusals.Refusal.{Refusal}
use Rattle.plain.specs.declared.refusals.Refusal.TheVariants.{TooShort, OutOfRangeNode, RemovedNode}
use Rattle.plain.specs.Answers.{done_of}
use Rattle.plain.specs.Refusals.{number_of}
use Rattle.plain.specs.Numbers.{NONE}
use Rattle.plain.specs.Lists.{written}
use Rattle.plain.specs.Plain.{NodeSlot}
use Rattle.plain.specs.Step.{node_fault}
use Rattle.plain.proofs.Laws.Cases.{fault_absent, fault_removed, fault_live}
use Rattle.plain.proofs.Laws.Operating.{length_node_flags}
use Rattle.shape.specs.Shape.{Words, node_capacity, node_live, lists}
use Rattle.shape.specs.Stores.{slot_refused}
use Rattle.shape.proofs.Laws.Refused.{by_refused, not_refused}
use Rattle.shape.proofs.Laws.Reading.{plain_node_bound, plain_node_flags}
use Rattle.validate.specs.Judging.{Judged}
use Rattle.nearest.specs.Calls.{Searched, unsearched, nearest_lot, judged_search, nearest_of, NearestOf}
use Rattle.nearest.specs.Laws.Calls.{first_refuses, second_refuses, work_refuses, none_refuses}
use Rattle.nearest.specs.Stores.{LiveLot, Asked}
use Rattle.nearest.specs.Answers.{search_of, Answered, Refused}

-- ---- the lots of a store

-- A lot that is refused: its fault by the plain lists, and no value.
record Unlive (w : Words) (x : ℕ) (r : Refusal) : Type 0 where
  told : done_of (Err r) ≡ record { number = node_fault (lists w) x; value = NONE }
  some : node_fault (lists w) x ≡ 0 → ⊥

unlive : {w : Words} {x : ℕ} {r : Refusal} → done_of (Err r) ≡ record { number = number_of r; value = NONE } → 0 < number_of r → node_fault (lists w) x ≡ number_of r → Unlive w x r
unlive valued some is = record { told = valued ∙ ap (λ (n : ℕ). record { number = n; value = NONE }) (sym is); some = λ none. omega arith }

module _ (w : Words) (x : ℕ) where
  unlive_lot : {r : Refusal} → Err r ≡ slot_refused OutOfRangeNode RemovedNode (node_live w) w.counts.nodes.bound x → Unlive w x r
  unlive_lot =
      by_refused (node_live w) w.counts.nodes.bound x (λ (r : Refusal). Unlive w x r)
      (λ past. unlive refl (omega arith)
      (fault_absent (λ (s : NodeSlot). s.live) 5 6 (lists w).nodes x (let l = length_node_flags (lists w) in let b = plain_node_bound w in omega arith)))
      (λ below dead. unlive refl (omega arith)
      (fault_removed (λ (s : NodeSlot). s.live) 5 6 (lists w).nodes x (record {
        below = let l = length_node_flags (lists w) in let b = plain_node_bound w in omega arith;
        dead = ap (λ (fs : List Bool). get_or fs x false) (plain_node_flags w) ∙ dead;
      })))

  -- and where it is not it is live
  lot_live : {done : Unit} → Ok done ≡ slot_refused OutOfRangeNode RemovedNode (node_live w) w.counts.nodes.bound x → LiveLot w x
  lot_live passed =
      ap (λ (fs : List Bool). get_or fs x false) (plain_node_flags w) ∙ not_refused OutOfRangeNode RemovedNode (node_live w) w.counts.nodes.bound x passed

live_there : (w : Words) (x : ℕ) → LiveLot w x → node_fault (lists w) x ≡ 0
live_there w x live = fault_live (λ (s : NodeSlot). s.live) 5 6 (lists w).nodes x live

-- ---- what is refused

module _ {w : Words} (first second room : ℕ) where
  -- refused with a number that is not 0
  refuses : (number value : ℕ) → (number ≡ 0 → ⊥) → ((chain : ℕ) → nearest_of w first second room chain ≡ unsearched number value)
      → Refused w first second room (record { number = number; value = value })
  refuses number value some is = record { refused = λ _. is; unbroken = λ q. absurd (some q); asked = λ q. absurd (some q) }

  module _ (j : Judged w 0) where
    counts : (chain : ℕ) → nearest_of w first second room chain ≡ nearest_lot (node_capacity w) (lists w) first second room chain
    counts chain = ap (λ (n : ℕ). judged_search n (nearest_lot (node_capacity w) (lists w) first second room chain)) (sym j.first)

    -- the first lot
    pub first_refused : {r : Refusal} → Err r ≡ slot_refused OutOfRangeNode RemovedNode (node_live w) w.counts.nodes.bound first
        → Refused w first second room (done_of (Err r))
    first_refused is =
        let lot = unlive_lot w first is in
        subst (λ (a : Answer). Refused w first second room a) (sym lot.told)
        (refuses (node_fault (lists w) first) NONE lot.some
        (λ chain. counts chain ∙ first_refuses (node_capacity w) (lists w) first second room chain (node_fault (lists w) first) refl lot.some))

    module _ {done : Unit} (passed : Ok done ≡ slot_refused OutOfRangeNode RemovedNode (node_live w) w.counts.nodes.bound first) where
      first_there : node_fault (lists w) first ≡ 0
      first_there = live_there w first (lot_live w first passed)

      -- the second
      pub second_refused : {r : Refusal} → Err r ≡ slot_refused OutOfRangeNode RemovedNode (node_live w) w.counts.nodes.bound second
          → Refused w first second room (done_of (Err r))
      second_refused is =
          let lot = unlive_lot w second is in
          subst (λ (a : Answer). Refused w first second room a) (sym lot.told)
          (refuses (node_fault (lists w) second) NONE lot.some
          (λ chain. counts chain ∙ second_refuses (node_capacity w) (lists w) first second room chain first_there (node_fault (lists w) second) refl lot.some))

      module _ {done_too : Unit} (passed_too : Ok done_too ≡ slot_refused OutOfRangeNode RemovedNode (node_live w) w.counts.nodes.bound second) where
        -- the work slice
        work_refused : room < 2 * node_capacity w → Refused w first second room (done_of (Err (TooShort (2 * node_capacity w))))
        work_refused short =
            refuses 2 (2 * node_capacity w) (λ q. omega arith)
            (λ chain. counts chain
            ∙ work_refuses (node_capacity w) (lists w) first second room chain first_there (live_there w second (lot_live w second passed_too)) short)

        -- nothing
        none_refused : 2 * node_capacity w ≤ room → Refused w first second room (record { number = 0; value = 0 })
        none_refused long = record {
          refused = λ some. absurd (some refl);
          unbroken = λ _. sym j.first;
          asked = λ _ work is. record {
            checked = j.checked refl;
            first_live = lot_live w first passed;
            goal_live = lot_live w second passed_too;
            long = omega arith;
          };
        }

        -- whether there is room
        pub work_asked : (r : Result Unit Refusal)
            → MatchResult r (λ _. 2 * node_capacity w ≤ room) (λ refusal. (room < 2 * node_capacity w) × (refusal ≡ TooShort (2 * node_capacity w)))
            → Refused w first second room (done_of r)
        work_asked (Ok done) long = none_refused long
        work_asked (Err refusal) lacks = rw lacks.1 (work_refused lacks.0)

-- ---- the entry

module _ {w : Words} {first second : ℕ} {work chain : List ℕ} {r : Answer} (f : Refused w first second (length work) r) where
  -- searched
  pub nearest_searched : r.number ≡ 0 → {answer : Answer} {work' chain' : List ℕ} → Answered w first second work chain answer work' chain'
      → NearestOf w first second work chain answer work' chain'
  nearest_searched None-number a = record {
    numbered = a.numbered ∙ sym (ap (λ (s : Searched). s.number) is);
    valued = a.valued ∙ sym (ap (λ (s : Searched). s.value) is);
    worked = a.worked ∙ sym (ap (λ (s : Searched). written s.work work) is);
    wrote = a.wrote ∙ sym (ap (λ (s : Searched). written s.chain chain) is);
  }
    where
      asked : Asked w first second work
      asked = f.asked None-number work refl

      is : nearest_of w first second (length work) (length chain) ≡ search_of w first second (length chain)
      is =
          ap (λ (n : ℕ). judged_search n (nearest_lot (node_capacity w) (lists w) first second (length work) (length chain))) (f.unbroken None-number)
          ∙ none_refuses (node_capacity w) (lists w) first second (length work) (length chain) (live_there w first asked.first_live)
          (live_there w second asked.goal_live)
          asked.long
