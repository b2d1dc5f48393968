-- The nearest chain whole: each way out of it is what the call's definition says.
use Rattle.std.specs.Option.{ok_or}
use Rattle.std.specs.Prelude.{ℕ, suc, ◌*◌, ◌≤◌, ◌<◌, ◌≡◌, refl, List, [], ◌++◌, length, get_or, drop, replicate, Option, None, Some, Result, Err}
use Rattle.plain.specs.Library.{sym, ap, ◌∙◌, subst, some, length-replicate, arith}
use Rattle.plain.specs.declared.TraversalDirection.TheVariants.{Outgoing, Incoming}
use Rattle.plain.specs.declared.Answer.{Answer}
use Rattle.plain.specs.declared.refusals.Refusal.{Refusal}
use Rattle.plain.specs.declared.refusals.Refusal.TheVariants.{Unreachable}
use Rattle.plain.specs.Answers.{answer_of}
use Rattle.plain.specs.Numbers.{NONE}
use Rattle.plain.specs.Lists.{written}
use Rattle.plain.specs.Plain.{list_of, end_of}
use Rattle.shape.specs.Columns.{end_at}
use Rattle.shape.specs.Shape.{Words, node_capacity, lists}
use Rattle.nearest.specs.Chains.{nearest}
use Rattle.nearest.specs.Calls.{Searched, cleared as cleared_words, chain_answer}
use Rattle.nearest.specs.Laws.Calls.{chain_short, chain_fits, chain_clears}
use Rattle.nearest.specs.Search.{Distance}
use Rattle.nearest.specs.Frontier.{dist_in}
use Rattle.nearest.specs.Stores.{Asked}
use Rattle.nearest.specs.Backwards.{Sought, word_of}
use Rattle.nearest.specs.Forwards.{way_in, Forward}
use Rattle.nearest.specs.Answers.{search_of, Found, Answered}
use Rattle.nearest.proofs.SearchLaws.{word_distance}
use Rattle.nearest.proofs.Stores.{few, consistent, lot_within, nearest_by_words}
use Rattle.nearest.proofs.Downhill.{search_labelled, length_downhill}
use Rattle.nearest.proofs.Seeding.{cleared}
use Rattle.nearest.proofs.Draining.{distance_few, first_word, drained_found, drained_denied}

-- ---- the ways out of the search

module _ {w : Words} {first goal : ℕ} {work₀ : List ℕ} (h : Asked w first goal work₀) {work : List ℕ} where
  -- what the definition comes to is answered, and its chain is written
  finds : {word : ℕ} → Sought w first goal work₀ work word → {chain chain' : List ℕ} (searched : Searched) → search_of w first goal (length chain) ≡ searched
      → chain' ≡ written searched.chain chain → Found w first goal work₀ chain (record { number = searched.number; value = searched.value }) work chain'
  finds s {chain} {chain'} searched is wrote = record {
    numbered = sym (ap (λ (r : Searched). r.number) is);
    valued = sym (ap (λ (r : Searched). r.value) is);
    wrote = wrote ∙ sym (ap (λ (r : Searched). written r.chain chain) is);
    same_length = s.drained.kept.same_length;
    beyond = s.drained.kept.held.beyond;
  }

  -- no chain
  found_none : {chain : List ℕ} → Sought w first goal work₀ work 0 → Found w first goal work₀ chain (record { number = 14; value = NONE }) work chain
  found_none {chain} s =
      finds s (record { number = 14; value = NONE; work = cleared_words (node_capacity w); chain = [] })
      (ap (chain_answer (node_capacity w) (length chain))
      (nearest_by_words h.checked (node_capacity w) first goal ∙ drained_denied h s.drained (sym s.is_word)))
      refl

  pub found_refused : {chain : List ℕ} {refusal : Refusal} (left : Option ℕ) → Sought w first goal work₀ work (word_of left) → Err refusal ≡ ok_or left Unreachable
      → Found w first goal work₀ chain (answer_of (Err refusal)) work chain
  found_refused {chain} {refusal} None s is =
      subst (λ (r : Refusal). Found w first goal work₀ chain (answer_of (Err r)) work chain) (same is) (found_none s)
    where
      same : ◌≡◌ {A = Result ℕ Refusal} (Err refusal) (Err Unreachable) → Unreachable ≡ refusal
      same q = cc
  found_refused (Some left) s is = cc

  -- a chain of as many edges
  module _ {left : ℕ} (s : Sought w first goal work₀ work (suc left)) where
    abbrev way : List ℕ
    way = way_in w work left first

    has_word : get_or work first 0 ≡ suc left
    has_word = sym s.is_word

    way_long : length way ≡ left
    way_long = length_downhill (list_of Outgoing (lists w)) (end_at w.incoming) (dist_in (node_capacity w) work) left first

    found : nearest (list_of Outgoing (lists w)) (end_of Incoming (lists w)) (node_capacity w) first goal ≡ some way
    found = nearest_by_words h.checked (node_capacity w) first goal ∙ drained_found h s.drained left has_word

    far : Distance (list_of Outgoing (lists w)) (end_at w.incoming) goal first left
    far = word_distance (consistent h.checked) s.drained.kept.held.search first left (first_word h s.drained ∙ has_word)

    pub way_forward : {chain : List ℕ} → left ≤ length chain → Forward w work goal left first chain
    way_forward fits = record {
      checked = h.checked;
      labelled = search_labelled (consistent h.checked) s.drained.kept.held.search first left (first_word h s.drained ∙ has_word);
      far = far;
      start_live = h.first_live;
      few = let short = distance_few h first left (lot_within h.checked first h.first_live) far in let f = few h.checked in omega arith;
      words_long = let l = s.drained.kept.long in omega arith;
      fits = fits;
    }

    -- the chain's slice is too short
    pub found_short : {chain : List ℕ} → length chain < left → Found w first goal work₀ chain (record { number = 2; value = left }) work chain
    found_short {chain} short =
        subst (λ (v : ℕ). Found w first goal work₀ chain (record { number = 2; value = v }) work chain) way_long
        (finds s (record { number = 2; value = length way; work = cleared_words (node_capacity w); chain = [] })
        (ap (chain_answer (node_capacity w) (length chain)) found ∙ chain_short (node_capacity w) (length chain) way (let l = way_long in omega arith)) refl)

    -- done
    pub found_done : {chain chain' : List ℕ} → left ≤ length chain → chain' ≡ written way chain
        → Found w first goal work₀ chain (record { number = 0; value = left }) work chain'
    found_done {chain} {chain'} fits wrote =
        subst (λ (v : ℕ). Found w first goal work₀ chain (record { number = 0; value = v }) work chain') way_long
        (finds s (record { number = 0; value = length way; work = cleared_words (node_capacity w); chain = way })
        (ap (chain_answer (node_capacity w) (length chain)) found ∙ chain_fits (node_capacity w) (length chain) way (let l = way_long in omega arith)) wrote)

-- ---- the borrowed words clear

module _ {w : Words} {first goal : ℕ} {work chain : List ℕ} (h : Asked w first goal work) {r : Answer} {work' chain' : List ℕ}
    (f : Found w first goal work chain r work' chain') where
  pub clear_fits : 2 * node_capacity w ≤ length work'
  clear_fits = let l = h.long in let s = f.same_length in omega arith

  -- words past them are as before
  borrowed : cleared (2 * node_capacity w) work' ≡ written (cleared_words (node_capacity w)) work
  borrowed =
      ap (λ (l : List ℕ). replicate (2 * node_capacity w) 0 ++ l)
      (f.beyond ∙ ap (λ (n : ℕ). drop n work) (sym (length-replicate (2 * node_capacity w) 0)))

  pub answered : {exit : List ℕ} → exit ≡ cleared (2 * node_capacity w) work' → Answered w first goal work chain r exit chain'
  answered is = record {
    numbered = f.numbered;
    valued = f.valued;
    wrote = f.wrote;
    worked = is ∙ borrowed ∙ ap (λ (l : List ℕ). written l work)
        (sym (chain_clears (node_capacity w) (length chain) (nearest (list_of Outgoing (lists w)) (end_of Incoming (lists w)) (node_capacity w) first goal)));
  }
