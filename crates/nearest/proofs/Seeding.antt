-- Where the search starts: the words of the lots clear, but for the goal's, and the goal alone in the queue. And what it comes to.
use Rattle.std.specs.Prelude.{ℕ, ◌+◌, ◌*◌, ◌≤◌, ◌<◌, ◌≡◌, refl, List, [], ◌∷◌, ◌++◌, length, get_or, set, take, drop, replicate}
use Rattle.std.proofs.lemmas.List.{length-take-le}
use Rattle.std.proofs.lemmas.Slice.{drop-append-drop}
use Rattle.plain.specs.Library.{sym, ap, ◌∙◌, subst, ⊎_elim, length-set, length-drop, length-append, length-replicate, get_or-append, get_or-eq_default, arith}
use lib.ListN.{get_or-replicate}
use lib.Seq.{take-set-lt, take-set-le, drop-set-lt, drop-set-add, take-suc-set, get_or-take}
use Rattle.plain.proofs.Laws.Booleans.{below_or_not}
use Rattle.shape.specs.Shape.{Words, node_capacity}
use Rattle.nearest.specs.Search.{Network, Search}
use Rattle.nearest.specs.Frontier.{frontier, dist_in, queue_in, Held}
use Rattle.nearest.specs.Stores.{network, Asked}
use Rattle.nearest.specs.Backwards.{Drain, Drained, Seedable, Sought}
use Rattle.nearest.proofs.SearchLaws.{search_start}
use Rattle.nearest.proofs.Stores.{few, lot_within}

-- ---- the goal put into the queue

module _ {n goal : ℕ} {work : List ℕ} (h : Seedable n goal work) where
  zeros : (x : ℕ) → get_or (take n work) x 0 ≡ 0
  zeros x =
      ⊎_elim (λ low. get_or-take n work x 0 low ∙ h.clear x low)
      (λ high. get_or-eq_default (take n work) 0 (let l = length-take-le n work (let k = h.long in omega arith) in omega arith))
      (below_or_not x n)

  dist_after : dist_in n (set (set work goal 1) n goal) ≡ set (take n work) goal 1
  dist_after = take-set-le n (set work goal 1) n goal (omega arith) ∙ take-set-lt n work goal 1 h.low

  queue_after : queue_in n 1 (set (set work goal 1) n goal) ≡ goal ∷ []
  queue_after =
      let plus_none : n ≡ n + 0 = omega arith in
      ap (take 1)
      (ap (λ (k : ℕ). drop n (set (set work goal 1) k goal)) plus_none ∙ drop-set-add n (set work goal 1) 0 goal
      ∙ ap (λ (l : List ℕ). set l 0 goal) (drop-set-lt n work goal 1 h.low))
      ∙ take-suc-set (drop n work) 0 goal (let l = length-drop n work in let k = h.long in let g = h.low in omega arith)

  seeded : (t : Network) → Held t n goal 0 (drop (2 * n) (set (set work goal 1) n goal)) [] (frontier 1 (set (set work goal 1) n goal))
  seeded t = record {
    long = let a = length-set (set work goal 1) n goal in let b = length-set work goal 1 in let l = h.long in omega arith;
    within = let g = h.low in omega arith;
    beyond = refl;
    search = subst (λ (d : List ℕ). Search t goal d (queue_in n 1 (set (set work goal 1) n goal)) 0 []) (sym dist_after)
        (subst (λ (o : List ℕ). Search t goal (set (take n work) goal 1) o 0 []) (sym queue_after)
        (search_start t goal (take n work) zeros (let l = length-take-le n work (let k = h.long in omega arith) in let g = h.low in omega arith)));
  }

  -- words past those that are borrowed are as before
  seeded_beyond : drop (2 * n) (set (set work goal 1) n goal) ≡ drop (2 * n) work
  seeded_beyond = drop-set-lt (2 * n) (set work goal 1) n goal (let g = h.low in omega arith) ∙ drop-set-lt (2 * n) work goal 1 (let g = h.low in omega arith)

-- ---- words cleared

-- the first n words clear, the others as before
abbrev pub cleared : ℕ → List ℕ → List ℕ
cleared n work = replicate n 0 ++ drop n work

-- what `fill` leaves
pub filled : (n : ℕ) (work : List ℕ) {front : List ℕ} → n ≤ length work → front ≡ replicate (length (take n work)) 0 → front ++ drop n work ≡ cleared n work
filled n work h is = ap (λ (l : List ℕ). l ++ drop n work) (is ∙ ap (λ (k : ℕ). replicate k 0) (length-take-le n work h))

cleared_long : (n : ℕ) (work : List ℕ) → n ≤ length work → length (cleared n work) ≡ length work
cleared_long n work h = length-append (replicate n 0) (drop n work) ∙ omega (arith, length-replicate {A = ℕ} n 0, length-drop n work)

cleared_word : (n : ℕ) (work : List ℕ) (x : ℕ) → x < n → get_or (cleared n work) x 0 ≡ 0
cleared_word n work x low =
    get_or-append (replicate n 0) (drop n work) 0 x (omega (arith, length-replicate {A = ℕ} n 0)) ∙ get_or-replicate n x 0 0 low

-- ---- the search whole

module _ {w : Words} {first goal : ℕ} {work₀ : List ℕ} (h : Asked w first goal work₀) where
  enough : node_capacity w ≤ length work₀
  enough = let l = h.long in omega arith

  -- the words of the lots are clear
  clear_seeds : Seedable (node_capacity w) goal (cleared (node_capacity w) work₀)
  clear_seeds = record {
    low = lot_within h.checked goal h.goal_live;
    long = let l = h.long in let s = cleared_long (node_capacity w) work₀ enough in omega arith;
    clear = cleared_word (node_capacity w) work₀;
  }

  pub filled_seeds : {work : List ℕ} → work ≡ cleared (node_capacity w) work₀ → Seedable (node_capacity w) goal work
  filled_seeds is = subst (λ (l : List ℕ). Seedable (node_capacity w) goal l) (sym is) clear_seeds

  module _ {seed : List ℕ} (is : seed ≡ set (set (cleared (node_capacity w) work₀) goal 1) (node_capacity w) goal) where
    seed_long : length seed ≡ length work₀
    seed_long =
        ap (λ (l : List ℕ). length l) is
        ∙ length-set (set (cleared (node_capacity w) work₀) goal 1) (node_capacity w) goal
        ∙ length-set (cleared (node_capacity w) work₀) goal 1
        ∙ cleared_long (node_capacity w) work₀ enough

    seed_beyond : drop (2 * node_capacity w) seed ≡ drop (2 * node_capacity w) work₀
    seed_beyond =
        ap (λ (l : List ℕ). drop (2 * node_capacity w) l) is
        ∙ seeded_beyond clear_seeds
        ∙ drop-append-drop (node_capacity w) work₀ (replicate (node_capacity w) 0) (2 * node_capacity w) (omega arith) (length-replicate (node_capacity w) 0)

    pub seed_drains : Drain w first goal seed
    seed_drains = record {
      asked = record { checked = h.checked; first_live = h.first_live; goal_live = h.goal_live; long = let l = h.long in let s = seed_long in omega arith };
      few = few h.checked;
      first_low = lot_within h.checked first h.first_live;
      start = subst (λ (l : List ℕ). Held (network w) (node_capacity w) goal 0 (drop (2 * node_capacity w) l) [] (frontier 1 l)) (sym is) (seeded clear_seeds (network w));
    }

    -- what it comes to, of the words before
    pub sought : {work : List ℕ} {word : ℕ} → Drained w first goal seed work → get_or work first 0 ≡ word → Sought w first goal work₀ work word
    sought {work} d is_word = record {
      is_word = sym is_word;
      drained = record {
        head = d.head;
        tail = d.tail;
        kept = record {
          head_within = d.kept.head_within;
          tail_within = d.kept.tail_within;
          long = d.kept.long;
          same_length = d.kept.same_length ∙ seed_long;
          held = subst (λ (rest : List ℕ). Held (network w) (node_capacity w) goal d.head rest [] (frontier d.tail work)) seed_beyond d.kept.held;
        };
        over = d.over;
      };
    }
