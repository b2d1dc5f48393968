-- What the functions of the search backwards ask and promise: one lot looked at, an in-list gone through, the queue drained, and the search whole.
use Rattle.std.specs.Prelude.{ℕ, suc, ◌+◌, ◌*◌, ◌≤◌, ◌<◌, ◌≡◌, true, ◌⊎◌, List, [], length, get_or, drop, Option, None, Some}
use Rattle.plain.specs.declared.TraversalDirection.TheVariants.{Incoming}
use Rattle.plain.specs.Numbers.{LIMIT}
use Rattle.plain.specs.Lists.{member}
use Rattle.plain.specs.Plain.{list_of}
use Rattle.shape.specs.Columns.{end_at}
use Rattle.shape.specs.Shape.{Words, node_capacity, lists}
use Rattle.shape.specs.Checked.{Checked}
use Rattle.nearest.specs.Search.{Consistent}
use Rattle.nearest.specs.Frontier.{Frontier, frontier, Held, Standing}
use Rattle.nearest.specs.Stores.{network, Asked}

-- ---- one lot looked at

-- What it takes: the lot has a word, and a place in the queue if it is new.
pub record Seeable (n x tail : ℕ) (work : List ℕ) : Type 0 where
  pub low : x < n
  pub long : 2 * n ≤ length work
  pub room : get_or work x 0 ≡ 0 → tail < n

-- ---- an in-list gone through

-- A search in some network, in which these edges of the in-list of the lot at the queue's head are still to be gone through.
pub record Expandable (n word : ℕ) (source : ℕ → ℕ) (es : List ℕ) (f : Frontier) : Type 0 where
  pub target : ℕ → ℕ
  pub out : ℕ → List ℕ
  pub ins : ℕ → List ℕ
  pub consistent : Consistent (record { source = source; target = target; out = out; ins = ins })
  pub goal : ℕ
  pub head : ℕ
  pub lot : ℕ
  pub rest : List ℕ
  pub past : List ℕ
  pub held : Held (record { source = source; target = target; out = out; ins = ins }) n goal head rest past f
  pub standing : Standing n head lot word f
  pub listed : (e : ℕ) → member e es ≡ true → member e (ins lot) ≡ true
  pub low : (e : ℕ) → member e es ≡ true → source e < n

-- What it takes, of a lot of a checked store: its whole in-list.
pub record ExpandLot (w : Words) (lot tail : ℕ) (work : List ℕ) : Type 0 where
  pub checked : Checked w
  pub lot_below : lot < w.counts.nodes.bound
  pub able : Expandable (node_capacity w) (get_or work lot 0 + 1) (end_at w.outgoing) (list_of Incoming (lists w) lot) (frontier tail work)
  pub lot_low : lot < length work
  pub word_low : get_or work lot 0 ≤ LIMIT

-- ---- the queue drained

-- What it starts from: the goal alone has been seen.
pub record Drain (w : Words) (first goal : ℕ) (work : List ℕ) : Type 0 where
  pub asked : Asked w first goal work
  pub few : node_capacity w ≤ LIMIT
  pub first_low : first < node_capacity w
  pub start : Held (network w) (node_capacity w) goal 0 (drop (2 * node_capacity w) work) [] (frontier 1 work)

-- What it keeps: of `tail` lots seen, `head` are finished; `work₀` is what the slice held before.
pub record Draining (w : Words) (goal : ℕ) (work₀ work : List ℕ) (head tail : ℕ) : Type 0 where
  pub head_within : head ≤ tail
  pub tail_within : tail ≤ node_capacity w
  pub long : 2 * node_capacity w ≤ length work
  pub same_length : length work ≡ length work₀
  pub held : Held (network w) (node_capacity w) goal head (drop (2 * node_capacity w) work₀) [] (frontier tail work)

-- What it comes to: the first lot has been seen, or every lot that was seen is finished.
pub record Drained (w : Words) (first goal : ℕ) (work₀ work : List ℕ) : Type 0 where
  pub head : ℕ
  pub tail : ℕ
  pub kept : Draining w goal work₀ work head tail
  pub over : (get_or work first 0 ≡ 0 → ⊥) ⊎ (tail ≤ head)

-- ---- the search whole

-- What it takes to put the goal into the queue: the words of the lots are clear.
pub record Seedable (n goal : ℕ) (work : List ℕ) : Type 0 where
  pub low : goal < n
  pub long : 2 * n ≤ length work
  pub clear : (x : ℕ) → x < n → get_or work x 0 ≡ 0

-- the word of a lot by its distance: 0 where it has none
abbrev pub word_of : Option ℕ → ℕ
word_of None = 0
word_of (Some far) = suc far

-- What the search comes to, with the word of the first lot.
pub record Sought (w : Words) (first goal : ℕ) (work₀ work : List ℕ) (word : ℕ) : Type 0 where
  pub is_word : word ≡ get_or work first 0
  pub drained : Drained w first goal work₀ work
