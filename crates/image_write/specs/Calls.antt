-- What writing an image comes to, on any store and any lent slices.
use Rattle.std.specs.Prelude.{ℕ, ◌*◌, ◌≡◌, List, length, drop}
use Rattle.plain.specs.declared.Answer.{Answer}
use Rattle.plain.specs.Reads.{Reply, live_edges}
use Rattle.plain.specs.Calls.{write_image}
use Rattle.shape.specs.Shape.{Words, lists}
use Rattle.view.specs.Calls.{Replied}

-- the image of a store, into a slice of a length, by the length of the work slice
abbrev pub written_image : ℕ → Words → ℕ → Reply
written_image work w room = write_image (lists w) work room

-- The work slice of an image writing, of which `needed` words may be used. "It needs a work slice of twice the live transfer count .. left free afterwards, as the
-- contract will say": where the image is written, the first `needed` words are left to the program and may hold anything; nothing else is.
pub record WorkFree (needed : ℕ) (work : List ℕ) (answer : Answer) (work' : List ℕ) : Type 0 where
  pub long : length work' ≡ length work
  -- every word past those is as it was
  pub rest : drop needed work' ≡ drop needed work
  -- and where the call refuses, every word is
  pub refused_keeps : (answer.number ≡ 0 → ⊥) → work' ≡ work

-- Writing the image of a store, with a work slice and a slice for the bytes: what the slices hold as the call begins and as it ends. The store is lent by `&`, so it
-- "keeps every word". A refusal writes nothing, and bytes past the image keep their content.
pub record WriteOf (w : Words) (work bytes : List ℕ) (answer : Answer) (work' bytes' : List ℕ) : Type 0 where
  pub replied : Replied w (written_image (length work)) bytes answer bytes'
  pub work_free : WorkFree (2 * live_edges (lists w)) work answer work'
