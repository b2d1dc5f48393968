-- The closing calls: a compaction, and the writing of the image of what it left. "The closing compactions and image writings are meant where they answer 0; the
-- only other number they can give is 2."
use Rattle.std.specs.Prelude.{ℕ, ◌≡◌, ◌⊎◌, List, length, take}
use Rattle.plain.specs.declared.Answer.{Answer}
use Rattle.plain.specs.Lists.{written, from}
use Rattle.plain.specs.Plain.{Plain}
use Rattle.plain.specs.Step.{State}
use Rattle.plain.specs.Reads.{Reply}
use Rattle.plain.specs.Compaction.{survivors}
use Rattle.plain.specs.Image.{image}
use Rattle.plain.specs.Calls.{Compacted, compaction, write_image}
use Rattle.plain.specs.History.{closing_image}
use Rattle.shape.specs.Shape.{Words, shape_of}
use Rattle.shape.specs.Steps.{state_of}
use Rattle.compact.specs.Calls.{CompactOf}
use Rattle.image_write.specs.Calls.{WriteOf}

-- A compaction of store w, by the record of its entry's contract: the three slices lent, the answer, the store and the slices then.
pub record Compacting (w : Words) : Type 0 where
  pub node_map : List ℕ
  pub edge_map : List ℕ
  pub work : List ℕ
  pub number : ℕ
  pub value : ℕ
  pub after : Words
  pub node_mapped : List ℕ
  pub edge_mapped : List ℕ
  pub worked : List ℕ
  pub comes_to : CompactOf w node_map edge_map work number value after node_mapped edge_mapped worked

-- The writing of store w's image, by the record of its entry's contract: the work slice and the slice for the bytes, the answer, the slices then.
pub record Writing (w : Words) : Type 0 where
  pub work : List ℕ
  pub slice : List ℕ
  pub answer : Answer
  pub worked : List ℕ
  pub exit : List ℕ
  pub comes_to : WriteOf w work slice answer worked exit

-- the image: as many bytes of the slice as the value says
abbrev pub image_in : {w : Words} → Writing w → List ℕ
image_in a = take a.answer.value a.exit

pub record Closing (w : Words) : Type 0 where
  pub compacting : Compacting w
  pub writing : Writing compacting.after

-- both answered 0
pub record Done {w : Words} (c : Closing w) : Type 0 where
  pub compacts : c.compacting.number ≡ 0
  pub writes : c.writing.answer.number ≡ 0

abbrev pub image_of : {w : Words} → Closing w → List ℕ
image_of c = image_in c.writing

-- Compacting again: no field is changed, for not a word and not a count is, and the maps are identity maps. "A field is a count of the record or a word of the
-- store's own memory .. whose content can change an answer of the check or of a read of the store; an identity map holds i at each i below the bound."
pub record NothingMore {w : Words} (a : Compacting w) : Type 0 where
  pub zero_or_two : (a.number ≡ 0) ⊎ (a.number ≡ 2)
  pub unchanged : a.after ≡ w
  pub node_map : a.number ≡ 0 → a.node_mapped ≡ written (from 0 w.counts.nodes.bound) a.node_map
  pub edge_map : a.number ≡ 0 → a.edge_mapped ≡ written (from 0 w.counts.edges.bound) a.edge_map

-- what the definitions say of a compaction of a store of state s, and of the image writing after it, by the lengths of what is lent
abbrev pub compaction_of : State → {w : Words} → Compacting w → Compacted
compaction_of s a = compaction s (length a.node_map) (length a.edge_map) (length a.work)

abbrev pub writing_of : State → {w : Words} → Closing w → Reply
writing_of s c =
    closing_image s (length c.compacting.node_map) (length c.compacting.edge_map) (length c.compacting.work) (length c.writing.work)
    (length c.writing.slice)

-- and of an image writing alone, of a store of plain lists p, compact or not
abbrev pub written_of : Plain → {w : Words} → Writing w → Reply
written_of p a = write_image p (length a.work) (length a.slice)

-- A compaction comes to what its definition says.
pub record Compacts (s : State) {w : Words} (a : Compacting w) : Type 0 where
  pub numbered : a.number ≡ (compaction_of s a).number
  pub valued : a.value ≡ (compaction_of s a).value
  pub node_map : a.node_mapped ≡ written (compaction_of s a).node_map a.node_map
  pub edge_map : a.edge_mapped ≡ written (compaction_of s a).edge_map a.edge_map
  pub work : a.worked ≡ written (compaction_of s a).work a.work
  pub leaves : state_of (shape_of a.after) ≡ (compaction_of s a).after
  -- "the only other number they can give is 2"
  pub zero_or_two : (a.number ≡ 0) ⊎ (a.number ≡ 2)

-- An image writing comes to a reply, that of its definition.
pub record Writes (reply : Reply) {w : Words} (a : Writing w) : Type 0 where
  pub numbered : a.answer.number ≡ reply.number
  pub valued : a.answer.value ≡ reply.value
  pub bytes : a.exit ≡ written reply.words a.slice
  -- "the only other number they can give is 2"
  pub zero_or_two : (a.answer.number ≡ 0) ⊎ (a.answer.number ≡ 2)

-- What an image writing comes to on a store of plain lists p, compact or not: "Writing an image now answers for every store".
pub record Images (p : Plain) {w : Words} (a : Writing w) : Type 0 where
  pub writes : Writes (written_of p a) a
  -- the image is that of the survivors, and the value is its length
  pub imaged : a.answer.number ≡ 0 → image_in a ≡ image (survivors p)
  pub image_length : a.answer.number ≡ 0 → a.answer.value ≡ length (image_in a)

-- What closing calls come to on a store of state s.
pub record Closes (s : State) {w : Words} (c : Closing w) : Type 0 where
  pub compacts : Compacts s c.compacting
  pub writes : c.compacting.number ≡ 0 → Writes (writing_of s c) c.writing
  -- the image is that of the survivors, and the value is its length
  pub imaged : Done c → image_of c ≡ image (survivors s.lists)
  pub image_length : Done c → c.writing.answer.value ≡ length (image_of c)
  -- compacting again
  pub again : c.compacting.number ≡ 0 → (a : Compacting c.compacting.after) → NothingMore a
