-- What image writing and the closing calls come to on every checked store: the image is that of the survivors of its plain lists, and a further compaction finds nothing
-- to do.
use Rattle.std.specs.Prelude.{ℕ, ◌≡◌, Bool, true, ◌⊎◌, List, length, take, drop, replicate}
use Rattle.plain.specs.Library.{sym, ap, ap₂, subst, ◌∙◌, ⊎_elim, none, arith}
use Rattle.std.proofs.Math.Seq.{take-append_seam}
use Rattle.plain.specs.Lists.{written, from}
use Rattle.plain.specs.Step.{State}
use Rattle.plain.specs.Reads.{Reply}
use Rattle.plain.specs.Compaction.{renumbering, survivors}
use Rattle.plain.specs.Image.{image}
use Rattle.plain.specs.Calls.{Compacted, compacting, judged_reply}
use Rattle.plain.specs.WellFormed.{Sound}
use Rattle.plain.proofs.Laws.Compacting.{survivors_sound}
use Rattle.plain.proofs.Laws.Renumberings.{renumbering_all_live}
use Rattle.plain.proofs.Laws.Histories.{compaction_state, closing_compaction_number, survivors_compacted, write_number, write_whole}
use Rattle.shape.specs.Shape.{Words, capacities, shape_of, lists}
use Rattle.shape.specs.Checked.{Checked}
use Rattle.shape.specs.Rules.{broken}
use Rattle.shape.proofs.Laws.Judging.{checked_sound}
use Rattle.shape.specs.Steps.{state_of}
use Rattle.shape.proofs.Laws.Reading.{plain_node_flags, plain_edge_flags}
use Rattle.compact.specs.Calls.{Canonical, compacting_of}
use Rattle.image_write.specs.Calls.{written_image}
use Rattle.histories.specs.Closing.{Compacting, Writing, image_in, Closing, NothingMore, compaction_of, writing_of, written_of, Compacts, Writes, Images, Closes}
use Rattle.histories.proofs.Laws.Following.{checked_within, compacting_is}

-- the map of slots that are all live
identity_map : (flags : List Bool) (n : ℕ) → flags ≡ replicate n true → renumbering flags ≡ from 0 n
identity_map flags n all_live = ap renumbering all_live ∙ renumbering_all_live 0 n

-- ---- one compaction

module _ {w : Words} (k : Checked w) (a : Compacting w) where
  is_defined : compacting_of w (length a.node_map) (length a.edge_map) (length a.work) ≡ compaction_of (state_of (shape_of w)) a
  is_defined = compacting_is k (length a.node_map) (length a.edge_map) (length a.work)

  number_is : a.number ≡ (compaction_of (state_of (shape_of w)) a).number
  number_is = a.comes_to.numbered ∙ ap (λ (r : Compacted). r.number) is_defined

  -- a compaction of any checked store
  checked_compacts : Compacts (state_of (shape_of w)) a
  checked_compacts = record {
    numbered = number_is;
    valued = a.comes_to.valued ∙ ap (λ (r : Compacted). r.value) is_defined;
    node_map = a.comes_to.node_mapped ∙ ap (λ (r : Compacted). written r.node_map a.node_map) is_defined;
    edge_map = a.comes_to.edge_mapped ∙ ap (λ (r : Compacted). written r.edge_map a.edge_map) is_defined;
    work = a.comes_to.worked ∙ ap (λ (r : Compacted). written r.work a.work) is_defined;
    leaves = a.comes_to.state ∙ ap (λ (r : Compacted). r.after) is_defined;
    zero_or_two = subst (λ (n : ℕ). (n ≡ 0) ⊎ (n ≡ 2)) (sym number_is)
        (closing_compaction_number (capacities w) (checked_within k) (state_of (shape_of w)) k.walks (length a.node_map) (length a.edge_map) (length a.work));
  }

  whole : a.number ≡ 0 → compaction_of (state_of (shape_of w)) a ≡ compacting none (state_of (shape_of w))
  whole done = compaction_state (state_of (shape_of w)) (length a.node_map) (length a.edge_map) (length a.work) (sym number_is ∙ done)

  -- on a store that compaction left there is nothing to do
  nothing_more : Canonical w → NothingMore a
  nothing_more canonical = record {
    zero_or_two = checked_compacts.zero_or_two;
    unchanged = ⊎_elim (λ q. a.comes_to.again q canonical) (λ q. a.comes_to.refused_keeps (λ z. let e = sym z ∙ q in omega arith))
        checked_compacts.zero_or_two;
    node_map = λ done. checked_compacts.node_map ∙ ap (λ (r : Compacted). written r.node_map a.node_map) (whole done)
        ∙ ap (λ (l : List ℕ). written l a.node_map) (identity_map _ w.counts.nodes.bound (plain_node_flags w ∙ canonical.nodes.words_set.flags));
    edge_map = λ done. checked_compacts.edge_map ∙ ap (λ (r : Compacted). written r.edge_map a.edge_map) (whole done)
        ∙ ap (λ (l : List ℕ). written l a.edge_map) (identity_map _ w.counts.edges.bound (plain_edge_flags w ∙ canonical.edges.words_set.flags));
  }

-- ---- one image writing, of any checked store

module _ {w : Words} (k : Checked w) (a : Writing w) where
  abbrev bytes : List ℕ
  bytes = image (survivors (lists w))

  reply_is : judged_reply (broken w) (written_image (length a.work) w (length a.slice)) ≡ written_of (lists w) a
  reply_is = ap (λ (rule : ℕ). judged_reply rule (written_image (length a.work) w (length a.slice))) (checked_sound w k)

  image_number : a.answer.number ≡ (written_of (lists w) a).number
  image_number = a.comes_to.replied.number ∙ ap (λ (r : Reply). r.number) reply_is

  image_writes : Writes (written_of (lists w) a) a
  image_writes = record {
    numbered = image_number;
    valued = a.comes_to.replied.value ∙ ap (λ (r : Reply). r.value) reply_is;
    bytes = a.comes_to.replied.writes ∙ ap (λ (r : Reply). written r.words a.slice) reply_is;
    zero_or_two = subst (λ (n : ℕ). (n ≡ 0) ⊎ (n ≡ 2)) (sym image_number) (write_number (lists w) (length a.work) (length a.slice));
  }

  module _ (done : a.answer.number ≡ 0) where
    reply_whole : written_of (lists w) a ≡ record { number = 0; value = length bytes; words = bytes }
    reply_whole = write_whole (lists w) (length a.work) (length a.slice) (sym image_number ∙ done)

    value_length : a.answer.value ≡ length bytes
    value_length = image_writes.valued ∙ ap (λ (r : Reply). r.value) reply_whole

    image_is : image_in a ≡ bytes
    image_is =
        ap₂ {C = List ℕ} (λ (n : ℕ) (l : List ℕ). take n l) value_length
        (image_writes.bytes ∙ ap (λ (r : Reply). written r.words a.slice) reply_whole)
        ∙ take-append_seam bytes (drop (length bytes) a.slice)

  pub checked_image : Images (lists w) a
  checked_image = record {
    writes = image_writes;
    imaged = image_is;
    image_length = λ done. value_length done ∙ sym (ap length (image_is done));
  }

-- ---- compaction and image writing

module _ {w : Words} (k : Checked w) (c : Closing w) where
  module _ (done : c.compacting.number ≡ 0) where
    -- the writing is that of what the compaction left
    after_image : Images (lists c.compacting.after) c.writing
    after_image = checked_image (c.compacting.comes_to.checked done) c.writing

    closing_writes : Writes (writing_of (state_of (shape_of w)) c) c.writing
    closing_writes =
        subst (λ (s : State). Writes (written_of s.lists c.writing) c.writing) (checked_compacts k c.compacting).leaves after_image.writes

    -- which has the same survivors
    left_same : survivors (lists c.compacting.after) ≡ survivors (lists w)
    left_same =
        ap (λ (s : State). survivors s.lists) ((checked_compacts k c.compacting).leaves ∙ ap (λ (r : Compacted). r.after) (whole k c.compacting done))
        ∙ survivors_compacted (capacities w) (checked_within k) (state_of (shape_of w)) k.walks 0 0 0

  -- closing calls on any checked store
  pub checked_closes : Closes (state_of (shape_of w)) c
  checked_closes = record {
    compacts = checked_compacts k c.compacting;
    writes = closing_writes;
    imaged = λ done. (after_image done.compacts).imaged done.writes ∙ ap image (left_same done.compacts);
    image_length = λ done. (after_image done.compacts).image_length done.writes;
    again = λ done a. nothing_more (c.compacting.comes_to.checked done) a (c.compacting.comes_to.canonical done);
  }

-- what survives of a checked store has an image that tells it
pub left_sound : {w : Words} → Checked w → Sound (survivors (lists w))
left_sound {w} k =
    let few = checked_within k in
    survivors_sound (capacities w) (lists w) k.walks few.nodes few.edges
