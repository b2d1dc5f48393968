-- A direction compacted, call by call: the ends moved down can be renumbered, and the base can be rebuilt on them.
use Rattle.std.specs.Prelude.{ℕ, ◌<◌, ◌≤◌, ◌≡◌, Bool, false, true, List, get_or}
use Rattle.plain.specs.Library.{◌∙◌, ap, subst, sym, zero-add, arith}
use Rattle.plain.specs.Reads.{live_count, live_slots}
use Rattle.plain.proofs.Laws.ListLaws.{count_length}
use Rattle.plain.proofs.Laws.Rank.{live_slot_live}
use Rattle.liveness.specs.Laws.Flags.{length_flags}
use Rattle.liveness.specs.Flags.{live_flags}
use Rattle.shape.specs.Columns.{end_at}
use Rattle.shape.specs.Index.{Rewritten}
use Rattle.compact.specs.Bases.{Compactable, Rebuildable}
use Rattle.survivors.specs.Slots.{Translatable, kept_word, translated_word}

module _ {ws : List ℕ} {ce cn : ℕ} {live : List ℕ} {bound : ℕ} {node_map : List ℕ} {n m : ℕ} {entries : List ℕ}
    (pre : Compactable ws ce cn live bound node_map n m entries) where
  abbrev flags : List Bool
  flags = live_flags live bound

  -- there are no more live edges than slots
  few : m ≤ bound
  few = omega (arith, pre.counted, count_length (λ f. f) flags, length_flags live bound)

  module _ {a : List ℕ} (r : Rewritten ws a 0 (live_count flags) (kept_word ws flags)) where
    -- a live edge's end, moved down
    moved_end : (i : ℕ) → i < m → get_or a i 0 ≡ end_at ws (get_or (live_slots flags) i 0)
    moved_end i h = ap (λ (z : ℕ). get_or a z 0) (sym (zero-add i)) ∙ r.within i (omega (arith, pre.counted))

    slot_live : (i : ℕ) → i < m → get_or flags (get_or (live_slots flags) i 0) false ≡ true
    slot_live i h = live_slot_live flags i 0 (omega (arith, pre.counted))

    pub translatable : Translatable a m node_map
    translatable = record {
      room = omega (arith, few, pre.slots_fit, pre.sized.room, r.long);
      below = λ i h. rw (moved_end i h) (pre.ends_there (get_or (live_slots flags) i 0) (slot_live i h));
    }

    pub rebuildable : {b : List ℕ} → Rewritten a b 0 m (translated_word a node_map) → Rebuildable b ce cn n m entries
    rebuildable {b} t = record {
      compressible = record {
        sized = record { edges_within = pre.sized.edges_within; nodes_within = pre.sized.nodes_within; room = rw (t.long ∙ r.long) pre.sized.room };
        nodes_fit = pre.nodes_fit;
        edges_fit = omega (arith, few, pre.slots_fit);
        ends_below = λ i h. subst (λ (z : ℕ). z < n) (sym (new_end t i h)) (pre.ends_below (get_or (live_slots flags) i 0) (slot_live i h));
      };
      there = pre.there;
    }
      where
        new_end : {b : List ℕ} → Rewritten a b 0 m (translated_word a node_map) → (i : ℕ) → i < m → get_or b i 0 ≡ get_or node_map (end_at ws (get_or (live_slots flags) i 0)) 0
        new_end {b} t i h = ap (λ (z : ℕ). get_or b z 0) (sym (zero-add i)) ∙ t.within i h ∙ ap (λ (z : ℕ). get_or node_map z 0) (moved_end i h)
