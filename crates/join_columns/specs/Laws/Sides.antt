-- One direction of two books, call by call: the ends of both are written, then the lists of both, and the base is built on them.
use Rattle.std.specs.Prelude.{ℕ, ◌*◌, ◌+◌, ◌<◌, ◌≤◌, ◌≡◌, List, ◌++◌, drop, get_or, length}
use Rattle.plain.specs.Library.{◌∙◌, ap, subst, sym, get_or-append, length-append, length-map, arith}
use Rattle.plain.specs.declared.TraversalDirection.{TraversalDirection}
use Rattle.plain.specs.Lists.{written}
use Rattle.plain.specs.Numbers.{NONE}
use Rattle.plain.specs.Reads.{live_slots}
use Rattle.plain.proofs.Laws.ListLaws.{member_source}
use Rattle.plain.proofs.Laws.Rank.{member_live_slots}
use Rattle.liveness.specs.Flags.{live_flags}
use Rattle.shape.specs.Chains.{In}
use Rattle.shape.specs.Shape.{Words}
use Rattle.shape.specs.Index.{Rewritten, before, ends_of}
use Rattle.adjacency.specs.Index.{Compressible}
use Rattle.survivors.specs.Lists.{ListsFit}
use Rattle.survivors.specs.Slots.{Translatable, live_words_of, translated_word}
use Rattle.join_columns.specs.Sides.{AxisJoinable, AxisJoined, BothEndsFit, BothEntriesFit, EndsFit, EndsReadable, EntriesFit, EntriesReadable, Side, both_edges, both_nodes, side_ends, side_entries, side_of, side_walks}
use Rattle.join_columns.specs.Slots.{Copyable}
use Rattle.survivors.proofs.Laws.Slots.{length_live_words}
use Rattle.join_columns.specs.Laws.Written.{length_rest, part_rewritten, rest, room_behind, through_fits, with_rest, written_behind, written_length, written_through}

-- ---- ends

module _ {s : Side} (r : EndsReadable s) where
  abbrev old_ends : List ℕ
  old_ends = live_words_of s.words (live_flags s.live_edges s.counts.edges.bound)

  old_long : length old_ends ≡ s.counts.edges.live
  old_long = length_live_words s.words (live_flags s.live_edges s.counts.edges.bound) ∙ sym r.counted

  pub ends_long : length (side_ends s) ≡ s.counts.edges.live
  ends_long = length-map old_ends (λ e. get_or s.node_map e 0) ∙ old_long

  end_mapped : (x : ℕ) → In x old_ends → x < length s.node_map
  end_mapped x m =
      let flags = live_flags s.live_edges s.counts.edges.bound in
      let there = member_source (λ e. get_or s.words e 0) x (live_slots flags) m in
      subst (λ (z : ℕ). z < length s.node_map) there.2 (r.mapped there.0 (sym (member_live_slots flags there.0) ∙ there.1))

module _ {s : Side} {out : List ℕ} (f : EndsFit s out) where
  pub ends_copyable : Copyable s.words s.live_edges s.counts.edges.bound out
  ends_copyable = record { readable = f.readable.readable; fits = omega (arith, f.readable.counted, f.room) }

  module _ {a : List ℕ} (is : a ≡ written (old_ends f.readable) out) where
    pub ends_translatable : Translatable a s.counts.edges.live s.node_map
    ends_translatable = through_fits (old_ends f.readable) out s.counts.edges.live (old_long f.readable) f.room is s.node_map (end_mapped f.readable)

    pub ends_written : {b : List ℕ} → Rewritten a b 0 s.counts.edges.live (translated_word a s.node_map) → b ≡ written (side_ends s) out
    ends_written t = written_through (old_ends f.readable) out s.counts.edges.live (old_long f.readable) f.room is s.node_map t

-- ---- lists

pub entries_long : {s : Side} → EntriesReadable s → length (side_entries s) ≡ s.counts.edges.live
entries_long {s} r = length-map (side_walks s) (λ e. get_or s.edge_map e 0) ∙ r.counted

pub lists_fit : {d : TraversalDirection} {w : Words} {node_map edge_map out : List ℕ} → EntriesFit (side_of d w node_map edge_map) out → ListsFit d w out
lists_fit f = record { walkable = f.readable.walkable; live_long = f.readable.live_long; counted = f.readable.counted; fits = f.room }

module _ {s : Side} {out : List ℕ} (f : EntriesFit s out) {a : List ℕ} (is : a ≡ written (side_walks s) out) where
  pub entries_translatable : Translatable a s.counts.edges.live s.edge_map
  entries_translatable = through_fits (side_walks s) out s.counts.edges.live f.readable.counted f.room is s.edge_map f.readable.mapped

  pub entries_written : {b : List ℕ} → Rewritten a b 0 s.counts.edges.live (translated_word a s.edge_map) → b ≡ written (side_entries s) out
  entries_written t = written_through (side_walks s) out s.counts.edges.live f.readable.counted f.room is s.edge_map t

-- ---- both books

module _ {out : List ℕ} {s t : Side} (pre : BothEndsFit out s t) where
  pub first_ends_fit : EndsFit s out
  first_ends_fit = record { readable = pre.first_readable; room = omega (arith, pre.room) }

  module _ {a : List ℕ} (one : a ≡ written (side_ends s) out) where
    pub second_ends_fit : EndsFit t (rest s.counts.edges.live a)
    second_ends_fit = record {
      readable = pre.second_readable;
      room = room_behind (side_ends s) out s.counts.edges.live (ends_long pre.first_readable) one t.counts.edges.live pre.room;
    }

    pub both_ends : {part : List ℕ} → part ≡ written (side_ends t) (rest s.counts.edges.live a)
        → with_rest s.counts.edges.live a part ≡ written (side_ends s ++ side_ends t) out
    both_ends two = written_behind (side_ends s) out s.counts.edges.live (ends_long pre.first_readable) one (side_ends t) two

module _ {out : List ℕ} {s t : Side} (pre : BothEntriesFit out s t) where
  pub first_entries_fit : EntriesFit s out
  first_entries_fit = record { readable = pre.first_readable; room = omega (arith, pre.room) }

  module _ {a : List ℕ} (one : a ≡ written (side_entries s) out) where
    pub second_entries_fit : EntriesFit t (rest s.counts.edges.live a)
    second_entries_fit = record {
      readable = pre.second_readable;
      room = room_behind (side_entries s) out s.counts.edges.live (entries_long pre.first_readable) one t.counts.edges.live pre.room;
    }

    pub both_entries : {part : List ℕ} → part ≡ written (side_entries t) (rest s.counts.edges.live a)
        → with_rest s.counts.edges.live a part ≡ written (side_entries s ++ side_entries t) out
    both_entries two = written_behind (side_entries s) out s.counts.edges.live (entries_long pre.first_readable) one (side_entries t) two

-- ---- the whole direction

module _ {ws : List ℕ} {ce cn : ℕ} {s t : Side} (pre : AxisJoinable ws ce cn s t) where
  pub ends_fit : BothEndsFit ws s t
  ends_fit = record {
    first_readable = pre.first_ends;
    second_readable = pre.second_ends;
    room = omega (arith, pre.edges_fit, pre.sized.room);
  }

  pub all_ends_long : length (side_ends s ++ side_ends t) ≡ both_edges s t
  all_ends_long = length-append (side_ends s) (side_ends t) ∙ rw (ends_long pre.first_ends, ends_long pre.second_ends)

  pub all_entries_long : length (side_entries s ++ side_entries t) ≡ both_edges s t
  all_entries_long = length-append (side_entries s) (side_entries t) ∙ rw (entries_long pre.first_entries, entries_long pre.second_entries)

  module _ {a : List ℕ} (one : a ≡ written (side_ends s ++ side_ends t) ws) where
    placed_long : length a ≡ length ws
    placed_long = ap length one ∙ written_length (side_ends s ++ side_ends t) ws (omega (arith, all_ends_long, pre.edges_fit, pre.sized.room))

    pub compressible : Compressible a ce cn (both_nodes s t) (both_edges s t)
    compressible = record {
      sized = record { edges_within = pre.sized.edges_within; nodes_within = pre.sized.nodes_within; room = rw placed_long pre.sized.room };
      nodes_fit = pre.nodes_fit;
      edges_fit = pre.edges_fit;
      ends_below = λ e h. subst (λ (z : ℕ). z < both_nodes s t)
          (sym (ap (λ (l : List ℕ). get_or l e 0) one
          ∙ get_or-append (side_ends s ++ side_ends t) (drop (length (side_ends s ++ side_ends t)) ws) 0 e (omega (arith, all_ends_long)))) (pre.ends_below e h);
    }

    module _ {b : List ℕ} (two : Rewritten a b (4 * ce + 5 * cn) (both_nodes s t + 1) (before (ends_of a (both_edges s t)))) where
      pub room_there : ce + both_edges s t ≤ length b
      room_there = omega (arith, pre.edges_fit, pre.sized.room, two.long, placed_long)

      pub entries_fit : BothEntriesFit (rest ce b) s t
      entries_fit = record {
        first_readable = pre.first_entries;
        second_readable = pre.second_entries;
        room = rw (length_rest ce b) (omega (arith, room_there));
      }

      module _ {part : List ℕ} (three : part ≡ written (side_entries s ++ side_entries t) (rest ce b)) where
        copied_long : length (with_rest ce b part) ≡ length ws
        copied_long =
            (part_rewritten b (side_entries s ++ side_entries t) ce (omega (arith, all_entries_long, room_there)) three).long ∙ two.long ∙ placed_long

        -- there are words for the rings and for the marks
        pub rings_fit : 4 * ce + both_nodes s t ≤ length (with_rest ce b part)
        rings_fit = omega (arith, copied_long, pre.nodes_fit, pre.sized.room)

        pub marks_fit : {c : List ℕ} → Rewritten (with_rest ce b part) c (4 * ce) (both_nodes s t) (λ _. NONE) → 4 * ce + 4 * cn + both_nodes s t ≤ length c
        marks_fit r = omega (arith, r.long, copied_long, pre.nodes_fit, pre.sized.room)

        pub joined_long : {c d : List ℕ} → Rewritten (with_rest ce b part) c (4 * ce) (both_nodes s t) (λ _. NONE)
            → Rewritten c d (4 * ce + 4 * cn) (both_nodes s t) (λ _. 0) → length d ≡ length ws
        joined_long r k = k.long ∙ r.long ∙ copied_long

      -- the axis is joined
      pub axis_joined : {part c d : List ℕ} → part ≡ written (side_entries s ++ side_entries t) (rest ce b)
          → Rewritten (with_rest ce b part) c (4 * ce) (both_nodes s t) (λ _. NONE) → Rewritten c d (4 * ce + 4 * cn) (both_nodes s t) (λ _. 0) → AxisJoined ws ce cn s t d
      axis_joined {part} {c} {d} three rings marks =
          let entries = side_entries s ++ side_entries t in
          record {
            placed = a;
            places = one;
            rebuilds = record {
              counted = b;
              copied = with_rest ce b part;
              emptied = c;
              offsets = two;
              lists = subst (λ (m : ℕ). Rewritten b (with_rest ce b part) ce m (λ i. get_or entries i 0)) all_entries_long
                  (part_rewritten b entries ce (omega (arith, all_entries_long, room_there)) three);
              rings = rings;
              marks = marks;
            };
          }
