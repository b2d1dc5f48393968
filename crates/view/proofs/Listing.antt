-- Listing the live slots by the next live one: what the loop holds, and what the two reads answer.
use Rattle.std.specs.Prelude.{ℕ, ◌+◌, ◌≤◌, ◌<◌, ◌≡◌, refl, Bool, List, [], ◌∷◌, ◌++◌, length, set, drop}
use Rattle.plain.specs.Library.{sym, ap, ◌∙◌, append-nil, append_assoc, length-append, length-set, arith}
use Rattle.plain.specs.declared.TraversalDirection.TheVariants.{Outgoing}
use Rattle.plain.specs.declared.Slots.{Slots}
use Rattle.plain.specs.declared.Answer.{Answer}
use Rattle.plain.specs.Numbers.{LIMIT}
use Rattle.plain.specs.Lists.{member, written}
use Rattle.plain.specs.Reads.{listing, live_count, live_slots, node_slots, edge_slots}
use Rattle.std.proofs.Math.Seq.{get_or-append_seam}
use Rattle.plain.proofs.Laws.ListLaws.{count_length, member_at}
use Rattle.plain.proofs.Laws.Rank.{length_live_slots, live_below, member_live_slots}
use Rattle.liveness.specs.Flags.{live_flags}
use Rattle.shape.specs.Checked.{SlotsChecked}
use Rattle.shape.specs.Shape.{Words, node_live, edge_live, lists}
use Rattle.shape.proofs.Laws.Slots.{nodes_told, edges_told}
use Rattle.cursor.specs.Laws.Reading.{write_one}
use Rattle.validate.specs.Judging.{Judged}
use Rattle.view.specs.Calls.{Listed, Replied}
use Rattle.view.specs.Laws.Calls.{list_replies}
use Rattle.view.specs.Ids.{LiveTold}

-- n live slots are written, and these are left.
pub record Listing (flags : List Bool) (out₀ out : List ℕ) (n : ℕ) (rest : List ℕ) : Type 0 where
  pub past : List ℕ
  pub all : live_slots flags ≡ past ++ rest
  pub counted : n ≡ length past
  pub wrote : out ≡ past ++ drop n out₀
  pub long : length out ≡ length out₀
  pub fits : live_count flags ≤ length out₀

-- where it starts
pub listing_start : {flags : List Bool} {out rest : List ℕ} → rest ≡ live_slots flags → live_count flags ≤ length out → Listing flags out out 0 rest
listing_start is fits = record { past = []; all = sym is; counted = refl; wrote = refl; long = refl; fits = fits }

module _ {flags : List Bool} {out₀ out : List ℕ} {n : ℕ} {rest : List ℕ} (i : Listing flags out₀ out n rest) where
  -- those that are left are the others
  pub listing_left : n + length rest ≡ live_count flags
  listing_left = rw i.counted (sym (length-append i.past rest)) ∙ ap (λ (l : List ℕ). length l) (sym i.all) ∙ length_live_slots flags

  -- no more than there are slots
  pub listing_few : n + length rest ≤ length flags
  listing_few = omega (arith, listing_left, count_length (λ (f : Bool). f) flags)

  -- one slot more: there is room for it
  module _ {slot : ℕ} {later : List ℕ} (next : rest ≡ slot ∷ later) where
    pub listing_room : n < length out
    listing_room = omega (arith, listing_left, i.long, i.fits, ap (λ (l : List ℕ). length l) next)

    -- it is one of them
    pub listing_below : slot < length flags
    listing_below =
        let whole : live_slots flags ≡ i.past ++ (slot ∷ later) = i.all ∙ ap (λ (l : List ℕ). i.past ++ l) next in
        let few : length i.past < length (i.past ++ (slot ∷ later)) = simp length-append (omega arith) in
        let there = member_at (i.past ++ (slot ∷ later)) (length i.past) 0 few in
        live_below flags slot
        (sym (member_live_slots flags slot) ∙ ap (λ (l : List ℕ). member slot l) whole ∙ (rw (get_or-append_seam i.past slot later 0) at there))

    pub listing_on : Listing flags out₀ (set out n slot) (n + 1) later
    listing_on =
        let room : n < length out₀ = omega (arith, listing_room, i.long) in
        record {
          past = i.past ++ (slot ∷ []);
          all = i.all ∙ ap (λ (l : List ℕ). i.past ++ l) next ∙ sym (append_assoc i.past (slot ∷ []) later);
          counted = simp length-append (omega (arith, i.counted));
          wrote = rw i.wrote (write_one i.past out₀ n slot i.counted room);
          long = length-set out n slot ∙ i.long;
          fits = i.fits;
        }

  -- all are written
  pub listing_end : rest ≡ [] → out ≡ written (live_slots flags) out₀
  listing_end none =
      let whole : live_slots flags ≡ i.past = i.all ∙ ap (λ (l : List ℕ). i.past ++ l) none ∙ append-nil i.past in
      rw (whole, ← i.counted) i.wrote

-- ---- the answers, of one kind of slot

-- the words of a checked store are as the counts say
pub checked_told : {capacity : ℕ} {words : List ℕ} {s : Slots} → SlotsChecked capacity words s → capacity ≤ LIMIT → LiveTold words s
checked_told k few = record {
  long = omega (arith, k.bounded.bound_within, k.live_long);
  few = omega (arith, k.bounded.bound_within);
  right = k.live.live_right;
}

module _ {words : List ℕ} {s : Slots} (t : LiveTold words s) where
  -- as many are listed
  pub told_size : s.live ≡ length (live_slots (live_flags words s.bound))
  told_size = t.right ∙ sym (length_live_slots (live_flags words s.bound))

-- ---- the reads

module _ {w : Words} {rule : ℕ} (j : Judged w rule) (none : rule ≡ 0) where
  pub node_ids_told : LiveTold w.live_nodes w.counts.nodes
  node_ids_told = let k = j.checked none in checked_told k.nodes (k.axis Outgoing).sized.nodes_within

  pub edge_ids_told : LiveTold w.live_edges w.counts.edges
  edge_ids_told = let k = j.checked none in checked_told k.edges (k.axis Outgoing).sized.edges_within

  pub node_ids_listed : {entry exit : List ℕ} {r : Answer} → Listed (live_slots (node_live w)) entry r exit
      → Replied w (λ w room. node_slots (lists w) room) entry r exit
  unfolding node_slots
  node_ids_listed {entry} = list_replies j none (ap (λ (flags : List Bool). listing (length entry) (live_slots flags)) (nodes_told w).same)

  pub edge_ids_listed : {entry exit : List ℕ} {r : Answer} → Listed (live_slots (edge_live w)) entry r exit
      → Replied w (λ w room. edge_slots (lists w) room) entry r exit
  unfolding edge_slots
  edge_ids_listed {entry} = list_replies j none (ap (λ (flags : List Bool). listing (length entry) (live_slots flags)) (edges_told w).same)
