-- The ways that writing an image ends: "1; 2 for the work slice; 2 for the image's slice", or done. The contract is `WriteOf`.
use Rattle.std.specs.Prelude.{ℕ, ◌*◌, ◌≤◌, ◌<◌, ◌≡◌, refl, List, [], length, take, drop}
use Rattle.plain.specs.Library.{sym, ap, ◌∙◌, take_at, arith}
use lib.Seq.{drop_at}
use Rattle.plain.specs.declared.Answer.{Answer}
use Rattle.plain.specs.Lists.{written}
use Rattle.plain.specs.Reads.{listing, live_count, live_edges}
use Rattle.plain.specs.Compaction.{survivors}
use Rattle.plain.specs.Bits.{bytes_for}
use Rattle.plain.specs.Image.{image, image_size}
use Rattle.plain.proofs.Laws.CallCases.{write_short, write_lent}
use Rattle.shape.specs.Shape.{Words, lists}
use Rattle.shape.specs.Checked.{Checked}
use Rattle.shape.proofs.Laws.Reading.{plain_edge_flags}
use Rattle.validate.specs.Judging.{Judged}
use Rattle.view.specs.Laws.Calls.{replies, list_short, list_done}
use Rattle.survivors.specs.Working.{both_walks}
use Rattle.survivors.proofs.Laws.Working.{both_length}
use Rattle.image_write.specs.Calls.{written_image, WorkFree, WriteOf}
use Rattle.image_write.specs.Writing.{ImageFits}
use Rattle.image_write.proofs.Surviving.{image_bytes_of}

-- the work slice of a call that refuses
work_kept : (needed : ℕ) (work : List ℕ) (answer : Answer) → WorkFree needed work answer work
work_kept needed work answer = record { long = refl; rest = refl; refused_keeps = λ _. refl }

-- the live edges, counted
edges_live : {w : Words} → Checked w → w.counts.edges.live ≡ live_edges (lists w)
edges_live {w} k = k.edges.live.live_right ∙ sym (ap live_count (plain_edge_flags w))

-- as many entries as both directions' lists have
walks_many : {w : Words} → Checked w → length (both_walks w) ≡ 2 * live_edges (lists w)
walks_many k = both_length k ∙ ap (λ (n : ℕ). 2 * n) (edges_live k)

-- with room for them the image is lent its slice
image_lent : {w : Words} → Checked w → (work room : ℕ) → 2 * w.counts.edges.live ≤ work → written_image work w room ≡ listing room (image (survivors (lists w)))
image_lent {w} k work room fits = write_lent (lists w) work room (omega (arith, edges_live k))

module _ {w : Words} {rule : ℕ} (j : Judged w rule) {work bytes : List ℕ} where
  -- the work slice is too short
  pub work_short : rule ≡ 0 → length work < 2 * w.counts.edges.live → WriteOf w work bytes (record { number = 2; value = 2 * w.counts.edges.live }) work bytes
  work_short zero short =
      let many = edges_live (j.checked zero) in
      let same : 2 * w.counts.edges.live ≡ 2 * live_edges (lists w) = ap (λ (n : ℕ). 2 * n) many in
      rw same
      (record {
        replied = replies j zero (record { number = 2; value = 2 * live_edges (lists w); words = [] })
            (write_short (lists w) (length work) (length bytes) (omega arith)) refl;
        work_free = work_kept (2 * live_edges (lists w)) work (record { number = 2; value = 2 * live_edges (lists w) });
      })

  -- the image's slice is too short
  pub bytes_short : {size : ℕ} → rule ≡ 0 → 2 * w.counts.edges.live ≤ length work → size ≡ bytes_for (image_size w.counts.nodes.live w.counts.edges.live)
      → length bytes < size → WriteOf w work bytes (record { number = 2; value = size }) work bytes
  bytes_short {size} zero room is short =
      let k = j.checked zero in
      record {
        replied = list_short j zero (image (survivors (lists w))) (image_lent k (length work) (length bytes) room) (is ∙ image_bytes_of k) short;
        work_free = work_kept (2 * live_edges (lists w)) work (record { number = 2; value = size });
      }

  -- the image is written
  pub write_done : {size : ℕ} {work' bytes' : List ℕ} → rule ≡ 0 → 2 * w.counts.edges.live ≤ length work
      → size ≡ bytes_for (image_size w.counts.nodes.live w.counts.edges.live) → size ≤ length bytes → work' ≡ written (both_walks w) work
      → length work' ≡ length work → bytes' ≡ written (image (survivors (lists w))) bytes
      → WriteOf w work bytes (record { number = 0; value = size }) work' bytes'
  write_done zero room is fits walks long wrote =
      let k = j.checked zero in
      record {
        replied = list_done j zero (image (survivors (lists w))) (image_lent k (length work) (length bytes) room) (is ∙ image_bytes_of k) fits wrote;
        work_free = record {
          long = long;
          rest = ap (drop (2 * live_edges (lists w))) walks
              ∙ drop_at (both_walks w) (drop (length (both_walks w)) work) (2 * live_edges (lists w)) (walks_many k)
              ∙ ap (λ (n : ℕ). drop n work) (walks_many k);
          refused_keeps = λ refused. absurd (refused refl);
        };
      }

-- the lists of both directions are in the work slice, and the image has room
pub image_fits : {w : Words} (work : List ℕ) {work' bytes : List ℕ} {size : ℕ} → Checked w → 2 * w.counts.edges.live ≤ length work
    → size ≡ bytes_for (image_size w.counts.nodes.live w.counts.edges.live) → size ≤ length bytes → work' ≡ written (both_walks w) work
    → length work' ≡ length work → ImageFits w work' bytes
image_fits {w} work k room is fits walks long = record {
  checked = k;
  work_there = omega arith;
  listed = ap (take (2 * w.counts.edges.live)) walks
      ∙ take_at (both_walks w) (drop (length (both_walks w)) work) (2 * w.counts.edges.live) (both_length k);
  room = rw (← is) fits;
}
