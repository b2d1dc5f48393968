-- Reading one direction of an image: the axis then holds a new base of the ends and lists that were read.
use Rattle.std.specs.Prelude.{ℕ, ◌+◌, ◌*◌, ◌<◌, ◌≡◌, List, map, get_or}
use Rattle.plain.specs.Library.{sym, ap, subst, subst₂, ◌∙◌, zero-add, arith}
use lib.Seq.{take_all}
use Rattle.plain.specs.declared.Counts.{Counts}
use Rattle.plain.specs.Numbers.{NONE}
use Rattle.plain.specs.Lists.{from, joined}
use Rattle.plain.specs.Bits.{fields_at, least_width}
use Rattle.plain.specs.Image.{record_width}
use Rattle.plain.specs.WellFormed.{Fitted}
use Rattle.plain.proofs.Laws.Bits.{length_fields_at}
use Rattle.shape.specs.Index.{Rewritten, before, ends_of}
use Rattle.shape.proofs.Laws.Indexing.{rewritten_as}
use Rattle.shape.specs.Laws.NewBase.{NewBase}
use Rattle.compact.specs.Bases.{Rebuildable, Rebuilt}
use Rattle.compact.specs.Laws.Bases.{rebuilt_base}
use Rattle.survivors.proofs.Laws.Slots.{rewritten_range}
use Rattle.image_check.specs.Spread.{spread}
use Rattle.image_read.specs.Directions.{BaseReadable, AxisReadable, AxisRead}
use Rattle.image_check.specs.Laws.Spread.{spread_as, fields_spread, spread_at}

-- ---- the base, once the ends are there

module _ {ws : List ℕ} {ce cn n m : ℕ} {bytes : List ℕ} {position width : ℕ} (pre : BaseReadable ws ce cn n m bytes position width) where
  -- the joined lists that were read, as a list
  pub base_read : {a b c d : List ℕ} → Rewritten ws a (4 * ce + 5 * cn) (n + 1) (before (ends_of ws m)) → Rewritten a b ce m (spread bytes position width width)
      → Rewritten b c (4 * ce) n (λ _. NONE) → Rewritten c d (4 * ce + 4 * cn) n (λ _. 0) → Rebuilt ws ce cn n m (fields_at bytes position width m) d
  base_read {a} {b} {c} offsets lists rings marks = record {
    counted = a;
    copied = b;
    emptied = c;
    offsets = offsets;
    lists = rewritten_as (λ i. get_or (fields_at bytes position width m) i 0) lists
        (λ i h. sym (spread_at (spread bytes position width width) m (fields_spread bytes position width m) i h));
    rings = rings;
    marks = marks;
  }

-- ---- the whole direction

module _ {ws : List ℕ} {ce cn n m : ℕ} {bytes : List ℕ} {ends lists : ℕ} (pre : AxisReadable ws ce cn n m bytes ends lists) where
  pub base_readable : {a : List ℕ} → Rewritten ws a 0 m (spread bytes ends (record_width (least_width n)) (least_width n))
      → BaseReadable a ce cn n m bytes lists (least_width m)
  base_readable {a} r =
      let sized = pre.sized in
      record {
        compressible = record {
          sized = record { edges_within = sized.edges_within; nodes_within = sized.nodes_within; room = rw r.long sized.room };
          nodes_fit = pre.nodes_fit;
          edges_fit = pre.edges_fit;
          ends_below = λ e h. subst (λ (z : ℕ). z < n) (sym (ap (λ (z : ℕ). get_or a z 0) (sym (zero-add e)) ∙ r.within e h)) (pre.ends_below e h);
        };
        entries = spread_as r.long pre.lists_there;
      }

  pub axis_read : {a b : List ℕ} → Rewritten ws a 0 m (spread bytes ends (record_width (least_width n)) (least_width n))
      → Rebuilt a ce cn n m (fields_at bytes lists (least_width m) m) b → AxisRead ws ce cn n m bytes ends lists b
  axis_read {a} r s = record { placed = a; places = r; rebuilds = s }

  -- a new base of the ends and the lists
  pub read_base : {ws' : List ℕ} → AxisRead ws ce cn n m bytes ends lists ws' → (counts : Counts) (all_ends : List ℕ) (all_lists : List (List ℕ))
      → counts.nodes.bound ≡ n → counts.nodes.base ≡ n → counts.edges.bound ≡ m → counts.edges.base ≡ m
      → map (spread bytes ends (record_width (least_width n)) (least_width n)) (from 0 m) ≡ all_ends
      → fields_at bytes lists (least_width m) m ≡ joined all_lists → Fitted n all_ends all_lists → NewBase ws' ce cn counts all_ends all_lists
  read_base {ws'} r counts all_ends all_lists a b c d are lined fitted =
      let same : ends_of r.placed m ≡ all_ends = rewritten_range r.places ∙ are in
      let ready = base_readable r.places in
      let long = length_fields_at bytes lists (least_width m) m in
      let rebuildable : Rebuildable r.placed ce cn n m (fields_at bytes lists (least_width m) m) =
      record { compressible = ready.compressible; there = omega arith } in
      subst (λ (l : List ℕ). NewBase ws' ce cn counts l all_lists) same
      (rebuilt_base rebuildable r.rebuilds counts all_lists a b c d (take_all m (fields_at bytes lists (least_width m) m) (omega arith) ∙ lined)
      (subst (λ (l : List ℕ). Fitted n l all_lists) (sym same) fitted))

-- ---- places that were computed

pub readable_at : {ws : List ℕ} {ce cn n m : ℕ} {bytes : List ℕ} {ends lists ends' lists' : ℕ} → ends' ≡ ends → lists' ≡ lists
    → AxisReadable ws ce cn n m bytes ends lists → AxisReadable ws ce cn n m bytes ends' lists'
readable_at {ws} {ce} {cn} {n} {m} {bytes} a b r = subst₂ (λ (ends lists : ℕ). AxisReadable ws ce cn n m bytes ends lists) (sym a) (sym b) r

pub read_at : {ws : List ℕ} {ce cn n m : ℕ} {bytes : List ℕ} {ends lists ends' lists' : ℕ} {ws' : List ℕ} → ends ≡ ends' → lists ≡ lists'
    → AxisRead ws ce cn n m bytes ends lists ws' → AxisRead ws ce cn n m bytes ends' lists' ws'
read_at {ws} {ce} {cn} {n} {m} {bytes} {ws' = ws'} a b r = subst₂ (λ (ends lists : ℕ). AxisRead ws ce cn n m bytes ends lists ws') a b r
