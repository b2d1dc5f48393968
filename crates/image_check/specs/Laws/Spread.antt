-- Fields at equal distances in bytes: what a turn of their reading asks, and what lists they make. Rows of fields and the columns of records are such fields.
use Rattle.std.specs.Prelude.{ℕ, zero, suc, ◌+◌, ◌*◌, ◌^◌, ◌≤◌, ◌<◌, ◌≡◌, refl, List, ◌∷◌, map, length, get_or}
use Rattle.plain.specs.Library.{sym, ap, ap₂, ◌∙◌, map-map, zero-add, arith}
use Rattle.std.proofs.Common.{mul-le-mul_left, mul-zero, mul-suc, add-zero}
use Rattle.plain.specs.Lists.{from}
use Rattle.plain.specs.Bits.{field_at, fields_at}
use Rattle.plain.specs.Compaction.{EdgeRecord, source_of, target_of}
use Rattle.plain.specs.Image.{weight_width, payload_at, record_width, records_at}
use Rattle.plain.proofs.Laws.ListLaws.{length_from, get_or_from, get_d_map, from_suc}
use Rattle.plain.specs.Laws.ImageBits.{record_low, record_high}
use Rattle.shape.proofs.Laws.Indexing.{map_from_same}
use Rattle.bits.specs.Fields.{Room}
use Rattle.image_check.specs.Spread.{spread, SpreadFits}

-- ---- what a turn of the reading asks

-- the next place
pub further : (position stride i : ℕ) → position + stride * i + stride ≡ position + stride * (i + 1)
further position stride i = let more : stride * (i + 1) ≡ stride * i + stride = ap (λ (z : ℕ). stride * z) (omega arith) ∙ mul-suc stride i in omega arith

module _ {bytes : List ℕ} {position stride width : ℕ} {words : List ℕ} {at count : ℕ} (s : SpreadFits bytes position stride width words at count) where
  pub spread_room : (i : ℕ) → i < count → Room bytes (position + stride * i) width
  spread_room i h =
      let low : stride * i ≤ stride * count = mul-le-mul_left stride (omega arith) in
      record { narrow = s.narrow; within = s.there i h; counted = omega (arith, s.counted) }

  -- its place is a number too
  pub spread_next : (i : ℕ) → i < count → position + stride * i + stride < 2 ^ 64
  spread_next i h =
      let low : stride * (i + 1) ≤ stride * count = mul-le-mul_left stride (omega arith) in
      omega (arith, further position stride i, s.counted)

-- words as long have the same room
pub spread_as : {bytes : List ℕ} {position stride width : ℕ} {words words' : List ℕ} {at count : ℕ} → length words' ≡ length words
    → SpreadFits bytes position stride width words at count → SpreadFits bytes position stride width words' at count
spread_as same s = record { narrow = s.narrow; there = s.there; counted = s.counted; room = rw same s.room }

-- fields of records one after the other: of a record of `stride` bits, the field of `width` bits at bit k
pub spread_in : {bytes words : List ℕ} {at : ℕ} (start k position stride width count : ℕ) → position ≡ start + k → k + width ≤ stride → width ≤ 32
    → start + stride * count ≤ 8 * length bytes → start + stride * count + stride < 2 ^ 64 → at + count ≤ length words
    → SpreadFits bytes position stride width words at count
spread_in start k position stride width count is inside narrow there small room = record {
  narrow = narrow;
  there = λ i h. let low : stride * (i + 1) ≤ stride * count = mul-le-mul_left stride (omega arith) in omega (arith, further start stride i);
  counted = omega arith;
  room = room;
}

-- ---- the lists that they make

-- the first field, and those after it
spread_first : (bytes : List ℕ) (p stride width n : ℕ)
    → map (spread bytes p stride width) (from 0 (suc n)) ≡ field_at bytes p width ∷ map (spread bytes (p + stride) stride width) (from 0 n)
unfolding from
spread_first bytes p stride width n =
    let here : p + stride * 0 ≡ p = let none = mul-zero stride in omega arith in
    ap₂ (λ (x : ℕ) (l : List ℕ). x ∷ l) (ap (λ (z : ℕ). field_at bytes z width) here)
    (ap (map (spread bytes p stride width)) (from_suc 0 n) ∙ map-map (spread bytes p stride width) suc (from 0 n)
    ∙ map_from_same (λ i. spread bytes p stride width (suc i)) (spread bytes (p + stride) stride width) 0 n
    (λ i _ h. ap (λ (z : ℕ). field_at bytes z width) (let more = mul-suc stride i in omega arith)))

-- fields of one width, one after the other
pub fields_spread : (bytes : List ℕ) (p w n : ℕ) → map (spread bytes p w w) (from 0 n) ≡ fields_at bytes p w n
unfolding fields_at from
fields_spread bytes p w zero = refl
fields_spread bytes p w (suc n) = spread_first bytes p w w n ∙ ap (λ (l : List ℕ). field_at bytes p w ∷ l) (fields_spread bytes (p + w) w n)

-- number e of a list that they make
pub spread_at : (f : ℕ → ℕ) (m : ℕ) {column : List ℕ} → map f (from 0 m) ≡ column → (e : ℕ) → e < m → get_or column e 0 ≡ f e
spread_at f m is e h =
    ap (λ (l : List ℕ). get_or l e 0) (sym is) ∙ get_d_map f (from 0 m) e 0 0 (rw (length_from 0 m) h) ∙ ap f (get_or_from 0 m e 0 h ∙ zero-add e)

-- the record at bit p, at width w for a node
abbrev record_at : List ℕ → ℕ → ℕ → EdgeRecord
record_at bytes w p = record { source = field_at bytes p w; target = field_at bytes (p + w) w; payload = payload_at bytes (p + (w + w)) }

-- a field of each record: that of `width` bits at bit k
records_spread : (f : EdgeRecord → ℕ) (k width : ℕ) (bytes : List ℕ) (w : ℕ) → ((p : ℕ) → f (record_at bytes w p) ≡ field_at bytes (p + k) width) → (p m : ℕ)
    → map (spread bytes (p + k) (record_width w) width) (from 0 m) ≡ map f (records_at bytes p w m)
unfolding records_at from
records_spread f k width bytes w is p zero = refl
records_spread f k width bytes w is p (suc m) =
    spread_first bytes (p + k) (record_width w) width m
    ∙ ap₂ (λ (x : ℕ) (l : List ℕ). x ∷ l) (sym (is p))
    (ap (λ (z : ℕ). map (spread bytes z (record_width w) width) (from 0 m)) (omega arith) ∙ records_spread f k width bytes w is (p + record_width w) m)

-- the columns of the records
pub sources_spread : (bytes : List ℕ) (w p m : ℕ) → map (spread bytes p (record_width w) w) (from 0 m) ≡ map source_of (records_at bytes p w m)
sources_spread bytes w p m =
    ap (λ (z : ℕ). map (spread bytes z (record_width w) w) (from 0 m)) (sym (add-zero p))
    ∙ records_spread source_of 0 w bytes w (λ p. ap (λ (z : ℕ). field_at bytes z w) (sym (add-zero p))) p m

pub targets_spread : (bytes : List ℕ) (w p m : ℕ) → map (spread bytes (p + w) (record_width w) w) (from 0 m) ≡ map target_of (records_at bytes p w m)
targets_spread bytes w p m = records_spread target_of w w bytes w (λ p. refl) p m

pub lows_spread : (bytes : List ℕ) (w p m : ℕ) → map (spread bytes (p + (w + w)) (record_width w) weight_width) (from 0 m) ≡ map record_low (records_at bytes p w m)
lows_spread bytes w p m = records_spread record_low (w + w) weight_width bytes w (λ p. refl) p m

pub highs_spread : (bytes : List ℕ) (w p m : ℕ)
    → map (spread bytes (p + (w + w) + weight_width) (record_width w) weight_width) (from 0 m) ≡ map record_high (records_at bytes p w m)
highs_spread bytes w p m =
    ap (λ (z : ℕ). map (spread bytes z (record_width w) weight_width) (from 0 m)) (omega arith)
    ∙ records_spread record_high (w + w + weight_width) weight_width bytes w (λ p. ap (λ (z : ℕ). field_at bytes z weight_width) (omega arith)) p m
