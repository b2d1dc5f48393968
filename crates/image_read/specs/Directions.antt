-- Reading one direction of an image: what it asks and promises.
use Rattle.std.specs.Prelude.{ℕ, ◌≤◌, ◌<◌, List}
use Rattle.plain.specs.Bits.{fields_at, least_width}
use Rattle.plain.specs.Image.{record_width}
use Rattle.shape.specs.Columns.{Sized}
use Rattle.shape.specs.Index.{Rewritten}
use Rattle.adjacency.specs.Index.{Compressible}
use Rattle.compact.specs.Bases.{Rebuilt}
use Rattle.image_check.specs.Spread.{spread, SpreadFits}

-- ---- the base, once the ends are there

-- The ends of the first m edges are in place, and the joined lists are in the bytes.
pub record BaseReadable (ws : List ℕ) (ce cn n m : ℕ) (bytes : List ℕ) (position width : ℕ) : Type 0 where
  pub compressible : Compressible ws ce cn n m
  pub entries : SpreadFits bytes position width width ws ce m

-- ---- the whole direction

-- n nodes and m edges, the ends from bit `ends` on, a record apart, each below n, and the joined lists from bit `lists` on.
pub record AxisReadable (ws : List ℕ) (ce cn n m : ℕ) (bytes : List ℕ) (ends lists : ℕ) : Type 0 where
  pub sized : Sized ws ce cn
  pub nodes_fit : n ≤ cn
  pub edges_fit : m ≤ ce
  pub ends_there : SpreadFits bytes ends (record_width (least_width n)) (least_width n) ws 0 m
  pub ends_below : (e : ℕ) → e < m → spread bytes ends (record_width (least_width n)) (least_width n) e < n
  pub lists_there : SpreadFits bytes lists (least_width m) (least_width m) ws ce m

-- The ends are put in place, and the base is built on them.
pub record AxisRead (ws : List ℕ) (ce cn n m : ℕ) (bytes : List ℕ) (ends lists : ℕ) (ws' : List ℕ) : Type 0 where
  pub placed : List ℕ
  pub places : Rewritten ws placed 0 m (spread bytes ends (record_width (least_width n)) (least_width n))
  pub rebuilds : Rebuilt placed ce cn n m (fields_at bytes lists (least_width m) m) ws'
