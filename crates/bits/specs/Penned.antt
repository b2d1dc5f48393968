-- What the pen promises. Bits that were put are in the bytes before the pen, or wait in it: that is the stream, and a put appends to it. `Penned s p f t q`: with bytes s
-- and pen p, bits f were put, and t and q are there then.
use Rattle.std.specs.Prelude.{ℕ, ◌+◌, ◌*◌, ◌^◌, ◌≤◌, ◌<◌, ◌≡◌, List, ◌++◌, length, take, drop}
use Rattle.plain.specs.Bits.{bits_of, bits}
use Rattle.bits.specs.declared.pen.Pen.{Pen}
use Rattle.bits.specs.declared.pen.Writer.{Writer}

-- the pen before the first bit
abbrev pub fresh : Pen
fresh = record { at = 0; pending = 0; count = 0 }

-- the bit after all that was put
abbrev pub reach : Pen → ℕ
reach p = 8 * p.at + p.count

-- the bits that wait
abbrev pub waiting : Pen → List ℕ
waiting p = bits_of p.count p.pending

-- all bits before it
abbrev pub stream : List ℕ → Pen → List ℕ
stream s p = take (8 * p.at) (bits s) ++ waiting p

-- fewer than four bytes wait, and nothing above them
pub record Ready (p : Pen) : Type 0 where
  pub few : p.count < 32
  pub small : p.pending < 2 ^ p.count

-- a value has room behind what was put
pub record Puts (s : List ℕ) (p : Pen) (width value : ℕ) : Type 0 where
  pub ready : Ready p
  pub narrow : width ≤ 32
  pub fits : value < 2 ^ width
  pub within : reach p + width ≤ 8 * length s

pub record Penned (s : List ℕ) (p : Pen) (f t : List ℕ) (q : Pen) : Type 0 where
  pub long : length t ≡ length s
  pub next : reach q ≡ reach p + length f
  pub later : p.at ≤ q.at
  pub whole : stream t q ≡ stream s p ++ f
  -- bytes from the pen on are as before
  pub rest : drop (8 * q.at) (bits t) ≡ drop (8 * q.at) (bits s)
  pub ready : Ready q

-- bits were put by a writer, into the slice that was lent
pub record Written (a : Writer) (f : List ℕ) (b : Writer) : Type 0 where
  pub same : b.bytes.ghost_name ≡ a.bytes.ghost_name
  pub penned : Penned a.bytes.now a.pen f b.bytes.now b.pen
