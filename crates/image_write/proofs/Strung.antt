-- Pieces of bits put one after the other by a loop: what was put after each turn, over the entries of a list or over the live slots; and that a row and the
-- bits of the edges' records are such pieces.
use Rattle.std.specs.Prelude.{ℕ, ◌+◌, ◌*◌, ◌≤◌, ◌<◌, ◌≡◌, refl, Bool, true, false, List, [], ◌∷◌, ◌++◌, map, length, take, get_or}
use Rattle.plain.specs.Library.{sym, ap, subst, ◌∙◌, append_assoc, append_snoc, append-nil, length-append, add-one, arith}
use native.Mathlib.Nat.{mul-le-mul_left}
use lib.Seq.{take-suc, take-length, length-take-le}
use Rattle.std.proofs.Math.Seq.{get_or-append_seam}
use Rattle.plain.specs.Lists.{member}
use Rattle.plain.specs.Reads.{live_count, live_slots}
use Rattle.plain.proofs.Laws.ListLaws.{member_at}
use Rattle.plain.proofs.Laws.Rank.{length_live_slots, member_live_slots}
use Rattle.plain.specs.Compaction.{EdgeRecord}
use Rattle.plain.specs.Bits.{bits_of, row}
use Rattle.plain.specs.Image.{edge_bits}
use Rattle.bits.specs.declared.pen.Writer.{Writer}
use Rattle.bits.specs.Penned.{Written, reach}
use Rattle.bits.specs.Laws.Penned.{written_none, written_then}
use Rattle.image_write.specs.Writing.{PiecesFit, record_bits}

-- the pieces of what is in a list, one after the other
unfoldable pub strung : (ℕ → List ℕ) → List ℕ → List ℕ
strung f [] = []
strung f (x ∷ xs) = f x ++ strung f xs

-- the pieces of `past` were put
pub record Strung (a : Writer) (step : ℕ) (f : ℕ → List ℕ) (past : List ℕ) (b : Writer) : Type 0 where
  pub place : reach b.pen ≡ reach a.pen + step * length past
  pub written : Written a (strung f past) b

-- before the first
strung_none : (a : Writer) (step n : ℕ) (f : ℕ → List ℕ) → PiecesFit a step n → Strung a step f [] a
unfolding strung
strung_none a step n f h = record { place = omega arith; written = written_none a h.ready }

-- one piece more
strung_snoc : (f : ℕ → List ℕ) (xs : List ℕ) (x : ℕ) → strung f (xs ++ (x ∷ [])) ≡ strung f xs ++ f x
unfolding strung
strung_snoc f [] x = append-nil (f x)
strung_snoc f (y ∷ xs) x = ap (λ (l : List ℕ). f y ++ l) (strung_snoc f xs x) ∙ sym (append_assoc (f y) (strung f xs) (f x))

module _ {a b : Writer} {step : ℕ} {f : ℕ → List ℕ} {past : List ℕ} (h : Strung a step f past b) where
  -- one piece more
  strung_more : ((x : ℕ) → length (f x) ≡ step) → {c : Writer} (x : ℕ) → Written b (f x) c → Strung a step f (past ++ (x ∷ [])) c
  strung_more long x w = record {
    place = rw (length-append past (x ∷ [])) (omega (arith, h.place, w.penned.next, long x));
    written = rw (strung_snoc f past x) (written_then h.written w);
  }

  -- a piece that comes next has room
  strung_room : {n : ℕ} → PiecesFit a step n → length past < n → PiecesFit b step 1
  strung_room {n} fits l =
      let more : length past + 1 ≤ n = omega arith in
      let most = mul-le-mul_left step more in
      record { ready = h.written.penned.ready; within = omega (arith, h.place, h.written.penned.long, fits.within) }

-- ---- over a list, entry by entry

-- the pieces of the first i entries were put
pub record StrungTo (a : Writer) (step : ℕ) (f : ℕ → List ℕ) (words : List ℕ) (i : ℕ) (b : Writer) : Type 0 where
  pub front : Strung a step f (take i words) b

pub entry_none : {n : ℕ} (a : Writer) (step : ℕ) (f : ℕ → List ℕ) (words : List ℕ) → PiecesFit a step n → StrungTo a step f words 0 a
entry_none {n} a step f words fits = record { front = strung_none a step n f fits }

module _ {a b : Writer} {step : ℕ} {f : ℕ → List ℕ} {words : List ℕ} {i : ℕ} (h : StrungTo a step f words i b) where
  pub entry_more : ((x : ℕ) → length (f x) ≡ step) → i < length words → {c : Writer} → Written b (f (get_or words i 0)) c → StrungTo a step f words (i + 1) c
  entry_more long l {c} w = record {
    front = subst (λ (past : List ℕ). Strung a step f past c) (sym (ap (λ (n : ℕ). take n words) (add-one i) ∙ take-suc words i 0 l))
        (strung_more h.front long (get_or words i 0) w);
  }

  pub entry_room : PiecesFit a step (length words) → i < length words → PiecesFit b step 1
  entry_room fits l = strung_room h.front fits (rw (length-take-le i words (omega arith)) l)

  pub entries_all : i ≡ length words → Written a (strung f words) b
  entries_all e = rw (e, take-length words) at h.front.written

-- ---- over the live slots, in slot order, by an iterator

-- the pieces of the live slots of `past` were put, and those of `rest` are left
pub record StrungLive (flags : List Bool) (a : Writer) (step : ℕ) (f : ℕ → List ℕ) (past rest : List ℕ) (b : Writer) : Type 0 where
  pub whole : past ++ rest ≡ live_slots flags
  pub strings : Strung a step f past b

pub live_none : {flags : List Bool} {n : ℕ} {rest : List ℕ} (a : Writer) (step : ℕ) (f : ℕ → List ℕ) → rest ≡ live_slots flags → PiecesFit a step n
    → StrungLive flags a step f [] rest a
live_none {n = n} a step f all fits = record { whole = all; strings = strung_none a step n f fits }

module _ {flags : List Bool} {a b : Writer} {step : ℕ} {f : ℕ → List ℕ} {past rest : List ℕ} (h : StrungLive flags a step f past rest b) where
  module _ {x : ℕ} {later : List ℕ} (next : rest ≡ x ∷ later) where
    whole_next : past ++ (x ∷ later) ≡ live_slots flags
    whole_next = ap (λ (l : List ℕ). past ++ l) (sym next) ∙ h.whole

    -- the slot that comes next is live
    pub live_next : get_or flags x false ≡ true
    live_next =
        let few : length past < length (past ++ (x ∷ later)) = simp length-append (omega arith) in
        let there = member_at (past ++ (x ∷ later)) (length past) 0 few in
        sym (member_live_slots flags x) ∙ ap (λ (l : List ℕ). member x l) (sym whole_next) ∙ (rw (get_or-append_seam past x later 0) at there)

    pub live_more : ((x : ℕ) → length (f x) ≡ step) → {c : Writer} → Written b (f x) c → StrungLive flags a step f (past ++ (x ∷ [])) later c
    live_more long w = record { whole = append_snoc past x later ∙ whole_next; strings = strung_more h.strings long x w }

    pub live_room : PiecesFit a step (live_count flags) → PiecesFit b step 1
    live_room fits =
        strung_room h.strings fits (omega (arith, length_live_slots flags, simp length-append at (ap length whole_next)))

  pub live_all : rest ≡ [] → Written a (strung f (live_slots flags)) b
  live_all none = rw (sym (append-nil past) ∙ ap (λ (l : List ℕ). past ++ l) (sym none) ∙ h.whole) at h.strings.written

-- ---- rows and records

-- a row of words
pub row_strung : (w : ℕ) (g : ℕ → ℕ) (xs : List ℕ) → strung (λ x. bits_of w (g x)) xs ≡ row w (map g xs)
unfolding strung row
row_strung w g [] = refl
row_strung w g (x ∷ xs) = ap (λ (l : List ℕ). bits_of w (g x) ++ l) (row_strung w g xs)

-- the records of edges
pub records_strung : (w : ℕ) (r : ℕ → EdgeRecord) (es : List ℕ) → strung (λ e. record_bits w (r e)) es ≡ edge_bits w (map r es)
unfolding strung edge_bits
records_strung w r [] = refl
records_strung w r (e ∷ es) = rw (records_strung w r es) (simp (append_assoc, append-nil))
