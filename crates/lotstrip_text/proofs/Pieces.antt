-- Text written one piece behind the other, and a loop that writes piece by piece.
use Rattle.std.specs.Prelude.{ℕ, ◌+◌, ◌≤◌, ◌≡◌, refl, List, [], ◌++◌, length}
use Rattle.plain.specs.Library.{sym, ap, ◌∙◌, append_assoc, append-nil, length-append, arith}
use Rattle.bits.specs.Laws.Put.{put_length, put_none, put_then}
use Rattle.lotstrip_text.specs.declared.text.Text.{Text}
use Rattle.lotstrip_text.specs.Appending.{Appended}

pub append_then : {a b c : Text} {f g : List ℕ} → Appended a f b → Appended b g c → Appended a (f ++ g) c
append_then h k = record { same = k.same ∙ h.same; put = put_then h.put k.put h.ended; ended = rw length-append (omega (arith, h.ended, k.ended)) }

-- the slice is as long as it was
pub append_length : {a b : Text} {f : List ℕ} → Appended a f b → length b.bytes.now ≡ length a.bytes.now
append_length h = put_length h.put

-- ---- a loop that writes piece by piece

-- what is left is a piece, and then the rest
pub record Next (left piece rest : List ℕ) : Type 0 where
  pub is : left ≡ piece ++ rest

-- `whole` is being written, and `left` is left.
pub record Writing (a : Text) (whole left : List ℕ) (b : Text) : Type 0 where
  pub past : List ℕ
  pub parts : past ++ left ≡ whole
  pub appended : Appended a past b
  pub room : a.end + length whole ≤ length a.bytes.now

pub writing_start : (a : Text) (whole : List ℕ) → a.end + length whole ≤ length a.bytes.now → Writing a whole whole a
writing_start a whole h =
    record { past = []; parts = refl; appended = record { same = refl; put = put_none a.bytes.now a.end (omega arith); ended = omega arith }; room = h }

module _ {a b : Text} {whole left : List ℕ} (w : Writing a whole left b) where
  -- the next piece has room
  pub writing_room : {piece rest : List ℕ} → Next left piece rest → b.end + length piece ≤ length b.bytes.now
  writing_room {piece} {rest} next =
      let long = ap length (sym w.parts ∙ ap (λ (l : List ℕ). w.past ++ l) next.is) ∙ length-append w.past (piece ++ rest) in
      omega (arith, w.room, w.appended.ended, append_length w.appended, long, length-append piece rest)

  -- one piece more
  pub writing_more : {piece rest : List ℕ} {c : Text} → Next left piece rest → Appended b piece c → Writing a whole rest c
  writing_more {piece} {rest} next k =
      record {
        past = w.past ++ piece;
        parts = append_assoc w.past piece rest ∙ ap (λ (l : List ℕ). w.past ++ l) (sym next.is) ∙ w.parts;
        appended = append_then w.appended k;
        room = w.room;
      }

  -- nothing is left
  pub writing_end : left ≡ [] → Appended a whole b
  writing_end is = let all : w.past ≡ whole = sym (append-nil w.past) ∙ ap (λ (l : List ℕ). w.past ++ l) (sym is) ∙ w.parts in rw all at w.appended
