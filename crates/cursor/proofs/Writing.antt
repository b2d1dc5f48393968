-- A list of edges read one by one, and written to a slice, turn by turn.
use Rattle.std.specs.Prelude.{ℕ, ◌+◌, ◌≤◌, ◌<◌, ◌≡◌, List, [], ◌∷◌, ◌++◌, map, length, set, drop}
use Rattle.plain.specs.Library.{sym, ◌∙◌, append-nil, length-append, length-set, length-map, append_snoc, arith}
use Rattle.plain.specs.Lists.{written}
use Rattle.plain.proofs.Laws.Booleans.{or_true}
use Rattle.plain.proofs.Laws.ListLaws.{map_snoc, member_first, member_append}
use Rattle.plain.specs.Lists.{member}
use Rattle.shape.specs.Chains.{In}
use Rattle.cursor.specs.Laws.Reading.{write_one}

-- Of all edges those of `past` are read and those of `left` are not, and the slice holds a word f of each that is read, n words from its start on.
pub record Writing (f : ℕ → ℕ) (all left out₀ out : List ℕ) (n : ℕ) : Type 0 where
  pub past : List ℕ
  pub whole : all ≡ past ++ left
  pub counted : n ≡ length past
  pub wrote : out ≡ map f past ++ drop n out₀
  pub long : length out ≡ length out₀

module _ {f : ℕ → ℕ} {all left out₀ out : List ℕ} {n : ℕ} (w : Writing f all left out₀ out n) where
  module _ {e : ℕ} {rest : List ℕ} (q : left ≡ e ∷ rest) where
    -- there is room for one edge more
    pub writing_room : length all ≤ length out₀ → n < length out
    writing_room fits =
        let size : length all ≡ length w.past + (1 + length rest) = rw (w.whole, q) (simp length-append (omega arith)) in
        omega (arith, w.long, w.counted)

    -- one edge more
    pub writing_on : length all ≤ length out₀ → Writing f all rest out₀ (set out n (f e)) (n + 1)
    writing_on fits = record {
      past = w.past ++ (e ∷ []);
      whole = w.whole ∙ rw q (sym (append_snoc w.past e rest));
      counted = simp length-append (omega (arith, w.counted));
      wrote = rw (w.wrote, map_snoc f w.past e)
          (write_one (map f w.past) out₀ n (f e) (w.counted ∙ sym (length-map w.past f)) (let room = writing_room fits in omega (arith, w.long)));
      long = length-set out n (f e) ∙ w.long;
    }

    -- it is one of all
    pub writing_in : In e all
    writing_in = rw (w.whole, q, member_append e w.past (e ∷ rest), member_first e rest) (or_true (member e w.past))

  -- past an entry that is not listed
  pub writing_skip : {rest : List ℕ} → left ≡ rest → Writing f all rest out₀ out n
  writing_skip q = record { past = w.past; whole = w.whole ∙ rw q; counted = w.counted; wrote = w.wrote; long = w.long }

  -- all are written
  pub writing_end : left ≡ [] → (n ≡ length all) × (out ≡ written (map f all) out₀)
  writing_end q =
      let read : all ≡ w.past = w.whole ∙ rw q (append-nil w.past) in
      rw read (w.counted, w.wrote ∙ rw (w.counted ∙ sym (length-map w.past f)))
