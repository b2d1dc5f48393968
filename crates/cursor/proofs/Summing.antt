-- The sums over edges, turn by turn: what both sums are so far, and what is left of them.
use Rattle.std.specs.Prelude.{ℕ, ◌+◌, ◌*◌, ◌^◌, ◌≤◌, ◌<◌, ◌≡◌, List, [], ◌∷◌, map, length}
use Rattle.plain.specs.Library.{arith}
use Rattle.plain.specs.Lists.{sum}
use Rattle.plain.proofs.Laws.ListLaws.{member_first, member_later}
use Rattle.shape.specs.Chains.{In}

-- What holds at each turn of a summing of f and g over all edges that has come to those left: a sum and that of what is left are the whole sum, and it is
-- one of as many words of 32 bits as edges are past.
pub record Summing (f g : ℕ → ℕ) (all left : List ℕ) (low high : ℕ) : Type 0 where
  pub past : ℕ
  pub counted : past + length left ≡ length all
  pub low_left : low + sum (map f left) ≡ sum (map f all)
  pub high_left : high + sum (map g left) ≡ sum (map g all)
  pub low_within : low ≤ 4_294_967_295 * past
  pub high_within : high ≤ 4_294_967_295 * past
  pub among : (e : ℕ) → In e left → In e all

module _ {f g : ℕ → ℕ} {all left : List ℕ} {low high : ℕ} (i : Summing f g all left low high) where
  -- at the end both are the whole sums
  pub summing_end : left ≡ [] → (low ≡ sum (map f all)) × (high ≡ sum (map g all))
  unfolding sum
  summing_end q = (omega (arith, rw q at i.low_left), omega (arith, rw q at i.high_left))

  -- past an entry that is not listed
  pub summing_skip : {rest : List ℕ} → left ≡ rest → Summing f g all rest low high
  summing_skip q = record {
    past = i.past;
    counted = rw q at i.counted;
    low_left = rw q at i.low_left;
    high_left = rw q at i.high_left;
    low_within = i.low_within;
    high_within = i.high_within;
    among = λ k m. i.among k (rw q m);
  }

  module _ {e : ℕ} {rest : List ℕ} (q : left ≡ e ∷ rest) where
    -- it is one of all
    pub summing_in : In e all
    summing_in = i.among e (rw q (member_first e rest))

    -- there is an edge more
    more : i.past + (1 + length rest) ≡ length all
    more = omega (arith, rw q at i.counted)

    -- past one edge more
    pub summing_on : f e < 2 ^ 32 → g e < 2 ^ 32 → Summing f g all rest (low + f e) (high + g e)
    unfolding sum
    summing_on low_fits high_fits = record {
      past = i.past + 1;
      counted = omega (arith, more);
      low_left = omega (arith, rw q at i.low_left);
      high_left = omega (arith, rw q at i.high_left);
      low_within = omega (arith, i.low_within);
      high_within = omega (arith, i.high_within);
      among = λ k m. i.among k (rw q (member_later k e rest m));
    }
