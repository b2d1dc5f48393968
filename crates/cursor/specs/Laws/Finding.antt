-- A search in the edges of a walk, turn by turn: the edge found is the first that is wanted, and one that is not wanted changes nothing.
use Rattle.std.specs.Prelude.{ℕ, ◌≡◌, refl, Bool, true, false, List, [], ◌∷◌}
use Rattle.plain.specs.Library.{◌∙◌}
use Rattle.plain.specs.Numbers.{NONE}
use Rattle.plain.specs.Lists.{keep}
use Rattle.plain.proofs.Laws.Booleans.{by_test}
use Rattle.plain.proofs.Laws.ListLaws.{member_first, member_later}
use Rattle.shape.specs.Chains.{In}
use Rattle.cursor.specs.Finding.{first_of}
use Rattle.cursor.specs.Laws.Reading.{keep_first, keep_past, keep_none}

-- What holds at each turn of a search in all edges that has come to those left: it finds among these what it finds among all.
pub record Searching (wanted : ℕ → Bool) (all left : List ℕ) : Type 0 where
  pub same : first_of wanted all ≡ first_of wanted left
  pub among : (e : ℕ) → In e left → In e all

-- where it starts
pub search_start : {wanted : ℕ → Bool} (all : List ℕ) → Searching wanted all all
search_start all = record { same = refl; among = λ e m. m }

module _ {wanted : ℕ → Bool} {all left : List ℕ} (i : Searching wanted all left) where
  -- an edge that is wanted
  pub search_found : {e : ℕ} {rest : List ℕ} → left ≡ e ∷ rest → wanted e ≡ true → first_of wanted all ≡ e
  unfolding first_of keep
  search_found q t = i.same ∙ rw (q, t)

  -- an edge is one of all
  pub search_in : {e : ℕ} {rest : List ℕ} → left ≡ e ∷ rest → In e all
  search_in {e} {rest} q = i.among e (rw q (member_first e rest))

  -- the end
  pub search_none : left ≡ [] → first_of wanted all ≡ NONE
  unfolding first_of keep
  search_none q = i.same ∙ rw q

  -- past an edge that is not wanted
  pub search_on : {e : ℕ} {rest : List ℕ} → left ≡ e ∷ rest → wanted e ≡ false → Searching wanted all rest
  unfolding first_of keep
  search_on {e} {rest} q t = record { same = i.same ∙ rw (q, t); among = λ k m. i.among k (rw q (member_later k e rest m)) }

-- ---- the same among all entries of a walk, of which some are listed

-- What holds at each turn of a search in all entries that has come to those left: among the listed ones, it finds what it finds among all.
pub record Seeking (wanted test : ℕ → Bool) (all left : List ℕ) : Type 0 where
  pub searching : Searching wanted (keep test all) (keep test left)
  pub among : (e : ℕ) → In e left → In e all

-- where it starts
pub seek_start : {wanted test : ℕ → Bool} (all : List ℕ) → Seeking wanted test all all
seek_start {test = test} all = record { searching = search_start (keep test all); among = λ e m. m }

module _ {wanted test : ℕ → Bool} {all left : List ℕ} (i : Seeking wanted test all left) where
  -- the end
  pub seek_none : left ≡ [] → first_of wanted (keep test all) ≡ NONE
  seek_none q = search_none i.searching (keep_none test q)

  module _ {e : ℕ} {rest : List ℕ} (q : left ≡ e ∷ rest) where
    -- it is one of all
    pub seek_in : In e all
    seek_in = i.among e (rw q (member_first e rest))

    -- an entry that is wanted and listed
    pub seek_found : wanted e ≡ true → test e ≡ true → first_of wanted (keep test all) ≡ e
    seek_found t p = search_found i.searching (keep_first test q p) t

    -- one that is listed is among the listed ones
    pub seek_among : test e ≡ true → In e (keep test all)
    seek_among p = search_in i.searching (keep_first test q p)

    -- past an entry that is not listed
    pub seek_skip : test e ≡ false → Seeking wanted test all rest
    seek_skip p = record { searching = rw (keep_past test q p) at i.searching; among = λ k m. i.among k (rw q (member_later k e rest m)) }

    -- past an entry that is not wanted, listed or not
    pub seek_on : wanted e ≡ false → Seeking wanted test all rest
    seek_on t =
        by_test (test e)
        (λ p. record { searching = search_on i.searching (keep_first test q p) t; among = λ k m. i.among k (rw q (member_later k e rest m)) }) seek_skip
