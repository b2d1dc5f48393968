-- The found edge: a live edge from the one node to the other, and NONE only where there is none. So what finding gives is what it was allowed to give before
-- request 1, when any such edge would do.
use Rattle.std.specs.Prelude.{ℕ, ◌≡◌, refl, Bool, true, false, ◌&&◌, List, [], ◌∷◌, get_or, eqb}
use Rattle.plain.specs.Library.{sym, ap, ◌∙◌, eq-eqb}
use Rattle.plain.specs.declared.TraversalDirection.TheVariants.{Outgoing, Incoming}
use Rattle.plain.specs.Numbers.{NONE}
use Rattle.plain.specs.Lists.{member, keep}
use Rattle.plain.specs.Plain.{Plain, edge_flags, list_of, end_of}
use Rattle.plain.specs.Step.{Capacities}
use Rattle.plain.specs.Reads.{live_slots, found}
use Rattle.plain.specs.WellFormed.{WellFormed}
use Rattle.plain.proofs.Laws.Booleans.{true_false}
use Rattle.plain.proofs.Laws.ListLaws.{member_first, member_keep}
use Rattle.plain.proofs.Laws.Rank.{member_live_slots}
use Rattle.plain.specs.Laws.Finding.{edges_between, one_of}

one_of_member : (l : List ℕ) (e : ℕ) → member e l ≡ true → one_of l e ≡ true
unfolding member
one_of_member [] e m = true_false m refl
one_of_member (x ∷ l) e m = m

-- the first, or NONE, of a list with the members of another
one_of_first : (l k : List ℕ) → ((e : ℕ) → member e l ≡ member e k) → one_of k (get_or l 0 NONE) ≡ true
unfolding member
one_of_first [] [] same = eq-eqb NONE NONE refl
one_of_first [] (x ∷ k) same = true_false (member_first x k) (sym (same x))
one_of_first (e ∷ l) k same = one_of_member k e (sym (same e) ∙ member_first e l)

module _ {caps : Capacities} {p : Plain} (formed : WellFormed caps p) (a b : ℕ) where
  -- the entries of one node's out-list that end at another are the live edges between the two
  between_are : (e : ℕ) → member e (keep (λ e. eqb (end_of Incoming p e) b) (list_of Outgoing p a)) ≡ member e (edges_between p a b)
  unfolding edges_between
  between_are e =
      let ends : ℕ → Bool = λ e. eqb (end_of Incoming p e) b in
      let both : ℕ → Bool = λ e. eqb (end_of Outgoing p e) a && ends e in
      member_keep ends e (list_of Outgoing p a) ∙ ap (λ (t : Bool). t && ends e) (formed.outgoing.listed a e)
      ∙ and_assoc (get_or (edge_flags p) e false) (eqb (end_of Outgoing p e) a) (ends e)
      ∙ sym (member_keep both e (live_slots (edge_flags p)) ∙ ap (λ (t : Bool). t && both e) (member_live_slots (edge_flags p) e))
    where
      and_assoc : (x y z : Bool) → ((x && y) && z) ≡ (x && (y && z))
      and_assoc true y z = refl
      and_assoc false y z = refl

  pub found_between : one_of (edges_between p a b) (found p a b) ≡ true
  found_between = one_of_first (keep (λ e. eqb (end_of Incoming p e) b) (list_of Outgoing p a)) (edges_between p a b) between_are
