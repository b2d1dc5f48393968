-- The lists of a checked store are a network that the search goes through: what the search and the way forward need of it.
use Rattle.std.specs.Prelude.{ℕ, zero, suc, ◌≤◌, ◌<◌, ◌≡◌, refl, true, false, List, ◌∷◌, map, length, get_or, eqb}
use Rattle.plain.specs.Library.{sym, ap, ap₂, ◌∙◌, subst, Option, arith, eqb-true, eq-eqb}
use Rattle.plain.specs.declared.TraversalDirection.{TraversalDirection}
use Rattle.plain.specs.declared.TraversalDirection.TheVariants.{Outgoing, Incoming}
use Rattle.plain.specs.Numbers.{LIMIT}
use Rattle.plain.specs.Lists.{member, joined}
use Rattle.plain.specs.Plain.{edge_flags, list_of, end_of}
use Rattle.plain.proofs.Laws.Booleans.{and_left, and_right, both_true}
use Rattle.plain.proofs.Laws.ListLaws.{map_same}
use Rattle.plain.proofs.Laws.Operating.{incident, node_below, edge_below}
use Rattle.shape.specs.Columns.{end_at}
use Rattle.shape.specs.Shape.{Words, node_capacity, edge_capacity, axis_words, lists}
use Rattle.shape.specs.Checked.{Checked}
use Rattle.shape.proofs.Laws.Reading.{plain_node_bound, plain_edge_bound, plain_end}
use Rattle.nearest.specs.Chains.{first_candidate, or_else, chains, nearest_from, nearest}
use Rattle.nearest.specs.Laws.Chains.{Within}
use Rattle.nearest.specs.Search.{Consistent}
use Rattle.nearest.specs.Stores.{network, LiveLot}

-- ---- chains depend on the targets of listed edges alone

module _ (out : ℕ → List ℕ) (t u : ℕ → ℕ) (same : (x e : ℕ) → member e (out x) ≡ true → t e ≡ u e) where
  chains_same : (k x y : ℕ) → chains out t k x y ≡ chains out u k x y
  unfolding chains
  chains_same zero x y = refl
  chains_same (suc k) x y =
      ap joined (map_same (λ e. map (λ (c : List ℕ). e ∷ c) (chains out t k (t e) y)) (λ e. map (λ (c : List ℕ). e ∷ c) (chains out u k (u e) y)) (out x)
      (λ e m. ap (map (λ (c : List ℕ). e ∷ c)) (chains_same k (t e) y ∙ ap (λ (z : ℕ). chains out u k z y) (same x e m))))

  nearest_from_same : (k n x y : ℕ) → nearest_from out t k n x y ≡ nearest_from out u k n x y
  unfolding nearest_from
  nearest_from_same k zero x y = refl
  nearest_from_same k (suc n) x y =
      ap₂ {B = Option (List ℕ)} (λ (cs : List (List ℕ)) (o : Option (List ℕ)). or_else (first_candidate cs) o) (chains_same k x y) (nearest_from_same (suc k) n x y)

  nearest_same : (n x y : ℕ) → nearest out t n x y ≡ nearest out u n x y
  unfolding nearest
  nearest_same n x y = nearest_from_same 0 n x y

-- ---- a checked store

module _ {w : Words} (k : Checked w) where
  pub few : node_capacity w ≤ LIMIT
  few = (k.axis Outgoing).sized.nodes_within

  pub ends_long : (d : TraversalDirection) → edge_capacity w ≤ length (axis_words d w)
  ends_long d = let room = (k.axis d).sized.room in omega arith

  -- a live edge and a live lot are below the bounds
  edge_low : (e : ℕ) → get_or (edge_flags (lists w)) e false ≡ true → e < w.counts.edges.bound
  edge_low e live = let low = edge_below (lists w) e live in let b = plain_edge_bound w in omega arith

  pub lot_below : (x : ℕ) → LiveLot w x → x < w.counts.nodes.bound
  lot_below x live = let low = node_below (lists w) x live in let b = plain_node_bound w in omega arith

  pub lot_within : (x : ℕ) → LiveLot w x → x < node_capacity w
  lot_within x live = let low = lot_below x live in let b = k.nodes.bounded.bound_within in omega arith

  -- a listed edge is live, and its end is the lot that lists it
  listed_live : (d : TraversalDirection) (x e : ℕ) → member e (list_of d (lists w) x) ≡ true → get_or (edge_flags (lists w)) e false ≡ true
  listed_live d x e m = and_left (get_or (edge_flags (lists w)) e false) (eqb (end_of d (lists w) e) x) (sym ((incident k.walks d).listed x e) ∙ m)

  listed_end : (d : TraversalDirection) (x e : ℕ) → member e (list_of d (lists w) x) ≡ true → end_of d (lists w) e ≡ x
  listed_end d x e m =
      eqb-true (end_of d (lists w) e) x
      (and_right (get_or (edge_flags (lists w)) e false) (eqb (end_of d (lists w) e) x) (sym ((incident k.walks d).listed x e) ∙ m))

  -- its ends are those of the words
  listed_word : (d f : TraversalDirection) (x e : ℕ) → member e (list_of d (lists w) x) ≡ true → end_of f (lists w) e ≡ end_at (axis_words f w) e
  listed_word d f x e m = plain_end w f e (edge_low e (listed_live d x e m))

  -- and it is listed at its other end
  listed_there : (d f : TraversalDirection) (x e : ℕ) → member e (list_of d (lists w) x) ≡ true → member e (list_of f (lists w) (end_at (axis_words f w) e)) ≡ true
  listed_there d f x e m =
      subst (λ (y : ℕ). member e (list_of f (lists w) y) ≡ true) (listed_word d f x e m)
      ((incident k.walks f).listed (end_of f (lists w) e) e ∙ both_true (listed_live d x e m) (eq-eqb (end_of f (lists w) e) (end_of f (lists w) e) refl))

  -- so it is no mark for none
  pub listed_few : (d : TraversalDirection) (x e : ℕ) → member e (list_of d (lists w) x) ≡ true → e < LIMIT
  listed_few d x e m =
      let low = edge_low e (listed_live d x e m) in
      let b = k.edges.bounded.bound_within in
      let most = (k.axis d).sized.edges_within in
      omega arith

  pub consistent : Consistent (network w)
  consistent = record {
    out_source = λ x e m. sym (listed_word Outgoing Outgoing x e m) ∙ listed_end Outgoing x e m;
    in_target = λ z e m. sym (listed_word Incoming Incoming z e m) ∙ listed_end Incoming z e m;
    out_in = listed_there Outgoing Incoming;
    in_out = listed_there Incoming Outgoing;
  }

  -- both ends of a listed edge are live lots
  pub end_live : (d f : TraversalDirection) (x e : ℕ) → member e (list_of d (lists w) x) ≡ true → LiveLot w (end_at (axis_words f w) e)
  end_live d f x e m = subst (λ (y : ℕ). LiveLot w y) (listed_word d f x e m) (k.walks.ends_live f e (listed_live d x e m))

  pub end_within : (d f : TraversalDirection) (x e : ℕ) → member e (list_of d (lists w) x) ≡ true → end_at (axis_words f w) e < node_capacity w
  end_within d f x e m = lot_within (end_at (axis_words f w) e) (end_live d f x e m)

  pub within : Within (list_of Outgoing (lists w)) (end_at w.incoming) (node_capacity w)
  within = end_within Outgoing Incoming

  pub listed_within : (d f : TraversalDirection) (x e : ℕ) → member e (list_of d (lists w) x) ≡ true → e < length (axis_words f w)
  listed_within d f x e m =
      let low = edge_low e (listed_live d x e m) in
      let b = k.edges.bounded.bound_within in
      let room = ends_long f in
      omega arith

  -- the nearest chain, by the targets that the words have
  pub nearest_by_words : (n x y : ℕ) → nearest (list_of Outgoing (lists w)) (end_of Incoming (lists w)) n x y ≡ nearest (list_of Outgoing (lists w)) (end_at w.incoming) n x y
  nearest_by_words = nearest_same (list_of Outgoing (lists w)) (end_of Incoming (lists w)) (end_at w.incoming) (listed_word Outgoing Incoming)
