-- One lot looked at and one lot's in-list gone through: what the loop keeps.
use Rattle.std.specs.Prelude.{ℕ, ◌+◌, ◌≡◌, refl, Bool, true, cond, List, [], ◌∷◌, ◌++◌, length, get_or, set, eqb}
use Rattle.plain.specs.Library.{sym, ap, ◌∙◌, subst, length-set, eq-eqb, ne_eqb}
use Rattle.plain.specs.Lists.{member}
use Rattle.plain.proofs.Laws.Booleans.{by_test}
use Rattle.plain.proofs.Laws.ListLaws.{member_first, member_later}
use Rattle.nearest.specs.Frontier.{Frontier, frontier, dist_in, turn, pushed, expanded}
use Rattle.nearest.specs.Backwards.{Seeable, Expandable}
use Rattle.nearest.proofs.FrontierLaws.{room, turn_held, turn_standing}

-- a lot that is new, and one that is not
pub see_new : (n word x tail : ℕ) (work : List ℕ) → get_or work x 0 ≡ 0 → frontier (tail + 1) (set (set work x word) (n + tail) x) ≡ turn n word x (frontier tail work)
unfolding turn
see_new n word x tail work clear = ap (λ (b : Bool). cond b (pushed n word x (frontier tail work)) (frontier tail work)) (sym (eq-eqb (get_or work x 0) 0 clear))

pub see_old : (n word x tail : ℕ) (work : List ℕ) → (get_or work x 0 ≡ 0 → ⊥) → frontier tail work ≡ turn n word x (frontier tail work)
unfolding turn
see_old n word x tail work seen = ap (λ (b : Bool). cond b (pushed n word x (frontier tail work)) (frontier tail work)) (sym (ne_eqb (get_or work x 0) 0 seen))

-- the slice keeps its length
pub length_turn : (n word x : ℕ) (f : Frontier) → length (turn n word x f).work ≡ length f.work
unfolding turn
length_turn n word x f =
    by_test (eqb (get_or f.work x 0) 0)
    (λ q. ap (λ (b : Bool). length (cond b (pushed n word x f) f).work) q ∙ length-set (set f.work x word) (n + f.tail) x ∙ length-set f.work x word)
    (λ q. ap (λ (b : Bool). length (cond b (pushed n word x f) f).work) q)

pub length_expanded : (n word : ℕ) (source : ℕ → ℕ) (es : List ℕ) (f : Frontier) → length (expanded n source word es f).work ≡ length f.work
unfolding expanded
length_expanded n word source [] f = refl
length_expanded n word source (e ∷ es) f = length_expanded n word source es (turn n word (source e) f) ∙ length_turn n word (source e) f

pub expandable_see : {n word : ℕ} {source : ℕ → ℕ} {e tail : ℕ} {es work : List ℕ} → Expandable n word source (e ∷ es) (frontier tail work) → Seeable n (source e) tail work
expandable_see {e = e} {es = es} h = record {
  low = h.low e (member_first e es);
  long = h.held.long;
  room = room h.consistent _ h.goal h.head h.held _ (h.low e (member_first e es));
}

pub expandable_turn : {n word : ℕ} {source : ℕ → ℕ} {e : ℕ} {es : List ℕ} {f : Frontier} → Expandable n word source (e ∷ es) f
    → Expandable n word source es (turn n word (source e) f)
expandable_turn {n} {word} {source} {e} {es} {f} h =
    let m = h.listed e (member_first e es) in
    let k = h.low e (member_first e es) in
    let s = h.standing in
    record {
      target = h.target;
      out = h.out;
      ins = h.ins;
      consistent = h.consistent;
      goal = h.goal;
      head = h.head;
      lot = h.lot;
      rest = h.rest;
      past = h.past ++ (e ∷ []);
      held = turn_held h.consistent n h.goal h.head h.held word e s.more (subst (λ (v : ℕ). member e (h.ins v) ≡ true) (sym s.at) m) k
          (s.next ∙ ap (λ (v : ℕ). get_or (dist_in n f.work) v 0 + 1) (sym s.at));
      standing = turn_standing h.consistent n h.goal h.head e h.held s m k;
      listed = λ j i. h.listed j (member_later j e es i);
      low = λ j i. h.low j (member_later j e es i);
    }

-- ---- the loop

-- From the frontier f₀ it has come to f, with these edges of the in-list left: what is left to do gives what there was to do.
pub record Expanding (n word : ℕ) (source : ℕ → ℕ) (list : List ℕ) (f₀ : Frontier) (left : List ℕ) (f : Frontier) : Type 0 where
  pub able : Expandable n word source left f
  pub same : expanded n source word left f ≡ expanded n source word list f₀
  pub from_list : (e : ℕ) → member e left ≡ true → member e list ≡ true
  pub same_length : length f.work ≡ length f₀.work

module _ {n word : ℕ} {source : ℕ → ℕ} {list : List ℕ} {f₀ : Frontier} {left : List ℕ} {f : Frontier} (i : Expanding n word source list f₀ left f) where
  module _ {e : ℕ} {later : List ℕ} (next : left ≡ e ∷ later) where
    able_next : Expandable n word source (e ∷ later) f
    able_next = subst (λ (l : List ℕ). Expandable n word source l f) next i.able

    -- the edge is one of the list
    pub expanding_in : member e list ≡ true
    expanding_in = i.from_list e (subst (λ (l : List ℕ). member e l ≡ true) (sym next) (member_first e later))

    pub expanding_see : Seeable n (source e) f.tail f.work
    expanding_see = expandable_see able_next

    -- its source looked at
    pub expanding_on : {g : Frontier} → g ≡ turn n word (source e) f → Expanding n word source list f₀ later g
    unfolding expanded
    expanding_on {g} is = subst (λ (k : Frontier). Expanding n word source list f₀ later k) (sym is) (record {
      able = expandable_turn able_next;
      same = sym (ap (λ (l : List ℕ). expanded n source word l f) next) ∙ i.same;
      from_list = λ k m. i.from_list k (subst (λ (l : List ℕ). member k l ≡ true) (sym next) (member_later k e later m));
      same_length = length_turn n word (source e) f ∙ i.same_length;
    })

  -- none left
  pub expanding_end : left ≡ [] → f ≡ expanded n source word list f₀
  unfolding expanded
  expanding_end over = ap (λ (l : List ℕ). expanded n source word l f) (sym over) ∙ i.same
