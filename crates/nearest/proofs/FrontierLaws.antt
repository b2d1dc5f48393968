-- What one lot's in-list gone through keeps of the search.
use Rattle.std.specs.Prelude.{ℕ, suc, ◌+◌, ◌*◌, ◌<◌, ◌≡◌, Bool, true, false, cond, List, [], ◌∷◌, ◌++◌, length, get_or, set, take, drop, eqb}
use Rattle.plain.specs.Library.{sym, ap, ◌∙◌, subst, append_assoc, append-nil, length-set, length-drop, get_or-append, get_or-set_other, add-one, arith, eqb-true, eqb-false}
use lib.Seq.{take-set-lt, take-set-le, drop-set-lt, drop-set-add, take-suc-set, get_or-take, length-take-le}
use Rattle.plain.specs.Lists.{member}
use Rattle.plain.proofs.Laws.Booleans.{by_test, true_false}
use Rattle.plain.proofs.Laws.ListLaws.{member_first, member_later}
use Rattle.nearest.specs.Search.{Network, Consistent, Search}
use Rattle.nearest.specs.Frontier.{dist_in, queue_in, Frontier, pushed, turn, expanded, Held, Standing}
use Rattle.nearest.proofs.SearchLaws.{head_seen, word_unseen, queue_room, search_known, search_new, search_next}

module _ {t : Network} (consistent : Consistent t) (n y head : ℕ) where
  module _ {rest past : List ℕ} {f : Frontier} (h : Held t n y head rest past f) where
    dist_long : length (dist_in n f.work) ≡ n
    dist_long = length-take-le n f.work (let l = h.long in omega arith)

    pub queue_long : length (queue_in n f.tail f.work) ≡ f.tail
    queue_long = length-take-le f.tail (drop n f.work) (let l = h.long in let w = h.within in let d = length-drop n f.work in omega arith)

    -- a word of the slice is a word of the search
    pub dist_word : (x : ℕ) → x < n → get_or (dist_in n f.work) x 0 ≡ get_or f.work x 0
    dist_word x low = get_or-take n f.work x 0 low

    -- a lot not seen has room in the queue
    pub room : (x : ℕ) → x < n → get_or f.work x 0 ≡ 0 → f.tail < n
    room x low clear =
        let new = word_unseen consistent h.search x (dist_word x low ∙ clear) in
        let r = queue_room consistent h.search x (let d = dist_long in omega arith) new in
        let d = dist_long in
        let q = queue_long in
        omega arith

    module _ (word e : ℕ) (more : head < f.tail) (here : member e (t.ins (get_or (queue_in n f.tail f.work) head 0)) ≡ true) (low : t.source e < n)
        (next : word ≡ get_or (dist_in n f.work) (get_or (queue_in n f.tail f.work) head 0) 0 + 1) where
      abbrev x : ℕ
      x = t.source e

      -- the words after a new lot is put into the queue
      dist_after : dist_in n (set (set f.work x word) (n + f.tail) x) ≡ set (dist_in n f.work) x word
      dist_after = take-set-le n (set f.work x word) (n + f.tail) x (omega arith) ∙ take-set-lt n f.work x word low

      queue_after : get_or f.work x 0 ≡ 0 → queue_in n (f.tail + 1) (set (set f.work x word) (n + f.tail) x) ≡ queue_in n f.tail f.work ++ (x ∷ [])
      queue_after clear =
          ap (take (f.tail + 1)) (drop-set-add n (set f.work x word) f.tail x ∙ ap (λ (l : List ℕ). set l f.tail x) (drop-set-lt n f.work x word low))
          ∙ ap (λ (k : ℕ). take k (set (drop n f.work) f.tail x)) (add-one f.tail)
          ∙ take-suc-set (drop n f.work) f.tail x (let r = room x low clear in let l = h.long in let d = length-drop n f.work in omega arith)

      -- an edge whose source is new
      push_held : get_or f.work (t.source e) 0 ≡ 0 → Held t n y head rest (past ++ (e ∷ [])) (pushed n word (t.source e) f)
      push_held clear = record {
        long = let a = length-set (set f.work x word) (n + f.tail) x in let b = length-set f.work x word in let l = h.long in omega arith;
        within = let r = room x low clear in omega arith;
        beyond = drop-set-lt (2 * n) (set f.work x word) (n + f.tail) x (let r = room x low clear in omega arith)
            ∙ drop-set-lt (2 * n) f.work x word (omega arith) ∙ h.beyond;
        search = subst (λ (d : List ℕ). Search t y d (queue_in n (f.tail + 1) (pushed n word x f).work) head (past ++ (e ∷ []))) (sym dist_after)
            (subst (λ (o : List ℕ). Search t y (set (dist_in n f.work) x word) o head (past ++ (e ∷ []))) (sym (queue_after clear))
            (subst (λ (w : ℕ). Search t y (set (dist_in n f.work) x w) (queue_in n f.tail f.work ++ (x ∷ [])) head (past ++ (e ∷ []))) (sym next)
            (search_new consistent h.search (let q = queue_long in omega arith) e here (dist_word x low ∙ clear) (let d = dist_long in omega arith))));
      }

      pub turn_held : Held t n y head rest (past ++ (e ∷ [])) (turn n word (t.source e) f)
      unfolding turn
      turn_held =
          by_test (eqb (get_or f.work (t.source e) 0) 0)
          (λ q. subst (λ (b : Bool). Held t n y head rest (past ++ (e ∷ [])) (cond b (pushed n word (t.source e) f) f)) (sym q)
          (push_held (eqb-true (get_or f.work (t.source e) 0) 0 q)))
          (λ q. subst (λ (b : Bool). Held t n y head rest (past ++ (e ∷ [])) (cond b (pushed n word (t.source e) f) f)) (sym q) (record {
            long = h.long;
            within = h.within;
            beyond = h.beyond;
            search = search_known consistent h.search e
                (λ z. eqb-false (get_or f.work (t.source e) 0) 0 q (sym (dist_word (t.source e) low) ∙ z));
          }))

      -- the lot at the head and its word are as before
      push_standing : get_or f.work (t.source e) 0 ≡ 0
          → (get_or (queue_in n (f.tail + 1) (pushed n word (t.source e) f).work) head 0 ≡ get_or (queue_in n f.tail f.work) head 0)
          × (get_or (dist_in n (pushed n word (t.source e) f).work) (get_or (queue_in n f.tail f.work) head 0) 0
          ≡ get_or (dist_in n f.work) (get_or (queue_in n f.tail f.work) head 0) 0)
      push_standing clear = (
        ap (λ (l : List ℕ). get_or l head 0) (queue_after clear) ∙ get_or-append (queue_in n f.tail f.work) (x ∷ []) 0 head (let q = queue_long in omega arith),
        ap (λ (l : List ℕ). get_or l (get_or (queue_in n f.tail f.work) head 0) 0) dist_after
            ∙ get_or-set_other (dist_in n f.work) x (get_or (queue_in n f.tail f.work) head 0) word 0
            (λ q. true_false (head_seen consistent h.search (let l = queue_long in omega arith))
            (subst (λ (v : ℕ). member v (queue_in n f.tail f.work) ≡ false) (sym q) (word_unseen consistent h.search x (dist_word x low ∙ clear)))),
      )

  -- ---- a whole in-list

  pub turn_standing : {rest past : List ℕ} {f : Frontier} {z word : ℕ} (e : ℕ) → Held t n y head rest past f → Standing n head z word f → member e (t.ins z) ≡ true
      → t.source e < n
      → Standing n head z word (turn n word (t.source e) f)
  unfolding turn
  turn_standing {f = f} {z} {word} e h s m low =
      by_test (eqb (get_or f.work (t.source e) 0) 0)
      (λ q. subst (λ (b : Bool). Standing n head z word (cond b (pushed n word (t.source e) f) f)) (sym q) (new (eqb-true (get_or f.work (t.source e) 0) 0 q)))
      (λ q. subst (λ (b : Bool). Standing n head z word (cond b (pushed n word (t.source e) f) f)) (sym q) s)
    where
      new : get_or f.work (t.source e) 0 ≡ 0 → Standing n head z word (pushed n word (t.source e) f)
      new clear =
          let both = push_standing h word e s.more (subst (λ (v : ℕ). member e (t.ins v) ≡ true) (sym s.at) m) low
          (s.next ∙ ap (λ (v : ℕ). get_or (dist_in n f.work) v 0 + 1) (sym s.at)) clear in
          record {
            more = let k = s.more in omega arith;
            at = both.0 ∙ s.at;
            next = s.next ∙ ap (λ (v : ℕ). v + 1)
                (sym (ap (λ (v : ℕ). get_or (dist_in n (pushed n word (t.source e) f).work) v 0) (sym s.at) ∙ both.1 ∙ ap (λ (v : ℕ). get_or (dist_in n f.work) v 0) s.at));
          }

  pub expanded_held : (es : List ℕ) {rest past : List ℕ} {f : Frontier} {z word : ℕ} → Held t n y head rest past f → Standing n head z word f
      → ((e : ℕ) → member e es ≡ true → member e (t.ins z) ≡ true) → ((e : ℕ) → member e es ≡ true → t.source e < n)
      → Held t n y head rest (past ++ es) (expanded n t.source word es f) × Standing n head z word (expanded n t.source word es f)
  unfolding expanded
  expanded_held [] {rest} {past} {f} h s listed low = (subst (λ (l : List ℕ). Held t n y head rest l f) (sym (append-nil past)) h, s)
  expanded_held (e ∷ es) {rest} {past} {f} {z} {word} h s listed low =
      let m = listed e (member_first e es) in
      let k = low e (member_first e es) in
      let held = turn_held h word e s.more (subst (λ (v : ℕ). member e (t.ins v) ≡ true) (sym s.at) m) k
      (s.next ∙ ap (λ (v : ℕ). get_or (dist_in n f.work) v 0 + 1) (sym s.at)) in
      let rest-held = expanded_held es held (turn_standing e h s m k) (λ j i. listed j (member_later j e es i)) (λ j i. low j (member_later j e es i)) in
      (subst (λ (l : List ℕ). Held t n y head rest l (expanded n t.source word es (turn n word (t.source e) f))) (append_assoc past (e ∷ []) es) rest-held.0, rest-held.1)

-- one lot of the queue done: the next
pub expanded_next : {t : Network} (consistent : Consistent t) (n y head : ℕ) {rest : List ℕ} {f : Frontier} {z word : ℕ} → Held t n y head rest [] f
    → Standing n head z word f → ((e : ℕ) → member e (t.ins z) ≡ true → t.source e < n) → Held t n y (suc head) rest [] (expanded n t.source word (t.ins z) f)
expanded_next {t} consistent n y head {z = z} h s low =
    let both = expanded_held consistent n y head (t.ins z) h s (λ e m. m) low in
    record {
      long = both.0.long;
      within = both.0.within;
      beyond = both.0.beyond;
      search = search_next consistent both.0.search (let q = queue_long consistent n y head both.0 in let m = both.1.more in omega arith)
          (λ e m. subst (λ (v : ℕ). member e (t.ins v) ≡ true) both.1.at m);
    }
