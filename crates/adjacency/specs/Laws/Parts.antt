-- A part of a slice that was lent and rewritten is a range of the whole.
use Rattle.std.specs.Prelude.{ℕ, ◌+◌, ◌-◌, ◌≤◌, ◌<◌, ◌≡◌, List, ◌++◌, length, take, drop, get_or}
use Rattle.plain.specs.Library.{sym, ap, subst, ◌∙◌, zero-add, length-append, length-drop, arith}
use Rattle.std.proofs.lemmas.List.{length-take, length-take-le, get_or-take, get_or-drop, get_or_append_left, get_or-append_right}
use Rattle.shape.specs.Index.{Rewritten}

module _ (ws : List ℕ) (at n : ℕ) (room : at + n ≤ length ws) where
  pub part_long : length (take n (drop at ws)) ≡ n
  part_long = simp (length-take, length-drop) (omega arith)

  -- a word of the part
  pub part_word : (x : ℕ) → x < n → get_or (take n (drop at ws)) x 0 ≡ get_or ws (at + x) 0
  part_word x h = get_or-take n (drop at ws) x 0 h ∙ get_or-drop at ws x 0

module _ {xs : List ℕ} {f : ℕ → ℕ} (ws : List ℕ) (at n : ℕ) (room : at + n ≤ length ws) (r : Rewritten (take n (drop at ws)) xs 0 (length (take n (drop at ws))) f) where
  abbrev before : List ℕ
  before = take at ws

  abbrev after : List ℕ
  after = drop n (drop at ws)

  before_long : length before ≡ at
  before_long = length-take-le at ws (omega arith)

  many : length xs ≡ n
  many = r.long ∙ part_long ws at n room

  read : (x : ℕ) → x < n → get_or (before ++ (xs ++ after)) (at + x) 0 ≡ f x
  read x h =
      let same : at + x - at ≡ x = omega arith in
      get_or-append_right before (xs ++ after) at (at + x) 0 before_long (omega arith)
      ∙ ap (λ (k : ℕ). get_or (xs ++ after) k 0) same
      ∙ get_or_append_left xs after 0 x (omega (arith, many))
      ∙ ap (λ (k : ℕ). get_or xs k 0) (sym (zero-add x))
      ∙ r.within x (omega (arith, part_long ws at n room))

  kept : (i : ℕ) → at + n ≤ i → get_or (before ++ (xs ++ after)) i 0 ≡ get_or ws i 0
  kept i h =
      let same : at + (n + (i - at - n)) ≡ i = omega arith in
      get_or-append_right before (xs ++ after) at i 0 before_long (omega arith)
      ∙ get_or-append_right xs after n (i - at) 0 many (omega arith)
      ∙ get_or-drop n (drop at ws) (i - at - n) 0
      ∙ get_or-drop at ws (n + (i - at - n)) 0
      ∙ ap (λ (k : ℕ). get_or ws k 0) same

  pub part_rewritten : Rewritten ws (before ++ (xs ++ after)) at n f
  part_rewritten = record {
    long = simp (length-append, length-drop) (omega (arith, before_long, many));
    within = read;
    below = λ i h. get_or_append_left before (xs ++ after) 0 i (omega (arith, before_long)) ∙ get_or-take at ws i 0 h;
    above = kept;
  }

  -- that number of words said otherwise
  pub part_rewritten_as : {m : ℕ} → n ≡ m → Rewritten ws (before ++ (xs ++ after)) at m f
  part_rewritten_as e = subst (λ (k : ℕ). Rewritten ws (before ++ (xs ++ after)) at k f) e part_rewritten
