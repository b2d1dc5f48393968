-- The loop that reads a run up to its first dead entry.
use Rattle.std.specs.Prelude.{ℕ, ◌+◌, ◌-◌, ◌*◌, ◌<◌, ◌≡◌, refl, Bool, true, false, ◌⊎◌, List, [], ◌∷◌, ◌++◌, length, take, drop}
use Rattle.plain.specs.Library.{sym, ap, ◌∙◌, inl, inr, ⊎_elim, append-nil, length-append, append_snoc}
use Prim.Native.Nat.{zero-le}
use lib.Seq.{take-append_seam, drop-append_seam}
use Rattle.plain.specs.declared.Counts.{Counts}
use Rattle.plain.specs.Lists.{member}
use Rattle.plain.proofs.Laws.Booleans.{true_false, refuted}
use Rattle.plain.proofs.Laws.ListLaws.{member_first, distinct_apart}
use Rattle.liveness.specs.Flags.{live_flags}
use Rattle.shape.specs.Columns.{cell, link_at, first_at, count_at}
use Rattle.shape.specs.Chains.{Line, chain}
use Rattle.shape.specs.Shape.{live_in, run_list}
use Rattle.shape.specs.Steps.{LiveOnly}
use Rattle.shape.proofs.Laws.Chains.{in_none, in_snoc, line_one, line_more, chain_none, chain_some, chain_length, run_is, run_once}
use Rattle.shape.proofs.Laws.Frames.{run_list_below}
use Rattle.shape.proofs.Laws.Keeping.{in_second}
use Rattle.runs.specs.Runs.{Scannable, Scanned}
use Rattle.runs.specs.Laws.Pushing.{run_before}

-- `front` is what has been read, all of it live; `left` entries from p on are to come.
pub record Scanning (ws : List ℕ) (ce cn node : ℕ) (live : List ℕ) (bound last p left : ℕ) : Type 0 where
  pub front : List ℕ
  pub whole : run_list ws ce cn node ≡ front ++ chain (cell ws (3 * ce)) left p
  pub live_only : LiveOnly (live_flags live bound) front
  -- nothing has been read, or what has been is a line, whose last entry points to p
  pub read : ((front ≡ []) × (first_at ws ce cn node ≡ p))
      ⊎ (Line (cell ws (3 * ce)) 0 bound (first_at ws ce cn node) last front × (link_at ws ce last ≡ p))

module _ {ws : List ℕ} {ce cn : ℕ} {counts : Counts} {node : ℕ} {live : List ℕ} (pre : Scannable ws ce cn counts node live) where
  abbrev flags : List Bool
  flags = live_flags live counts.edges.bound

  abbrev run : List ℕ
  run = run_list ws ce cn node

  abbrev n : ℕ
  n = count_at ws ce cn node

  -- nothing has been read
  pub scan_start : Scanning ws ce cn node live counts.edges.bound (first_at ws ce cn node) (first_at ws ce cn node) n
  scan_start =
      record {
        front = [];
        whole = sym (run_is (run_before pre.editable pre.marked));
        live_only = λ e m. in_none e m;
        read = inl (refl, refl);
      }

  -- a turn, of which p is the entry
  module _ {last p left : ℕ} (some_left : 0 < left) (s : Scanning ws ce cn node live counts.edges.bound last p left) where
    abbrev rest : List ℕ
    rest = chain (cell ws (3 * ce)) (left - 1) (link_at ws ce p)

    -- the run, split before p
    split : run ≡ s.front ++ (p ∷ rest)
    split = s.whole ∙ ap (λ (l : List ℕ). s.front ++ l) (chain_some (cell ws (3 * ce)) left p some_left)

    pub scan_below : p < counts.edges.bound
    scan_below =
        run_list_below pre.editable.runs node p pre.editable.node_below (rw split (in_second p s.front (p ∷ rest) (member_first p rest)))

    -- p has not been read before
    absent : member p s.front ≡ false
    absent =
        refuted (member p s.front)
        (λ m. true_false (member_first p rest) (distinct_apart s.front (p ∷ rest) (rw split at (run_once (run_before pre.editable pre.marked))) p m))

    -- p is live
    pub scan_more : live_in flags p ≡ true → Scanning ws ce cn node live counts.edges.bound p (link_at ws ce p) (left - 1)
    scan_more alive =
        record {
          front = s.front ++ (p ∷ []);
          whole = split ∙ sym (append_snoc s.front p rest);
          live_only = λ e m. ⊎_elim (s.live_only e) (λ q. rw q alive) (in_snoc e s.front p m);
          read =
              inr (
                ⊎_elim (λ none. rw (none.0, none.1) (line_one (cell ws (3 * ce)) p zero-le scan_below))
                    (λ w. line_more (cell ws (3 * ce)) p zero-le scan_below absent w.1 (λ x m ne. refl) w.0) s.read,
                refl,
              );
        }

  module _ {last p left : ℕ} (s : Scanning ws ce cn node live counts.edges.bound last p left) where
    -- what has been read and what is to come are the run
    pub scan_sum : length s.front + left ≡ n
    scan_sum =
        sym ((run_before pre.editable pre.marked).counted ∙ ap length s.whole ∙ length-append s.front (chain (cell ws (3 * ce)) left p)
        ∙ ap (λ (m : ℕ). length s.front + m) (chain_length (cell ws (3 * ce)) left p))

    -- the run is divided before p
    pub divided : (m : ℕ) → m ≡ length s.front → Scanned ws ce cn counts node live (record { length = m; last = last; next = p; left = left })
    divided m size =
        record {
          front =
              rw taken
              (record { counted = size; line = ⊎_elim (λ none. inl none.0) (λ w. inr w.0) s.read });
          live_only = rw taken s.live_only;
          rest = ap (drop m) s.whole ∙ ap (λ (k : ℕ). drop k (s.front ++ chain (cell ws (3 * ce)) left p)) size
              ∙ drop-append_seam s.front (chain (cell ws (3 * ce)) left p);
        }
      where
        taken : take m run ≡ s.front
        taken = ap (take m) s.whole ∙ ap (λ (k : ℕ). take k (s.front ++ chain (cell ws (3 * ce)) left p)) size
            ∙ take-append_seam s.front (chain (cell ws (3 * ce)) left p)

    -- nothing is left: all is live
    pub scan_all : left ≡ 0 → LiveOnly flags run
    scan_all none =
        let all : run ≡ s.front = s.whole ∙ ap (λ (l : List ℕ). s.front ++ l) (chain_none (cell ws (3 * ce)) left p none) ∙ append-nil s.front in
        λ e m. s.live_only e (rw all at m)
