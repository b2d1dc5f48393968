-- The way forward: the loop that writes the way.
use Rattle.std.specs.Option.{IsSome}
use Rattle.std.specs.Prelude.{ℕ, suc, ◌+◌, ◌-◌, ◌≤◌, ◌<◌, ◌≡◌, refl, true, List, [], ◌∷◌, ◌++◌, length, set, drop, eqb, Option, None, Some, unwrap_or}
use Rattle.plain.specs.Library.{sym, ap, ap₂, ◌∙◌, subst, append-nil, length-append, length-set, arith}
use lib.Seq.{get_or-take}
use Rattle.plain.specs.declared.TraversalDirection.TheVariants.{Outgoing, Incoming}
use Rattle.plain.specs.Numbers.{NONE}
use Rattle.plain.specs.Lists.{member, written}
use Rattle.plain.specs.Plain.{list_of}
use Rattle.shape.specs.Columns.{end_at}
use Rattle.shape.specs.Shape.{Words, node_capacity, lists}
use Rattle.cursor.specs.Laws.Reading.{write_one}
use Rattle.cursor.specs.Finding.{first_of}
use Rattle.nearest.specs.Search.{Distance}
use Rattle.nearest.specs.Frontier.{dist_in}
use Rattle.nearest.specs.Stores.{LiveLot}
use Rattle.nearest.specs.Forwards.{leads, NearerLot, way_in, Forward}
use Rattle.nearest.proofs.Stores.{lot_below, end_live, end_within, listed_within, listed_few}
use Rattle.nearest.proofs.Downhill.{first_of_same, length_downhill, downhill_step, downhill_next}

-- ---- the way written

-- What the loop keeps: i edges of the way are written, and it has come to lot x.
pub record Going (w : Words) (work : List ℕ) (goal d start : ℕ) (chain₀ : List ℕ) (i x : ℕ) (chain : List ℕ) : Type 0 where
  pub within : i ≤ d
  pub same_length : length chain ≡ length chain₀
  pub past : List ℕ
  pub counted : i ≡ length past
  pub wrote : chain ≡ past ++ drop i chain₀
  pub whole : past ++ way_in w work (d - i) x ≡ way_in w work d start
  pub far : Distance (list_of Outgoing (lists w)) (end_at w.incoming) goal x (d - i)
  pub live : LiveLot w x

-- a list of no length is empty
empty : (l : List ℕ) → length l ≡ 0 → l ≡ []
empty [] q = refl
empty (e ∷ l) q = absurd (omega arith)

module _ {w : Words} {work : List ℕ} {goal d start : ℕ} {chain₀ : List ℕ} (h : Forward w work goal d start chain₀) where
  pub going_start : Going w work goal d start chain₀ 0 start chain₀
  going_start =
      let none-off : d - 0 ≡ d = omega arith in
      record {
        within = omega arith;
        same_length = refl;
        past = [];
        counted = refl;
        wrote = refl;
        whole = ap (λ (n : ℕ). way_in w work n start) none-off;
        far = subst (λ (n : ℕ). Distance (list_of Outgoing (lists w)) (end_at w.incoming) goal start n) (sym none-off) h.far;
        live = h.start_live;
      }

  module _ {i x : ℕ} {chain : List ℕ} (g : Going w work goal d start chain₀ i x chain) where
    -- at the end the whole way is written
    pub going_end : d ≤ i → chain ≡ written (way_in w work d start) chain₀
    going_end over =
        let full : d - i ≡ 0 = omega arith in
        let nothing : way_in w work (d - i) x ≡ [] =
        empty (way_in w work (d - i) x)
        (length_downhill (list_of Outgoing (lists w)) (end_at w.incoming) (dist_in (node_capacity w) work) (d - i) x ∙ full) in
        let past_is : g.past ≡ way_in w work d start = sym (append-nil g.past) ∙ ap (λ (l : List ℕ). g.past ++ l) (sym nothing) ∙ g.whole in
        g.wrote ∙ ap₂ {B = List ℕ} (λ (a b : List ℕ). a ++ b) past_is (ap (λ (n : ℕ). drop n chain₀) (g.counted ∙ ap (λ (l : List ℕ). length l) past_is))

    module _ (more : i < d) where
      left : d - i ≡ suc (d - (i + 1))
      left = omega arith

      pub nearer_lot : NearerLot w x work
      nearer_lot = record { checked = h.checked; lot_below = lot_below h.checked x g.live; words_long = h.words_long }

      module _ {r : ℕ} (is : r ≡ first_of (leads (end_at w.incoming) work (d - i)) (list_of Outgoing (lists w) x)) where
        -- the edge that was found is the next of the way
        taken : r ≡ first_of (leads (end_at w.incoming) (dist_in (node_capacity w) work) (suc (d - (i + 1)))) (list_of Outgoing (lists w) x)
        taken =
            is
            ∙ first_of_same (leads (end_at w.incoming) work (d - i)) (leads (end_at w.incoming) (dist_in (node_capacity w) work) (suc (d - (i + 1))))
            (list_of Outgoing (lists w) x)
            (λ e m. ap₂ {B = ℕ} (λ (a b : ℕ). eqb a b)
            (sym (get_or-take (node_capacity w) work (end_at w.incoming e) 0 (end_within h.checked Outgoing Incoming x e m))) left)

        step : (member r (list_of Outgoing (lists w) x) ≡ true)
            × Distance (list_of Outgoing (lists w)) (end_at w.incoming) goal (end_at w.incoming r) (d - (i + 1))
        step =
            subst (λ (v : ℕ). (member v (list_of Outgoing (lists w) x) ≡ true)
            × Distance (list_of Outgoing (lists w)) (end_at w.incoming) goal (end_at w.incoming v) (d - (i + 1))) (sym taken)
            (downhill_next (list_of Outgoing (lists w)) (end_at w.incoming) h.labelled (d - (i + 1)) x (omega arith)
            (subst (λ (n : ℕ). Distance (list_of Outgoing (lists w)) (end_at w.incoming) goal x n) left g.far))

        -- its end is a word of the axis
        pub edge_low : r < length w.incoming
        edge_low = listed_within h.checked Outgoing Incoming x r step.0

        pub going_on : Going w work goal d start chain₀ (i + 1) (end_at w.incoming r) (set chain i r)
        going_on = record {
          within = omega arith;
          same_length = length-set chain i r ∙ g.same_length;
          past = g.past ++ (r ∷ []);
          counted = sym (length-append g.past (r ∷ []) ∙ ap (λ (n : ℕ). n + 1) (sym g.counted));
          wrote = ap (λ (l : List ℕ). set l i r) g.wrote ∙ write_one g.past chain₀ i r g.counted (let l = h.fits in omega arith);
          whole = sym (ap (λ (n : ℕ). g.past ++ way_in w work n x) left
              ∙ downhill_step (list_of Outgoing (lists w)) (end_at w.incoming) (dist_in (node_capacity w) work) (d - (i + 1)) x g.past
              ∙ ap (λ (v : ℕ). (g.past ++ (v ∷ [])) ++ way_in w work (d - (i + 1)) (end_at w.incoming v)) (sym taken)) ∙ g.whole;
          far = step.1;
          live = end_live h.checked Outgoing Incoming x r step.0;
        }

      -- so there is one
      pub nearer_there : (found : Option ℕ) → unwrap_or found NONE ≡ first_of (leads (end_at w.incoming) work (d - i)) (list_of Outgoing (lists w) x)
          → IsSome found
      nearer_there None is = let few = listed_few h.checked Outgoing x NONE (step is).0 in absurd (omega arith)
      nearer_there (Some e) is = refl
