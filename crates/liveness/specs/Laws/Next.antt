-- Laws of the next live slot, for listing: where it is a slot, the list of live slots goes on with it; where it is none, the list ends.
use Rattle.std.specs.Prelude.{ℕ, zero, suc, ◌+◌, ◌≤◌, ◌<◌, ◌≡◌, refl, Bool, true, false, ◌⊎◌, List, [], ◌∷◌, length, get_or, drop}
use Rattle.plain.specs.Library.{inl, inr, arith}
use Rattle.std.proofs.Common.{lt_irrefl, not-le_of_lt, drop_of_length-le, drop-cons}
use Rattle.std.proofs.Math.Decide.{dec_le}
use Rattle.plain.specs.Reads.{live_from}
use Rattle.liveness.specs.Flags.{next_live}

-- The live slots from x on begin with r, which is live.
pub record Listed (flags : List Bool) (x r : ℕ) : Type 0 where
  pub onward : x ≤ r
  pub below : r < length flags
  pub live : get_or flags r false ≡ true
  pub lists : live_from x (drop x flags) ≡ r ∷ live_from (suc r) (drop (suc r) flags)

module _ (flags : List Bool) where
  -- the live slots from x on, of n more slots at most
  listed : (n x : ℕ) → length flags ≤ x + n → (live_from x (drop x flags) ≡ []) ⊎ ((r : ℕ) × Listed flags x r)
  unfolding live_from
  listed zero x h = inl (rw (drop_of_length-le flags {i = x} (omega arith)))
  listed (suc n) x h = at (dec_le (length flags) x) (get_or flags x false) refl (listed n (suc x) (omega arith))
    where
      at : Dec (length flags ≤ x) → (b : Bool) → get_or flags x false ≡ b
          → (live_from (suc x) (drop (suc x) flags) ≡ []) ⊎ ((r : ℕ) × Listed flags (suc x) r)
          → (live_from x (drop x flags) ≡ []) ⊎ ((r : ℕ) × Listed flags x r)
      at (yes l) b e rest = inl (rw (drop_of_length-le flags {i = x} l))
      at (no m) true e rest =
          inr (x, record { onward = omega arith; below = omega arith; live = e; lists = rw (drop-cons flags x false (omega arith), e) })
      at (no m) false e (inl none) = inl (rw (drop-cons flags x false (omega arith), e) none)
      at (no m) false e (inr (r, some)) = inr (
        r,
        record {
          onward = omega arith;
          below = some.below;
          live = some.live;
          lists = rw (drop-cons flags x false (omega arith), e) some.lists;
        },
      )

  -- where the next live slot is a slot, the list of live slots goes on with it
  pub listed_next : (x : ℕ) → next_live flags x < length flags → Listed flags x (next_live flags x)
  unfolding next_live
  listed_next x h = at (listed (length flags) x (omega arith))
    where
      at : (live_from x (drop x flags) ≡ []) ⊎ ((r : ℕ) × Listed flags x r) → Listed flags x (get_or (live_from x (drop x flags)) 0 (length flags))
      at (inl none) = absurd (lt_irrefl (length flags) (rw none at h))
      at (inr (r, some)) = rw some.lists some

  -- where it is none, the list ends
  pub listed_end : (x : ℕ) → length flags ≤ next_live flags x → live_from x (drop x flags) ≡ []
  unfolding next_live
  listed_end x h = at (listed (length flags) x (omega arith))
    where
      at : (live_from x (drop x flags) ≡ []) ⊎ ((r : ℕ) × Listed flags x r) → live_from x (drop x flags) ≡ []
      at (inl none) = none
      at (inr (r, some)) = absurd (not-le_of_lt some.below (rw some.lists at h))
