-- Builds from one seed with other budgets and other room: demand 3.
-- Assumes nothing.
use Prim.Native.Nat.{ℕ, ◌≤◌, ◌<◌}
use mathlib.Core.Path.{◌≡◌, refl, sym, ◌∙◌}
use native.Mathlib.Nat.{not-suc-le-zero}
use native.Mathlib.Omega.{arith}
use Rattle.packing.specs.Pack.{Blocks, by_search, State, start, done, refused, run, seed_build}
use Rattle.packing.specs.Promised.{Room, most_attempts}
use Rattle.packing.proofs.Largest.{largest_le, largest_least}
use Rattle.packing.proofs.Next.{place_le}
use Rattle.packing.proofs.Run.{Ran, run_full, run_spent, stopped_full, stopped_spent, refusal_stays}
use Rattle.packing.proofs.Success.{chose, end_fits, succeeds_again, same_state}
use Rattle.packing.proofs.Choices.{search_none, search_within, search_more, search_agrees}

module _ (B : Blocks) (candidate : ℕ → ℕ) where
  -- ---- successes

  -- two are the same: records, attempt counts, used length, every slot
  pub one_success : (k len k' len' : ℕ) (s s' : State) → seed_build B candidate k len ≡ done s → seed_build B candidate k' len' ≡ done s' → s ≡ s'
  unfolding seed_build
  one_success k len k' len' s s' e e' = same_state B 5 len len' (by_search B candidate k) (by_search B candidate k') (search_agrees B candidate k k') 128 s s' e e'

  -- the budget reaches the largest attempt count, and the room the used length
  pub needs_budget : (k len : ℕ) (s : State) → seed_build B candidate k len ≡ done s → most_attempts s ≤ k
  unfolding seed_build
  needs_budget k len s e = largest_least 128 (λ b. (s.taken b).count) k (λ b h. search_within B candidate k b (s.taken b) (chose B len 5 (by_search B candidate k) 128 s e b h))

  pub needs_room : (k len : ℕ) (s : State) → seed_build B candidate k len ≡ done s → s.end ≤ len
  unfolding seed_build
  needs_room k len s e = end_fits B len 5 (by_search B candidate k) 128 s e

  -- the blocks before n, where the end fits and the budget reaches each attempt count
  again : (k len k' len' n : ℕ) (s : State) → Ran B len 5 (by_search B candidate k) n s → s.end ≤ len' → ((b : ℕ) → b < n → (s.taken b).count ≤ k') → Ran B len' 5 (by_search B candidate k') n s
  again k len k' len' n s e hl hk =
      succeeds_again B 5 len len' (by_search B candidate k) (by_search B candidate k') n s e hl
      (λ b h. let c : by_search B candidate k b ≡ _ = chose B len 5 (by_search B candidate k) n s e b h in search_more B candidate k k' b (s.taken b) c (hk b h) ∙ sym c)

  -- and that is enough
  pub enough : (k len k' len' : ℕ) (s : State) → seed_build B candidate k len ≡ done s → most_attempts s ≤ k' → s.end ≤ len' → seed_build B candidate k' len' ≡ done s
  unfolding seed_build
  enough k len k' len' s e hk hl = again k len k' len' 128 s e hl (λ b h. omega (arith, largest_le 128 (λ b. (s.taken b).count) b h))

  -- ---- refusals

  -- "a refusal for room stands at its block under any larger allowed budget"
  pub room_stands : (k k' len b : ℕ) → k ≤ k' → seed_build B candidate k len ≡ refused 4 b → seed_build B candidate k' len ≡ refused 4 b
  unfolding seed_build
  room_stands k k' len b h e =
      let w = stopped_full B len 5 (by_search B candidate k) (λ q. omega arith) 128 b e in
      refusal_stays B len 5 (by_search B candidate k') 4 b 128 w.0
      (run_full B len 5 (by_search B candidate k') b w.1
      (again k len k' len b w.1 w.2 (end_fits B len 5 (by_search B candidate k) b w.1 w.2)
      (λ a i. omega (arith, search_within B candidate k a (w.1.taken a) (chose B len 5 (by_search B candidate k) b w.1 w.2 a i))))
      w.3)

  -- "one for candidates stands at its block with any more room"
  pub spent_stands : (k len len' b : ℕ) → len ≤ len' → seed_build B candidate k len ≡ refused 5 b → seed_build B candidate k len' ≡ refused 5 b
  unfolding seed_build
  spent_stands k len len' b h e =
      let w = stopped_spent B len 5 (by_search B candidate k) (λ q. omega arith) 128 b e in
      let f : w.1.end ≤ len = end_fits B len 5 (by_search B candidate k) b w.1 w.2 in
      let r : Room B len b w.1 = w.3 in
      refusal_stays B len' 5 (by_search B candidate k) 5 b 128 w.0
      (run_spent B len' 5 (by_search B candidate k) b w.1
      (succeeds_again B 5 len len' (by_search B candidate k) (by_search B candidate k) b w.1 w.2 (omega arith) (λ a i. refl))
      (omega arith) w.4)

  -- ---- block 0

  -- "63 slots, any allowed budget: 4 at block 0", "0 slots, budget 0: 4"
  pub first_room : (k len : ℕ) → len < B.size 0 → seed_build B candidate k len ≡ refused 4 0
  unfolding seed_build run
  first_room k len h = refusal_stays B len 5 (by_search B candidate k) 4 0 128 (omega arith) (run_full B len 5 (by_search B candidate k) 0 start refl (omega arith))

  -- "64 slots, budget 0: 5 at block 0"
  pub first_spent : (len : ℕ) → B.size 0 ≤ len → seed_build B candidate 0 len ≡ refused 5 0
  unfolding seed_build run
  first_spent len h =
      refusal_stays B len 5 (by_search B candidate 0) 5 0 128 (omega arith)
      (run_spent B len 5 (by_search B candidate 0) 0 start refl (omega (arith, place_le B 0 start)) ((search_none B candidate 0 0).1 (λ i l. absurd (not-suc-le-zero l))))
