-- What a run that succeeded holds: what was taken, offsets, the end; and the same run with other room.
-- Assumes nothing.
use Prim.Native.Nat.{ℕ, zero, suc, ◌+◌, ◌≤◌, ◌<◌}
use mathlib.Core.Path.{◌≡◌, sym, ap, ap₂, ◌∙◌}
use mathlib.Core.Logic.{◌⊎◌, inl, inr}
use native.Mathlib.Nat.{not-suc-le-zero, le_refl, le_of_suc-le-suc, eq-or-lt_of_le}
use native.Mathlib.Omega.{arith}
use Rattle.bits.specs.Shown.{sum}
use Rattle.bits.proofs.Shown.{sum_within}
use Rattle.packing.specs.declared.Taken.{Taken}
use Rattle.std.specs.Prelude.{Option, Some}
use Rattle.packing.specs.Pack.{Blocks, State, start, next, done, refused, run}
use Rattle.packing.specs.Promised.{Full}
use Rattle.packing.proofs.Next.{place_le, end_old, end_new, end_most, offset_at, offset_before, taken_at, taken_before}
use Rattle.packing.proofs.Run.{Ran, run_next, Last, last, stopped_full}

module _ (B : Blocks) (len why : ℕ) (choice : ℕ → Option Taken) where
  -- a run of no block
  pub ran_none : (s : State) → Ran B len why choice 0 s → s ≡ start
  unfolding run
  ran_none s e = cc

  -- of each block: this was chosen
  pub chose : (n : ℕ) (s : State) → Ran B len why choice n s → (b : ℕ) → b < n → choice b ≡ Some (s.taken b)
  chose zero s e b h = absurd (not-suc-le-zero h)
  chose (suc n) s e b h = let l = last B len why choice n s e in go l (eq-or-lt_of_le (le_of_suc-le-suc h)) (chose n l.before l.ran b)
    where
      go : (l : Last B len why choice n s) → (b ≡ n) ⊎ (b < n) → (b < n → choice b ≡ Some (l.before.taken b)) → choice b ≡ Some (s.taken b)
      go l (inl q) ih = ap choice q ∙ l.chose ∙ ap Some (sym (taken_at B n l.before l.taken b q)) ∙ ap (λ (t : State). Some (t.taken b)) (sym l.now)
      go l (inr q) ih = ih q ∙ ap Some (sym (taken_before B n l.before l.taken b q)) ∙ ap (λ (t : State). Some (t.taken b)) (sym l.now)

  -- ---- the end

  pub end_fits : (n : ℕ) (s : State) → Ran B len why choice n s → s.end ≤ len
  end_fits zero s e = omega (arith, ap (λ (t : State). t.end) (ran_none s e))
  end_fits (suc n) s e =
      let l = last B len why choice n s e in
      rw l.now (end_most B n l.before l.taken len (end_fits n l.before l.ran) l.room)

  -- at most all sizes together
  pub end_total : (n : ℕ) (s : State) → Ran B len why choice n s → s.end ≤ sum n B.size
  unfolding sum
  end_total zero s e = omega (arith, ap (λ (t : State). t.end) (ran_none s e))
  end_total (suc n) s e =
      let l = last B len why choice n s e in
      let i : l.before.end ≤ sum n B.size = end_total n l.before l.ran in
      rw l.now (end_most B n l.before l.taken (sum n B.size + B.size n) (omega arith) (omega (arith, place_le B n l.before)))

  -- each block lies below it
  pub offset_end : (n : ℕ) (s : State) → Ran B len why choice n s → (b : ℕ) → b < n → s.offset b + B.size b ≤ s.end
  offset_end zero s e b h = absurd (not-suc-le-zero h)
  offset_end (suc n) s e b h = let l = last B len why choice n s e in rw l.now (go l (eq-or-lt_of_le (le_of_suc-le-suc h)) (offset_end n l.before l.ran b))
    where
      go : (l : Last B len why choice n s) → (b ≡ n) ⊎ (b < n) → (b < n → l.before.offset b + B.size b ≤ l.before.end) → (next B n l.before l.taken).offset b + B.size b ≤ (next B n l.before l.taken).end
      go l (inl q) ih = omega (arith, offset_at B n l.before l.taken b q, end_new B n l.before l.taken, ap B.size q)
      go l (inr q) ih = omega (arith, offset_before B n l.before l.taken b q, end_old B n l.before l.taken, ih q)

  -- room for all sizes is room enough
  pub never_full : (n b : ℕ) → (why ≡ 4 → ⊥) → sum n B.size ≤ len → run B len why choice n ≡ refused 4 b → ⊥
  never_full n b ne h e =
      let w = stopped_full B len why choice ne n b e in
      let l : b < n = w.0 in
      let f : Full B len b w.1 = w.3 in
      omega (arith, place_le B b w.1, end_total b w.1 w.2, sum_within b n B.size l)

-- ---- two runs

module _ (B : Blocks) (why len len' : ℕ) (choice choice' : ℕ → Option Taken) where
  -- a run that succeeded does so again wherever its end fits and the same is chosen
  pub succeeds_again : (n : ℕ) (s : State) → Ran B len why choice n s → s.end ≤ len' → ((b : ℕ) → b < n → choice' b ≡ choice b) → Ran B len' why choice' n s
  unfolding run
  succeeds_again zero s e h q = e
  succeeds_again (suc n) s e h q =
      let l = last B len why choice n s e in
      let k : (next B n l.before l.taken).end ≤ len' = rw l.now at h in
      run_next B len' why choice' n l.before l.taken
      (succeeds_again n l.before l.ran (omega (arith, end_old B n l.before l.taken)) (λ b i. q b (omega arith)))
      (omega (arith, end_new B n l.before l.taken))
      (q n (le_refl (suc n)) ∙ l.chose)
      ∙ ap done (sym l.now)

  -- two that succeed, and take the same for a block where both take something, leave the same
  pub same_state : ((b : ℕ) (x x' : Taken) → choice b ≡ Some x → choice' b ≡ Some x' → x ≡ x') → (n : ℕ) (s s' : State) → Ran B len why choice n s → Ran B len' why choice' n s' → s ≡ s'
  unfolding run
  same_state agree zero s s' e e' = cc
  same_state agree (suc n) s s' e e' =
      let l = last B len why choice n s e in
      let l' = last B len' why choice' n s' e' in
      l.now ∙ ap₂ (next B n) (same_state agree n l.before l'.before l.ran l'.ran) (agree n l.taken l'.taken l.chose l'.chose) ∙ sym l'.now
