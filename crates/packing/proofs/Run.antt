-- A run, block by block: the ways that a block can go, what stands behind a success, and what behind a refusal.
-- Assumes nothing.
use Prim.Native.Nat.{ℕ, zero, suc, ◌+◌, ◌<◌}
use mathlib.Core.Path.{◌≡◌, refl, ap, ap₂, ◌∙◌, subst, sym}
use mathlib.Core.Bool.{Bool, true, false}
use mathlib.Core.Logic.{◌⊎◌, inl, inr}
use native.Mathlib.Nat.{not-suc-le-zero, le_of_suc-le-suc, eq-or-lt_of_le}
use native.Mathlib.Omega.{arith}
use borrow.Author.Tests.{leb-true, leb-false, le-leb, lt-leb}
use lib.Dec.{leb}
use Rattle.packing.specs.declared.Taken.{Taken}
use Rattle.std.specs.Prelude.{Option, Some, None}
use Rattle.packing.specs.Pack.{Blocks, State, place, next, Outcome, done, refused, tried, step, run}
use Rattle.packing.specs.Promised.{Room, Full}

pub done≢refused : {s : State} {k b : ℕ} → done s ≡ refused k b → ⊥
done≢refused {s} {k} {b} e = let z : ◌≡◌ {A = ℕ} 0 1 = cc in omega arith

module _ (B : Blocks) (len why : ℕ) (choice : ℕ → Option Taken) where
  -- the blocks before n were placed, and left t
  abbrev pub Ran : ℕ → State → Type 0
  Ran n t = run B len why choice n ≡ done t

  -- ---- one block more

  pub run_next : (n : ℕ) (t : State) (x : Taken) → Ran n t → Room B len n t → choice n ≡ Some x → Ran (suc n) (next B n t x)
  unfolding run step tried
  run_next n t x e h q = ap (step B len why choice n) e ∙ ap₂ (tried B why n t) (le-leb (place B n t + B.size n) len h) q

  pub run_full : (n : ℕ) (t : State) → Ran n t → Full B len n t → run B len why choice (suc n) ≡ refused 4 n
  unfolding run step tried
  run_full n t e h = ap (step B len why choice n) e ∙ ap (λ (x : Bool). tried B why n t x (choice n)) (lt-leb (place B n t + B.size n) len h)

  pub run_spent : (n : ℕ) (t : State) → Ran n t → Room B len n t → choice n ≡ None → run B len why choice (suc n) ≡ refused why n
  unfolding run step tried
  run_spent n t e h q = ap (step B len why choice n) e ∙ ap₂ (tried B why n t) (le-leb (place B n t + B.size n) len h) q

  run_refused : (n number b : ℕ) → run B len why choice n ≡ refused number b → run B len why choice (suc n) ≡ refused number b
  unfolding run step
  run_refused n number b e = ap (step B len why choice n) e

  -- and there is no other way
  data Way (n : ℕ) : Type 0 where
    placed : (t : State) (x : Taken) → Ran n t → Room B len n t → choice n ≡ Some x → Way n
    full : (t : State) → Ran n t → Full B len n t → Way n
    spent : (t : State) → Ran n t → Room B len n t → choice n ≡ None → Way n
    stopped_before : (number b : ℕ) → run B len why choice n ≡ refused number b → Way n

  way : (n : ℕ) → Way n
  way n = go (run B len why choice n) refl
    where
      choose : (t : State) → Ran n t → Room B len n t → (c : Option Taken) → choice n ≡ c → Way n
      choose t e h None q = spent t e h q
      choose t e h (Some x) q = placed t x e h q

      fit : (t : State) → Ran n t → (x : Bool) → leb (place B n t + B.size n) len ≡ x → Way n
      fit t e true h = choose t e (leb-true _ _ h) (choice n) refl
      fit t e false h = full t e (leb-false _ _ h)

      go : (o : Outcome) → run B len why choice n ≡ o → Way n
      go (done t) e = fit t e (leb (place B n t + B.size n) len) refl
      go (refused number b) e = stopped_before number b e

  -- ---- behind a success

  -- block n was placed last, and s is what came of it
  pub record Last (n : ℕ) (s : State) : Type 0 where
    pub before : State
    pub taken : Taken
    pub ran : Ran n before
    pub room : Room B len n before
    pub chose : choice n ≡ Some taken
    pub now : s ≡ next B n before taken

  pub last : (n : ℕ) (s : State) → Ran (suc n) s → Last n s
  last n s e = go (way n)
    where
      never : (number b : ℕ) → run B len why choice (suc n) ≡ refused number b → Last n s
      never number b q = absurd (done≢refused (sym e ∙ q))

      go : Way n → Last n s
      go (placed t x r h q) = let u : Ran (suc n) (next B n t x) = run_next n t x r h q in record { before = t; taken = x; ran = r; room = h; chose = q; now = cc }
      go (full t r h) = never 4 n (run_full n t r h)
      go (spent t r h q) = never why n (run_spent n t r h q)
      go (stopped_before number b r) = never number b (run_refused n number b r)

  -- ---- behind a refusal

  -- no room for block b after `before`, or room and nothing chosen
  abbrev pub Cause : ℕ → ℕ → State → Type 0
  Cause number b before = ((number ≡ 4) × Full B len b before) ⊎ ((number ≡ why) × Room B len b before × (choice b ≡ None))

  -- the blocks before b were placed, and block b was not
  pub record Stopped (number b : ℕ) : Type 0 where
    pub before : State
    pub ran : Ran b before
    pub cause : Cause number b before

  pub stopped : (n number b : ℕ) → run B len why choice n ≡ refused number b → (b < n) × Stopped number b
  unfolding run
  stopped zero number b e = absurd (done≢refused e)
  stopped (suc n) number b e = go (way n) (stopped n)
    where
      -- it was block n
      here : (k : ℕ) → run B len why choice (suc n) ≡ refused k n → Stopped k n → (b < suc n) × Stopped number b
      here k q w = let p : k ≡ number = cc in let r : n ≡ b = cc in (omega arith, subst (λ (x : ℕ). Stopped number x) r (subst (λ (x : ℕ). Stopped x n) p w))

      go : Way n → ((number b : ℕ) → run B len why choice n ≡ refused number b → (b < n) × Stopped number b) → (b < suc n) × Stopped number b
      go (placed t x r h q) ih = absurd (done≢refused (sym (run_next n t x r h q) ∙ e))
      go (full t r h) ih = here 4 (run_full n t r h) (record { before = t; ran = r; cause = inl (refl, h) })
      go (spent t r h q) ih = here why (run_spent n t r h q) (record { before = t; ran = r; cause = inr (refl, h, q) })
      go (stopped_before k a r) ih =
          let u : run B len why choice (suc n) ≡ refused k a = run_refused n k a r in
          let w = ih number b (r ∙ cc) in
          let l : b < n = w.0 in
          (omega arith, w.1)

  -- by the number, where `why` is another than 4
  pub stopped_full : (why ≡ 4 → ⊥) → (n b : ℕ) → run B len why choice n ≡ refused 4 b → (b < n) × (t : State) × Ran b t × Full B len b t
  stopped_full ne n b e = let w = stopped n 4 b e in go w.0 w.1 w.1.cause
    where
      go : b < n → (w : Stopped 4 b) → Cause 4 b w.before → (b < n) × (t : State) × Ran b t × Full B len b t
      go l w (inl q) = (l, w.before, w.ran, q.1)
      go l w (inr q) = absurd (ne (sym q.0))

  pub stopped_spent : (why ≡ 4 → ⊥) → (n b : ℕ) → run B len why choice n ≡ refused why b → (b < n) × (t : State) × Ran b t × Room B len b t × (choice b ≡ None)
  stopped_spent ne n b e = let w = stopped n why b e in go w.0 w.1 w.1.cause
    where
      go : b < n → (w : Stopped why b) → Cause why b w.before → (b < n) × (t : State) × Ran b t × Room B len b t × (choice b ≡ None)
      go l w (inl q) = absurd (ne q.0)
      go l w (inr q) = (l, w.before, w.ran, q.1, q.2)

  -- "The first failing block decides."
  pub refusal_stays : (number b n : ℕ) → b < n → run B len why choice (suc b) ≡ refused number b → run B len why choice n ≡ refused number b
  refusal_stays number b zero h e = absurd (not-suc-le-zero h)
  refusal_stays number b (suc n) h e = go (eq-or-lt_of_le (le_of_suc-le-suc h)) (λ l. refusal_stays number b n l e)
    where
      go : (b ≡ n) ⊎ (b < n) → (b < n → run B len why choice n ≡ refused number b) → run B len why choice (suc n) ≡ refused number b
      go (inl q) ih = subst (λ (x : ℕ). run B len why choice (suc x) ≡ refused number b) q e
      go (inr l) ih = run_refused n number b (ih l)
