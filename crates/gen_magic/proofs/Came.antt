-- What stands behind what a build says: its arguments were allowed, and the packing's outcome.
-- Assumes nothing.
use Prim.Native.Nat.{ℕ, ◌≤◌}
use mathlib.Core.Path.{◌≡◌, refl, sym, ap, ◌∙◌}
use mathlib.Core.Bool.{Bool, true, false, not}
use mathlib.Core.List.{List, [], ◌∷◌}
use native.Mathlib.Omega.{arith}
use borrow.Author.Tests.{ltb-false, le-ltb, eqb-true, eq-eqb, not-false}
use lib.Dec.{eqb, ltb}
use lib.ListN.{length}
use Rattle.refusal.specs.Paper.{Said, gives, refuses}
use Rattle.refusal.proofs.Said.{gives_not}
use Rattle.splitmix.specs.SplitMix.{candidate}
use Rattle.packing.specs.Pack as Pack
use Rattle.packing.specs.Pack.{State, done, refused, seed_build, lent_build}
use Rattle.blocks.specs.Real.{real}
use Rattle.gen_magic.specs.Builds.{slots, Left, ended, kept_if, of_one_length, from_seed, from_lent}
use Rattle.gen_magic.proofs.Answers.{passed}

-- ---- the tests

-- table and marks have one length
one_length : (table marks : List ℕ) (x : Left) → length table ≡ length marks → of_one_length table marks x ≡ x
one_length table marks x e = passed 3 table marks x _ (ap not (eq-eqb (length table) (length marks) e))

pub seed_is : (seed budget : ℕ) (table marks : List ℕ) → budget ≤ 16777216 → length table ≡ length marks → from_seed seed budget table marks ≡ ended (length table) (seed_build real (candidate seed) budget (length table))
unfolding from_seed
seed_is seed budget table marks h e = passed 10 table marks _ _ (le-ltb 16777216 budget h) ∙ one_length table marks _ e

pub lent_is : (multipliers table marks : List ℕ) → length multipliers ≡ 128 → length table ≡ length marks → from_lent multipliers table marks ≡ ended (length table) (lent_build real (slots multipliers) (length table))
unfolding from_lent
lent_is multipliers table marks h e = passed 9 table marks _ _ (ap not (eq-eqb (length multipliers) 128 h)) ∙ one_length table marks _ e

-- ---- what was said: the argument's test was passed, whatever was said of the rest

-- neither 3 nor the number of the first test
abbrev Later : ℕ → Said Unit → Type 0
Later number said = (said ≡ refuses number [] → ⊥) × (said ≡ refuses 3 [] → ⊥)

both : (number : ℕ) (c : Bool) (table marks : List ℕ) (x : Left) → Later number (kept_if c number table marks (of_one_length table marks x)).says → (c ≡ false) × (length table ≡ length marks)
both number c table marks x h = go c (eqb (length table) (length marks)) refl refl h
  where
    go : (a b : Bool) → c ≡ a → eqb (length table) (length marks) ≡ b → Later number (kept_if a number table marks (kept_if (not b) 3 table marks x)).says → (c ≡ false) × (length table ≡ length marks)
    go true b ea eb l = absurd (l.0 refl)
    go false true ea eb l = (ea, eqb-true (length table) (length marks) eb)
    go false false ea eb l = absurd (l.1 refl)

pub seed_allowed : (seed budget : ℕ) (table marks : List ℕ) → Later 10 (from_seed seed budget table marks).says → (budget ≤ 16777216) × (length table ≡ length marks)
unfolding from_seed
seed_allowed seed budget table marks h = let a = both 10 (ltb 16777216 budget) table marks _ h in (ltb-false 16777216 budget a.0, a.1)

pub lent_allowed : (multipliers table marks : List ℕ) → Later 9 (from_lent multipliers table marks).says → (length multipliers ≡ 128) × (length table ≡ length marks)
unfolding from_lent
lent_allowed multipliers table marks h =
    let a = both 9 (not (eqb (length multipliers) 128)) table marks _ h in
    (eqb-true (length multipliers) 128 (not-false _ a.0), a.1)

-- ---- and the outcome

pub built_says : {s : Said Unit} (n : ℕ) → s ≡ gives tt → Later n s
built_says n e = (λ q. gives_not (sym e ∙ q), λ q. gives_not (sym e ∙ q))

pub says_done : (len : ℕ) (o : Pack.Outcome) → (ended len o).says ≡ gives tt → (s : State) × (o ≡ done s)
says_done len (done s) e = (s, refl)
says_done len (refused n b) e = absurd (gives_not (sym e))

pub says_refused : (len : ℕ) (o : Pack.Outcome) (n b : ℕ) → (ended len o).says ≡ refuses n (b ∷ []) → o ≡ refused n b
says_refused len (done s) n b e = absurd (gives_not e)
says_refused len (refused m a) n b e = cc

-- ---- success

pub record SeedSuccess (seed budget : ℕ) (table marks : List ℕ) : Type 0 where
  pub budget_allowed : budget ≤ 16777216
  pub one_length : length table ≡ length marks
  pub state : State
  pub is : seed_build real (candidate seed) budget (length table) ≡ done state
  pub left : from_seed seed budget table marks ≡ ended (length table) (done state)

pub seed_success : (seed budget : ℕ) (table marks : List ℕ) → (from_seed seed budget table marks).says ≡ gives tt → SeedSuccess seed budget table marks
seed_success seed budget table marks e =
    let a = seed_allowed seed budget table marks (built_says 10 e) in
    let i = seed_is seed budget table marks a.0 a.1 in
    let d = says_done (length table) _ (ap (λ (l : Left). l.says) (sym i) ∙ e) in
    record { budget_allowed = a.0; one_length = a.1; state = d.0; is = d.1; left = i ∙ ap (ended (length table)) d.1 }

pub record LentSuccess (multipliers table marks : List ℕ) : Type 0 where
  pub state : State
  pub is : lent_build real (slots multipliers) (length table) ≡ done state
  pub left : from_lent multipliers table marks ≡ ended (length table) (done state)

pub lent_success : (multipliers table marks : List ℕ) → (from_lent multipliers table marks).says ≡ gives tt → LentSuccess multipliers table marks
lent_success multipliers table marks e =
    let a = lent_allowed multipliers table marks (built_says 9 e) in
    let i = lent_is multipliers table marks a.0 a.1 in
    let d = says_done (length table) _ (ap (λ (l : Left). l.says) (sym i) ∙ e) in
    record { state = d.0; is = d.1; left = i ∙ ap (ended (length table)) d.1 }

-- ---- a refusal with a block, which is none of an argument

bare : {n b m : ℕ} → ◌≡◌ {A = Said Unit} (refuses n (b ∷ [])) (refuses m []) → ⊥
bare q = let z : ◌≡◌ {A = ℕ} 0 1 = cc in omega arith

pub seed_refused : (seed budget n b : ℕ) (table marks : List ℕ) → (from_seed seed budget table marks).says ≡ refuses n (b ∷ []) → (budget ≤ 16777216) × (length table ≡ length marks) × (seed_build real (candidate seed) budget (length table) ≡ refused n b)
seed_refused seed budget n b table marks e =
    let a = seed_allowed seed budget table marks (λ q. bare (sym e ∙ q), λ q. bare (sym e ∙ q)) in
    (a.0, a.1, says_refused (length table) _ n b (ap (λ (l : Left). l.says) (sym (seed_is seed budget table marks a.0 a.1)) ∙ e))

pub seed_refuses : (seed budget n b : ℕ) (table marks : List ℕ) → budget ≤ 16777216 → length table ≡ length marks → seed_build real (candidate seed) budget (length table) ≡ refused n b → (from_seed seed budget table marks).says ≡ refuses n (b ∷ [])
seed_refuses seed budget n b table marks h e q = ap (λ (l : Left). l.says) (seed_is seed budget table marks h e ∙ ap (ended (length table)) q)

pub lent_refused : (n b : ℕ) (multipliers table marks : List ℕ) → (from_lent multipliers table marks).says ≡ refuses n (b ∷ []) → lent_build real (slots multipliers) (length table) ≡ refused n b
lent_refused n b multipliers table marks e =
    let a = lent_allowed multipliers table marks (λ q. bare (sym e ∙ q), λ q. bare (sym e ∙ q)) in
    says_refused (length table) _ n b (ap (λ (l : Left). l.says) (sym (lent_is multipliers table marks a.0 a.1)) ∙ e)
