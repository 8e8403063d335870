-- A build whose own argument and loans are judged before the packing: each refusal exactly when, and what it leaves.
-- Assumes nothing.
use Prim.Native.Nat.{ℕ}
use mathlib.Core.Path.{◌≡◌, refl, sym, ap, ◌∙◌}
use mathlib.Core.List.{List, [], ◌∷◌}
use mathlib.Core.Logic.{◌⊎◌, inl, inr, ◌↔◌}
use native.Mathlib.Omega.{arith}
use native.Mathlib.Decide.{ℕ_discrete}
use lib.ListN.{length, replicate}
use Rattle.refusal.specs.Paper.{refuses}
use Rattle.refusal.proofs.Said.{gives_not, refuses_same}
use Rattle.packing.specs.Pack.{Outcome, done, refused}
use Rattle.gen_magic.specs.Builds.{Left, empty, ended}
use Rattle.gen_magic.proofs.Came.{says_refused}
use Rattle.promises.specs.Demands.{Refused}
use Rattle.promises.proofs.Demand1.{zeros}

-- a build's own argument is good, or refused by a number; its loans have one length, or not; and then the packing decides
pub record Behind (left : Left) (table marks : List ℕ) (number why : ℕ) (Good : Type 0) (o : Outcome) : Type 0 where
  pub good : Dec Good
  pub apart : number ≡ 3 → ⊥
  pub bad_left : (Good → ⊥) → left.says ≡ refuses number []
  pub unequal_left : Good → (length table ≡ length marks → ⊥) → left.says ≡ refuses 3 []
  pub allowed_left : Good → length table ≡ length marks → left ≡ ended (length table) o
  pub two : (n b : ℕ) → o ≡ refused n b → (n ≡ 4) ⊎ (n ≡ why)

module _ {left : Left} {table marks : List ℕ} {number why : ℕ} {Good : Type 0} {o : Outcome} (c : Behind left table marks number why Good o) where
  abbrev pub One : Type 0
  One = length table ≡ length marks

  says_left : Good → One → left.says ≡ (ended (length table) o).says
  says_left g q = ap (λ (l : Left). l.says) (c.allowed_left g q)

  -- a build on its way gives, or refuses with a block
  bare : (n : ℕ) (x : Outcome) → (ended (length table) x).says ≡ refuses n [] → ⊥
  bare n (done s) e = gives_not e
  bare n (refused m a) e = let z : ◌≡◌ {A = ℕ} 0 1 = cc in omega arith

  pub bad_exactly : (left.says ≡ refuses number []) ↔ (Good → ⊥)
  bad_exactly = (λ e. go c.good (ℕ_discrete (length table) (length marks)) e, c.bad_left)
    where
      go : Dec Good → Dec One → left.says ≡ refuses number [] → Good → ⊥
      go (no n) d e = n
      go (yes g) (no n) e = λ _. c.apart (sym (refuses_same (sym (c.unequal_left g n) ∙ e)).0)
      go (yes g) (yes q) e = λ _. bare number o (sym (says_left g q) ∙ e)

  pub unequal_exactly : (left.says ≡ refuses 3 []) ↔ (Good × (One → ⊥))
  unequal_exactly = (λ e. go c.good (ℕ_discrete (length table) (length marks)) e, λ w. c.unequal_left w.0 w.1)
    where
      go : Dec Good → Dec One → left.says ≡ refuses 3 [] → Good × (One → ⊥)
      go (no n) d e = absurd (c.apart (refuses_same (sym (c.bad_left n) ∙ e)).0)
      go (yes g) (no n) e = (g, n)
      go (yes g) (yes q) e = absurd (bare 3 o (sym (says_left g q) ∙ e))

  abbrev pub Way : ℕ → List ℕ → Type 0
  Way n values = ((n ≡ number) × (values ≡ [])) ⊎ ((n ≡ 3) × (values ≡ [])) ⊎ ((block : ℕ) × ((n ≡ 4) ⊎ (n ≡ why)) × (values ≡ block ∷ []))

  pub other : (n : ℕ) (values : List ℕ) → left.says ≡ refuses n values → Way n values
  other n values e = go c.good (ℕ_discrete (length table) (length marks))
    where
      four : (m : ℕ) → (m ≡ 4) ⊎ (m ≡ why) → m ≡ n → (n ≡ 4) ⊎ (n ≡ why)
      four m (inl p) q = inl (sym q ∙ p)
      four m (inr p) q = inr (sym q ∙ p)

      stood : (x : Outcome) → o ≡ x → (ended (length table) x).says ≡ refuses n values → Way n values
      stood (done s) eo q = absurd (gives_not q)
      stood (refused m block) eo q = let s = refuses_same q in
          inr (inr (block, four m (c.two m block eo) s.0, sym s.1))

      go : Dec Good → Dec One → Way n values
      go (no f) d = let s = refuses_same (sym (c.bad_left f) ∙ e) in inl (sym s.0, sym s.1)
      go (yes g) (no f) = let s = refuses_same (sym (c.unequal_left g f) ∙ e) in inr (inl (sym s.0, sym s.1))
      go (yes g) (yes q) = stood o refl (sym (says_left g q) ∙ e)

  -- a refusal with a block: the arguments are allowed, and the packing refused there
  pub was : (n block : ℕ) → left.says ≡ refuses n (block ∷ []) → Good × One × (o ≡ refused n block)
  was n block e = go c.good (ℕ_discrete (length table) (length marks))
    where
      barely : {m : ℕ} → left.says ≡ refuses m [] → ⊥
      barely q = let z : ◌≡◌ {A = List ℕ} [] (block ∷ []) = (refuses_same (sym q ∙ e)).1 in let k : ◌≡◌ {A = ℕ} 0 1 = cc in omega arith

      go : Dec Good → Dec One → Good × One × (o ≡ refused n block)
      go (no f) d = absurd (barely (c.bad_left f))
      go (yes g) (no f) = absurd (barely (c.unequal_left g f))
      go (yes g) (yes q) = (g, q, says_refused (length table) o n block (sym (says_left g q) ∙ e))

  pub refuses_so : Good → One → (n block : ℕ) → o ≡ refused n block → left.says ≡ refuses n (block ∷ [])
  refuses_so g q n block e = says_left g q ∙ ap (λ (x : Outcome). (ended (length table) x).says) e

  pub way_leaves : (n block : ℕ) → left.says ≡ refuses n (block ∷ []) → Refused left n (block ∷ []) (replicate (length table) 0) (replicate (length marks) 0)
  way_leaves n block e =
      let w = was n block e in
      zeros (c.allowed_left w.0 w.1 ∙ ap (ended (length table)) w.2 ∙ ap (λ (k : ℕ). empty n (block ∷ []) (replicate (length table) 0) (replicate k 0)) w.1)
