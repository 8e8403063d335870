-- What the one-block search says, exactly when.
-- Assumes nothing.
use Prim.Native.Nat.{ℕ, ◌*◌, ◌%◌, ◌^◌, ◌≤◌, ◌<◌}
use mathlib.Core.Path.{◌≡◌, refl, sym, ap, ap₂, ◌∙◌, subst}
use mathlib.Core.Bool.{Bool, true, false, not, ◌&&◌, true≢false}
use mathlib.Core.List.{[], ◌∷◌}
use mathlib.Core.Logic.{◌⊎◌, inl, inr, ◌↔◌}
use native.Mathlib.Omega.{arith}
use native.Mathlib.Decide.{dec_lt}
use borrow.Author.Tests.{lt-ltb, le-ltb, ltb-false}
use lib.Dec.{ltb}
use Rattle.std.specs.Prelude.{Option, Some, None}
use Rattle.refusal.specs.Paper.{gives, refuses, refuse_if}
use Rattle.refusal.proofs.Said.{gives_same, gives_not}
use Rattle.bits.specs.Set.{count}
use Rattle.board.specs.Board.{mask}
use Rattle.board.specs.Blocks.{block_of, kind_of, square_of}
use Rattle.board.proofs.Blocks.{on_block_lem}
use Rattle.splitmix.specs.SplitMix.{candidate}
use Rattle.packing.specs.declared.Taken.{Taken}
use Rattle.packing.specs.Pack.{clean, passes, by_search, first_passing}
use Rattle.packing.specs.Promised.{First, counted}
use Rattle.packing.proofs.Agree.{agree_holds, agree_same}
use Rattle.packing.proofs.Choices as Choices
use Rattle.blocks.specs.Real.{magic_index, skips, real}
use Rattle.candidates.specs.OneBlock.{chosen_or, search_of}
use Rattle.candidates.proofs.Said.{says_5}
use Rattle.promises.specs.Search.{found, slot_by, walk_by, NoCollision, Candidates, Searches}

-- ---- what passes

clean_exactly : (b m : ℕ) → (clean real b m ≡ true) ↔ NoCollision b m
unfolding clean magic_index
clean_exactly b m = (λ e. agree_same (real.size b) (slot_by b m) (walk_by b) e, λ h. agree_holds (real.size b) (slot_by b m) (walk_by b) h)

passes_exactly : (b m : ℕ) → (passes real b m ≡ true) ↔ ((6 ≤ count (mask (kind_of b) (square_of b) * m % 2 ^ 64)) × NoCollision b m)
unfolding passes skips
passes_exactly b m = (λ e. only (ltb ones 6) (clean real b m) refl refl e, λ w. ap₂ (λ (s c : Bool). not s && c) (le-ltb ones 6 w.0) ((clean_exactly b m).1 w.1))
  where
    ones : ℕ
    ones = count (mask (kind_of b) (square_of b) * m % 2 ^ 64)

    only : (s c : Bool) → ltb ones 6 ≡ s → clean real b m ≡ c → (not s && c) ≡ true → (6 ≤ ones) × NoCollision b m
    only false true es ec q = (ltb-false ones 6 es, (clean_exactly b m).0 ec)
    only false false es ec q = absurd (true≢false (sym q))
    only true c es ec q = absurd (true≢false (sym q))

pub candidates : Candidates
candidates = record { passes_exactly = passes_exactly; clean_exactly = clean_exactly }

-- ---- a choice, by what is said of it

chosen_is : (number block : ℕ) (c : Option Taken) (x : Taken) → chosen_or number block c ≡ gives x → c ≡ Some x
chosen_is number block None x e = absurd (gives_not (sym e))
chosen_is number block (Some y) x e = ap Some (gives_same e)

not_bare : (block n : ℕ) (c : Option Taken) → chosen_or 5 block c ≡ refuses n [] → ⊥
not_bare block n None e = let z : ◌≡◌ {A = ℕ} 0 1 = cc in omega arith
not_bare block n (Some x) e = gives_not e

module _ (kind sq seed budget : ℕ) (hk : kind < 2) (hs : sq < 64) where
  abbrev block : ℕ
  block = block_of kind sq

  abbrev choice : Option Taken
  choice = by_search real (candidate seed) budget block

  above : 16777216 < budget → found kind sq seed budget ≡ refuses 10 []
  unfolding search_of
  above h = on_block_lem kind sq _ hk hs ∙ ap (λ (c : Bool). refuse_if c 10 (chosen_or 5 block choice)) (lt-ltb 16777216 budget h)

  allowed : budget ≤ 16777216 → found kind sq seed budget ≡ chosen_or 5 block choice
  unfolding search_of
  allowed h = on_block_lem kind sq _ hk hs ∙ ap (λ (c : Bool). refuse_if c 10 (chosen_or 5 block choice)) (le-ltb 16777216 budget h)

  only_above : found kind sq seed budget ≡ refuses 10 [] → 16777216 < budget
  only_above e = go (dec_lt 16777216 budget)
    where
      go : Dec (16777216 < budget) → 16777216 < budget
      go (yes h) = h
      go (no g) = absurd (not_bare block 10 choice (sym (allowed (omega (arith, g))) ∙ e))

  first_is : budget ≤ 16777216 → (p : ℕ) → found kind sq seed budget ≡ gives (counted (candidate seed) p) → First real (candidate seed) budget block p
  first_is h p e =
      let f = Choices.found real (candidate seed) budget block _ (chosen_is 5 block choice _ (sym (allowed h) ∙ e)) in
      let same : first_passing real (candidate seed) budget block ≡ p = omega (arith, ap (λ (x : Taken). x.count) f.is) in
      subst (First real (candidate seed) budget block) same f.first

  nothing_else : (c : Option Taken) → choice ≡ c → budget ≤ 16777216 → ((p : ℕ) × (found kind sq seed budget ≡ gives (counted (candidate seed) p))) ⊎ (found kind sq seed budget ≡ refuses 5 (block ∷ []))
  nothing_else None e h = inr (allowed h ∙ ap (chosen_or 5 block) e)
  nothing_else (Some x) e h = let f = Choices.found real (candidate seed) budget block x e in
      inl (first_passing real (candidate seed) budget block, allowed h ∙ ap (chosen_or 5 block) e ∙ ap gives f.is)

  pub searches : Searches kind sq seed budget
  searches =
      record {
        refuses_10 = (only_above, above);
        finds = λ h p. (first_is h p, λ f. allowed h ∙ ap (chosen_or 5 block) (Choices.finds real (candidate seed) budget block p f));
        refuses_5 = λ h. let s = says_5 block seed budget in (λ e. s.0 (sym (allowed h) ∙ e), λ n. allowed h ∙ s.1 n);
        nothing_else = nothing_else choice refl;
      }
