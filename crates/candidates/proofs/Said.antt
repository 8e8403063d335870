-- A block's choice says its number exactly when none is made: 5 after a search, 6 of a lent multiplier.
-- Assumes nothing.
use Prim.Native.Nat.{ℕ}
use mathlib.Core.Path.{◌≡◌, refl, ap}
use mathlib.Core.Bool.{false}
use mathlib.Core.List.{[], ◌∷◌}
use mathlib.Core.Logic.{◌↔◌}
use native.Mathlib.Omega.{arith}
use Rattle.std.specs.Prelude.{Option, Some, None}
use Rattle.refusal.specs.Paper.{refuses}
use Rattle.splitmix.specs.SplitMix.{candidate}
use Rattle.packing.specs.declared.Taken.{Taken}
use Rattle.packing.specs.Pack.{clean, by_search, by_lent}
use Rattle.packing.specs.Promised.{NonePasses}
use Rattle.packing.proofs.Choices.{search_none, lent_none}
use Rattle.blocks.specs.Real.{real}
use Rattle.candidates.specs.OneBlock.{chosen_or}

no_choice : (number block : ℕ) (x : Option Taken) → chosen_or number block x ≡ refuses number (block ∷ []) → x ≡ None
no_choice number block None e = refl
no_choice number block (Some x) e = let z : ◌≡◌ {A = ℕ} 0 1 = cc in absurd (omega arith)

-- "budget spent, none passed"
pub says_5 : (block seed budget : ℕ) → (chosen_or 5 block (by_search real (candidate seed) budget block) ≡ refuses 5 (block ∷ [])) ↔ NonePasses real (candidate seed) budget block
says_5 block seed budget =
    let none = search_none real (candidate seed) budget block in
    (λ e. none.0 (no_choice 5 block _ e), λ h. ap (chosen_or 5 block) (none.1 h))

-- "lent multiplier collides"
pub says_6 : (block multiplier : ℕ) → (chosen_or 6 block (by_lent real (λ (b : ℕ). multiplier) block) ≡ refuses 6 (block ∷ [])) ↔ (clean real block multiplier ≡ false)
says_6 block multiplier =
    let none = lent_none real (λ (b : ℕ). multiplier) block in
    (λ e. none.0 (no_choice 6 block _ e), λ h. ap (chosen_or 6 block) (none.1 h))
