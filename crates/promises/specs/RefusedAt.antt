-- 01, "Numbers handed back", of the two builds: each refusal exactly when, with its block: "The first failing block decides."; what a
-- build refused on the way leaves; and "No other refusal exists."
use Rattle.std.specs.Prelude.{ℕ, ◌≤◌, ◌<◌, ◌≡◌, false, List, [], ◌∷◌, ◌⊎◌, ◌↔◌, length, replicate}
use Rattle.refusal.specs.Paper.{refuses}
use Rattle.splitmix.specs.SplitMix.{candidate}
use Rattle.packing.specs.Pack.{clean}
use Rattle.packing.specs.Promised.{Room, Full, after, taken_by, NonePasses, EachFirst, lent_at, EachClean}
use Rattle.blocks.specs.Real.{real}
use Rattle.gen_magic.specs.Builds.{slots, from_seed, from_lent}
use Rattle.promises.specs.Demands.{Allowed, Refused}

-- ---- a build from a seed

-- the blocks before it took their first passing candidates, each at its first free place, and it does not fit at its own
abbrev pub FullAt : ℕ → ℕ → ℕ → ℕ → Type 0
FullAt seed budget len block =
    (block < 128) × (position : ℕ → ℕ) × EachFirst real (candidate seed) budget len position block × Full real len block (after real (taken_by (candidate seed) position) block)

-- the same, but it fits, and none of its candidates passes within the budget
abbrev pub SpentAt : ℕ → ℕ → ℕ → ℕ → Type 0
SpentAt seed budget len block =
    (block < 128) × (position : ℕ → ℕ) × EachFirst real (candidate seed) budget len position block × Room real len block (after real (taken_by (candidate seed) position) block) × NonePasses real (candidate seed) budget block

-- ---- a build from lent multipliers

-- its arguments are not refused
pub record LentAllowed (multipliers table marks : List ℕ) : Type 0 where
  pub list_allowed : length multipliers ≡ 128
  pub one_length : length table ≡ length marks

-- the blocks before it have no collision, each at its first free place, and it does not fit at its own
abbrev pub LentFullAt : (ℕ → ℕ) → ℕ → ℕ → Type 0
LentFullAt multiplier len block = (block < 128) × EachClean real multiplier len block × Full real len block (after real (lent_at multiplier) block)

-- the same, but it fits, and its multiplier collides
abbrev pub CollidesAt : (ℕ → ℕ) → ℕ → ℕ → Type 0
CollidesAt multiplier len block =
    (block < 128) × EachClean real multiplier len block × Room real len block (after real (lent_at multiplier) block) × (clean real block (multiplier block) ≡ false)

pub record RefusedAt : Type 0 where
  -- 10: "budget above 16,777,216", whatever the loans
  pub budget_above : (seed budget : ℕ) (table marks : List ℕ) → ((from_seed seed budget table marks).says ≡ refuses 10 []) ↔ (16777216 < budget)
  -- 3: "table and marks differ in length"
  pub unequal : (seed budget : ℕ) (table marks : List ℕ) → ((from_seed seed budget table marks).says ≡ refuses 3 []) ↔ ((budget ≤ 16777216) × (length table ≡ length marks → ⊥))
  -- 4: "no room"
  pub no_room : (seed budget : ℕ) (table marks : List ℕ) (block : ℕ) → ((from_seed seed budget table marks).says ≡ refuses 4 (block ∷ [])) ↔ (Allowed budget table marks × FullAt seed budget (length table) block)
  -- 5: "budget spent, none passed"
  pub spent : (seed budget : ℕ) (table marks : List ℕ) (block : ℕ) → ((from_seed seed budget table marks).says ≡ refuses 5 (block ∷ [])) ↔ (Allowed budget table marks × SpentAt seed budget (length table) block)
  -- "A build refused on the way leaves table, marks and records all zero."
  pub on_the_way_leaves : (seed budget : ℕ) (table marks : List ℕ) (number block : ℕ) → (from_seed seed budget table marks).says ≡ refuses number (block ∷ [])
      → Refused (from_seed seed budget table marks) number (block ∷ []) (replicate (length table) 0) (replicate (length marks) 0)
  -- "No other refusal exists."
  pub nothing_else : (seed budget : ℕ) (table marks : List ℕ) (number : ℕ) (values : List ℕ) → (from_seed seed budget table marks).says ≡ refuses number values
      → ((number ≡ 10) × (values ≡ [])) ⊎ ((number ≡ 3) × (values ≡ [])) ⊎ ((block : ℕ) × ((number ≡ 4) ⊎ (number ≡ 5)) × (values ≡ block ∷ []))
  -- 9: "multiplier list not 128 long", whatever the loans
  pub list_not_128 : (multipliers table marks : List ℕ) → ((from_lent multipliers table marks).says ≡ refuses 9 []) ↔ (length multipliers ≡ 128 → ⊥)
  -- 3: "table and marks differ in length"
  pub lent_unequal : (multipliers table marks : List ℕ) → ((from_lent multipliers table marks).says ≡ refuses 3 []) ↔ ((length multipliers ≡ 128) × (length table ≡ length marks → ⊥))
  -- 4: "no room"
  pub lent_no_room : (multipliers table marks : List ℕ) (block : ℕ) → ((from_lent multipliers table marks).says ≡ refuses 4 (block ∷ [])) ↔ (LentAllowed multipliers table marks × LentFullAt (slots multipliers) (length table) block)
  -- 6: "lent multiplier collides"
  pub collides : (multipliers table marks : List ℕ) (block : ℕ) → ((from_lent multipliers table marks).says ≡ refuses 6 (block ∷ [])) ↔ (LentAllowed multipliers table marks × CollidesAt (slots multipliers) (length table) block)
  -- "A build refused on the way leaves table, marks and records all zero."
  pub lent_on_the_way_leaves : (multipliers table marks : List ℕ) (number block : ℕ) → (from_lent multipliers table marks).says ≡ refuses number (block ∷ [])
      → Refused (from_lent multipliers table marks) number (block ∷ []) (replicate (length table) 0) (replicate (length marks) 0)
  -- "No other refusal exists."
  pub lent_nothing_else : (multipliers table marks : List ℕ) (number : ℕ) (values : List ℕ) → (from_lent multipliers table marks).says ≡ refuses number values
      → ((number ≡ 9) × (values ≡ [])) ⊎ ((number ≡ 3) × (values ≡ [])) ⊎ ((block : ℕ) × ((number ≡ 4) ⊎ (number ≡ 6)) × (values ≡ block ∷ []))
