-- 01, "The first failing block decides": builds in 64 slots that are refused at a later block than the first.
use Rattle.std.specs.Prelude.{ℕ, ◌≡◌, List, [], ◌∷◌, length}
use Rattle.refusal.specs.Paper.{refuses}
use Rattle.gen_magic.specs.Builds.{from_seed, from_lent}

pub record Later : Type 0 where
  -- the first candidate passes for bishop A1, and collides for bishop B1
  pub spent_at_1 : (table marks : List ℕ) → length table ≡ 64 → length marks ≡ 64 → (from_seed 5749 1 table marks).says ≡ refuses 5 (1 ∷ [])
  -- the first candidate passes for both, bishop B1 lies on top of bishop A1, and bishop C1 meets A1's rays in every slot
  pub no_room_at_2 : (table marks : List ℕ) → length table ≡ 64 → length marks ≡ 64 → (from_seed 14914 1 table marks).says ≡ refuses 4 (2 ∷ [])
  -- bishop A1's multiplier is clean, and 0 sends all of bishop B1's subsets to one slot
  pub collides_at_1 : (rest table marks : List ℕ) → length rest ≡ 126 → length table ≡ 64 → length marks ≡ 64 → (from_lent (0x1d082081100a200 ∷ 0 ∷ rest) table marks).says ≡ refuses 6 (1 ∷ [])
