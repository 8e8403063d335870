-- What a batch says of a query on the board, by each of the three exports: the attack set. Demand 2, across the border.
use Rattle.std.specs.Prelude.{ℕ, ◌^◌, ◌<◌, ◌≡◌, List, length}
use Rattle.refusal.specs.Paper.{gives}
use Rattle.board.specs.Board.{attack}
use Rattle.bmis.specs.Bmis.{filled}
use Rattle.gen_magic.specs.Builds.{slots, from_seed, from_lent}
use Rattle.promises.specs.Demands.{Succeeds}
use Rattle.slider.specs.Batch.{walk_asked, pext_asked, moves_asked}

pub record InBatch (kinds squares blockers : List ℕ) (i : ℕ) : Type 0 where
  pub by_walk : walk_asked kinds squares blockers i ≡ gives (attack (slots kinds i) (slots squares i) (slots blockers i))
  pub by_pext : (old : List ℕ) → length old ≡ 107648 → pext_asked (filled old) kinds squares blockers i ≡ gives (attack (slots kinds i) (slots squares i) (slots blockers i))
  pub by_seed : (seed budget : ℕ) (table marks : List ℕ) → Succeeds (from_seed seed budget table marks)
      → moves_asked (from_seed seed budget table marks).records (from_seed seed budget table marks).table kinds squares blockers i ≡ gives (attack (slots kinds i) (slots squares i) (slots blockers i))
  pub by_lent : (multipliers table marks : List ℕ) → Succeeds (from_lent multipliers table marks)
      → moves_asked (from_lent multipliers table marks).records (from_lent multipliers table marks).table kinds squares blockers i ≡ gives (attack (slots kinds i) (slots squares i) (slots blockers i))

pub record Batches : Type 0 where
  pub in_batch : (kinds squares blockers : List ℕ) (i : ℕ) → slots kinds i < 2 → slots squares i < 64 → slots blockers i < 2 ^ 64 → InBatch kinds squares blockers i
