-- The walk. 01, "The board": "Walk: from s in each of four directions, add squares up to and including the first blocker."
use Rattle.std.specs.Prelude.{ℕ, zero, suc, ◌^◌, List, [], ◌∷◌}
use Rattle.std.specs.Prelude.{Option, Some, None}
use Rattle.std.specs.Int.Bits.{bit_or}
use Rattle.bits.specs.Set.{pick, has}
use Rattle.square.specs.Square.{up_of, down_of, left_of, right_of}

-- a step, and a second one from where it leads
abbrev pub then_step : Option ℕ → (ℕ → Option ℕ) → Option ℕ
then_step None f = None
then_step (Some t) f = f t

-- one step of a kind in direction 0 to 3: left, right, up, down; left up, right up, left down, right down
unfoldable pub step : ℕ → ℕ → ℕ → Option ℕ
step zero zero s = left_of s
step zero (suc zero) s = right_of s
step zero (suc (suc zero)) s = up_of s
step zero (suc (suc (suc d))) s = down_of s
step (suc kind) zero s = then_step (left_of s) up_of
step (suc kind) (suc zero) s = then_step (right_of s) up_of
step (suc kind) (suc (suc zero)) s = then_step (left_of s) down_of
step (suc kind) (suc (suc (suc d))) s = then_step (right_of s) down_of

-- where a step leads, and the squares after it in the same direction, at most n in all
unfoldable pub onward : ℕ → ℕ → ℕ → Option ℕ → List ℕ
unfolding step
onward zero kind d t = []
onward (suc n) kind d None = []
onward (suc n) kind d (Some t) = t ∷ onward n kind d (step kind d t)

-- the squares in a direction, nearest first: seven at the most
unfoldable pub line : ℕ → ℕ → ℕ → List ℕ
unfolding onward step
line kind d s = onward 7 kind d (step kind d s)

-- up to and including the first blocker
unfoldable pub up_to : ℕ → List ℕ → ℕ
unfolding has
up_to blockers [] = 0
up_to blockers (t ∷ ts) = bit_or (2 ^ t) (pick (has blockers t) 0 (up_to blockers ts))

unfoldable pub walk : ℕ → ℕ → ℕ → ℕ
unfolding line up_to
walk kind s blockers = bit_or (bit_or (bit_or (up_to blockers (line kind 0 s)) (up_to blockers (line kind 1 s))) (up_to blockers (line kind 2 s))) (up_to blockers (line kind 3 s))
