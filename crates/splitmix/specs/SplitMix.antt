-- SplitMix64. 01, "Candidates"; the constants are those of Vigna's splitmix64.c.
use Rattle.std.specs.Prelude.{ℕ, zero, suc, ◌+◌, ◌*◌, ◌/◌, ◌%◌, ◌^◌, bit_and, bit_xor}
use Rattle.splitmix.specs.declared.Generator.{Generator}
use Rattle.splitmix.specs.declared.Drawn.{Drawn}

-- "Each output adds 0x9E3779B97F4A7C15 to the state .. all modulo 2^64"
unfoldable pub advanced : ℕ → ℕ
advanced state = (state + 0x9E3779B97F4A7C15) % 2 ^ 64

-- z xor z>>k
abbrev pub folded : ℕ → ℕ → ℕ
folded k z = bit_xor z (z / 2 ^ k)

-- "then mixes z = state: z = (z xor z>>30) * 0xBF58476D1CE4E5B9; z = (z xor z>>27) * 0x94D049BB133111EB; output z xor z>>31"
unfoldable pub mixed : ℕ → ℕ
mixed z = folded 31 (folded 27 (folded 30 z * 0xBF58476D1CE4E5B9 % 2 ^ 64) * 0x94D049BB133111EB % 2 ^ 64)

-- the state n outputs on
unfoldable pub after : ℕ → ℕ → ℕ
after zero state = state
after (suc n) state = advanced (after n state)

-- the n-th output from a state, n counted from 1
unfoldable pub output : ℕ → ℕ → ℕ
output n state = mixed (after n state)

-- "A candidate is the AND of three outputs in a row."
unfoldable pub candidate_of : ℕ → ℕ
candidate_of state = bit_and (bit_and (output 1 state) (output 2 state)) (output 3 state)

-- "A by-value draw hands back the candidate and the moved generator."
abbrev pub moved : Generator → Generator
moved g = record { state = after 3 g.state }

abbrev pub drawn : Generator → Drawn
drawn g = record { candidate = candidate_of g.state; next = moved g }

-- the state from which candidate i of a seed is drawn, i counted from 0
unfoldable pub state_at : ℕ → ℕ → ℕ
state_at seed i = after (3 * i) seed

-- "Every block starts again from the same seed": candidate i of a seed
unfoldable pub candidate : ℕ → ℕ → ℕ
candidate seed i = candidate_of (state_at seed i)
