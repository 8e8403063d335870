-- Sets of squares as numbers: 01, "The board": "Bit s of a 64-bit set is square s."
use Rattle.std.specs.Prelude.{ℕ, zero, suc, ◌+◌, ◌*◌, ◌/◌, ◌%◌, ◌^◌, Bool, true, false, ◌&&◌, ◌==◌}

-- digit t of n, 0 or 1: for proofs, since `omega` reads it
abbrev pub bit : ℕ → ℕ → ℕ
bit n t = n / 2 ^ t % 2

-- t is in the set n: for definitions
unfoldable pub has : ℕ → ℕ → Bool
has n t = bit n t == 1

abbrev pub pick : Bool → ℕ → ℕ → ℕ
pick true a b = a
pick false a b = b

abbrev pub digit : Bool → ℕ
digit true = 1
digit false = 0

-- the number of k digits whose digit t is f t
unfoldable pub from_bits : ℕ → (ℕ → ℕ) → ℕ
from_bits zero f = zero
from_bits (suc k) f = f k * 2 ^ k + from_bits k f

-- the set of the squares at which the test passes
unfoldable pub set_of : (ℕ → Bool) → ℕ
unfolding from_bits
set_of p = from_bits 64 (λ t. digit (p t))

-- the test passes at every number below n
unfoldable pub every : ℕ → (ℕ → Bool) → Bool
every zero p = true
every (suc n) p = p n && every n p

-- how many squares of m are below t
unfoldable pub count_below : ℕ → ℕ → ℕ
count_below m zero = zero
count_below m (suc t) = count_below m t + bit m t

-- how many squares a set has
unfoldable pub count : ℕ → ℕ
unfolding count_below
count m = count_below m 64

-- the least number below n at which the test passes, or n where there is none
unfoldable pub least : ℕ → (ℕ → Bool) → ℕ
least zero p = zero
least (suc n) p = elim (p zero) as (λ _. ℕ) [ true ↦ zero | false ↦ suc (least n (λ i. p (suc i))) ]
