-- Candidates, packing and the two builds, over any blocks. 01, "Candidates" and "Packing".
use Rattle.std.specs.Prelude.{ℕ, zero, suc, ◌+◌, max, Bool, true, false, cond, not, ◌&&◌, leb, ltb, eqb, Option, Some, None}
use Rattle.std.specs.Int.Bits.{bit_and, bit_or}
use Rattle.std.specs.Bool.{then_some}
use Rattle.bits.specs.Set.{pick, every, least}
use Rattle.packing.specs.declared.Taken.{Taken}

-- what a build has to know of each block
pub record Blocks : Type 0 where
  pub size : ℕ → ℕ
  pub rays : ℕ → ℕ
  -- the walk of subset i: block, i
  pub walk : ℕ → ℕ → ℕ
  -- the slot that multiplier m gives subset i, counted from the block's place: block, m, i
  pub index : ℕ → ℕ → ℕ → ℕ
  -- the search skips candidate m: block, m
  pub skipped : ℕ → ℕ → Bool

-- ---- candidates

-- "A collision is destructive when two subsets reach one trial slot, .., with different walks."
unfoldable pub destructive : (ℕ → ℕ) → (ℕ → ℕ) → ℕ → ℕ → Bool
destructive slot value i j = eqb (slot i) (slot j) && not (eqb (value i) (value j))

-- "no destructive collision" of n values, each at its slot
unfoldable pub agree : ℕ → (ℕ → ℕ) → (ℕ → ℕ) → Bool
agree n slot value = every n (λ i. every n (λ j. not (destructive slot value i j)))

-- multiplier m has none
unfoldable pub clean : Blocks → ℕ → ℕ → Bool
clean B b m = agree (B.size b) (B.index b m) (B.walk b)

-- "A candidate passes when it isn't skipped and has no destructive collision."
unfoldable pub passes : Blocks → ℕ → ℕ → Bool
passes B b m = not (B.skipped b m) && clean B b m

-- where, from 0, the first passing candidate stands; the budget if none passes within it. "Every block starts again from
-- the same seed", so that candidate i is the same for each
unfoldable pub first_passing : Blocks → (ℕ → ℕ) → ℕ → ℕ → ℕ
first_passing B candidate budget b = least budget (λ i. passes B b (candidate i))

-- the candidate at p, if that is within the budget; its count is its position from 1
unfoldable pub taken_at : (ℕ → ℕ) → ℕ → ℕ → Option Taken
taken_at candidate budget p = then_some (ltb p budget) (record { multiplier = candidate p; count = suc p })

-- "A block's attempt count is the position, from 1, of its first passing candidate." "Skipped candidates count as
-- attempts."
unfoldable pub by_search : Blocks → (ℕ → ℕ) → ℕ → ℕ → Option Taken
by_search B candidate budget b = taken_at candidate budget (first_passing B candidate budget b)

-- "The build from lent multipliers does the same with 128 given numbers, in block order, testing collisions only: the
-- skip rule belongs to the search. Its attempt counts are 0."
unfoldable pub by_lent : Blocks → (ℕ → ℕ) → ℕ → Option Taken
by_lent B lent b = then_some (clean B b (lent b)) (record { multiplier = lent b; count = 0 })

-- ---- packing

-- what a build holds between two blocks: what is in each slot of table and marks ("Marks past the lent length count as
-- 0"), the end, and of each block placed its offset and what was taken for it. "A record is multiplier, mask, offset (32
-- bits), shift", of which mask and shift are the block's own
pub record State : Type 0 where
  pub table : ℕ → ℕ
  pub marks : ℕ → ℕ
  pub end : ℕ
  pub offset : ℕ → ℕ
  pub taken : ℕ → Taken

abbrev pub zeros : ℕ → ℕ
zeros i = 0

-- "Before block 0 all table and mark slots are 0 and the end is 0."
abbrev pub start : State
start = record { table = zeros; marks = zeros; end = 0; offset = zeros; taken = λ b. record { multiplier = 0; count = 0 } }

-- "the marks at i up to i + size - 1 share no bit with its rays". "All slots of the range are tested, hit or not."
unfoldable pub free : ℕ → ℕ → (ℕ → ℕ) → ℕ → Bool
free size rays marks i = every size (λ j. eqb (bit_and (marks (i + j)) rays) 0)

-- "A block's place is the smallest i below the end such that ..; if none, the end."
unfoldable pub first_free : ℕ → ℕ → (ℕ → ℕ) → ℕ → ℕ
first_free size rays marks end = least end (free size rays marks)

unfoldable pub place : Blocks → ℕ → State → ℕ
place B b s = first_free (B.size b) (B.rays b) s.marks s.end

-- the slot that subset i hits with multiplier m
unfoldable pub hit : Blocks → ℕ → State → ℕ → ℕ → ℕ
hit B b s m i = place B b s + B.index b m i

-- what slot j holds, where it held `old`, after each i below n in turn had its value ORed into its slot
unfoldable pub or_into : (ℕ → ℕ) → (ℕ → ℕ) → ℕ → ℕ → ℕ → ℕ
or_into slot value zero j old = old
or_into slot value (suc n) j old = pick (eqb (slot n) j) (bit_or (or_into slot value n j old) (value n)) (or_into slot value n j old)

-- f with v at i
unfoldable pub put : {A : Type 0} → ℕ → A → (ℕ → A) → ℕ → A
put i v f j = cond (eqb i j) v (f j)

-- "After the search, each slot hit by a subset gets the walk ORed into the table and the rays ORed into the marks". "The
-- end becomes the larger of the old end and place + size"
unfoldable pub next : Blocks → ℕ → State → Taken → State
next B b s x =
    record {
      table = λ j. or_into (hit B b s x.multiplier) (B.walk b) (B.size b) j (s.table j);
      marks = λ j. or_into (hit B b s x.multiplier) (λ i. B.rays b) (B.size b) j (s.marks j);
      end = max s.end (place B b s + B.size b);
      offset = put b (place B b s) s.offset;
      taken = put b x s.taken;
    }

-- ---- the builds

-- success with its state; or a refusal, by its number and its block
pub data Outcome : Type 0 where
  done : State → Outcome
  refused : ℕ → ℕ → Outcome

-- block b, as it fits or not and by what is chosen: "within a block 4 before 5 or 6", of which `why` is the one
unfoldable pub tried : Blocks → ℕ → ℕ → State → Bool → Option Taken → Outcome
tried B why b s false c = refused 4 b
tried B why b s true None = refused why b
tried B why b s true (Some x) = done (next B b s x)

-- "If place + size exceeds the table, no room." "The first failing block decides."
unfoldable pub step : Blocks → ℕ → ℕ → (ℕ → Option Taken) → ℕ → Outcome → Outcome
step B len why choice b (done s) = tried B why b s (leb (place B b s + B.size b) len) (choice b)
step B len why choice b (refused number at) = refused number at

-- blocks 0 to n - 1, in order
unfoldable pub run : Blocks → ℕ → ℕ → (ℕ → Option Taken) → ℕ → Outcome
run B len why choice zero = done start
run B len why choice (suc n) = step B len why choice n (run B len why choice n)

-- "Magic blocks are always taken 0 to 127". 5: "budget spent, none passed"; 6: "lent multiplier collides"
unfoldable pub seed_build : Blocks → (ℕ → ℕ) → ℕ → ℕ → Outcome
seed_build B candidate budget len = run B len 5 (by_search B candidate budget) 128

unfoldable pub lent_build : Blocks → (ℕ → ℕ) → ℕ → Outcome
lent_build B lent len = run B len 6 (by_lent B lent) 128
