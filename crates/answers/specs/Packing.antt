-- Answers of the builds: their refusals, and a run over three small blocks, which shows what each word of 01's "Packing" does.
use Rattle.std.specs.Prelude.{ℕ, false, List, [], ◌∷◌, ◌++◌, get_or, replicate, Option, Some, None}
use Rattle.bits.specs.Shown.{shown}
use Rattle.packing.specs.declared.Taken.{Taken}
use Rattle.packing.specs.Pack.{Blocks, Outcome, done, refused, run}
use Rattle.gen_magic.specs.Builds.{Left, record_in, from_seed, from_lent}
use Rattle.slider.specs.Flat.{handed_of}
use Rattle.answers.specs.Tried.{Tried, ◌is◌not◌, one}

-- number, block, used length, the first record's fields and the first count, then table and marks
abbrev pub build : Left → List ℕ
build l =
    (handed_of l).build.number ∷ (handed_of l).build.block ∷ (handed_of l).build.used ∷ (record_in (handed_of l).build.records 0).multiplier ∷ (record_in (handed_of l).build.records 0).mask
    ∷ (record_in (handed_of l).build.records 0).offset ∷ (record_in (handed_of l).build.records 0).shift ∷ get_or (handed_of l).build.counts 0 0 ∷ ((handed_of l).table ++ (handed_of l).marks)

-- block 0 has 3 slots and hits the first and the last; block 1 has 1, and shares a bit with it; block 2 has 2, and shares none
abbrev pub small : Blocks
small =
    record {
      size = λ b. get_or (3 ∷ 1 ∷ 2 ∷ []) b 0;
      rays = λ b. get_or (1 ∷ 1 ∷ 2 ∷ []) b 0;
      walk = λ b i. get_or (1 ∷ 1 ∷ 2 ∷ []) b 0;
      index = λ b m i. get_or (get_or ((0 ∷ 2 ∷ 2 ∷ []) ∷ (0 ∷ []) ∷ (0 ∷ 1 ∷ []) ∷ []) b []) i 0;
      skipped = λ b m. false;
    }

-- the end, then offsets, multipliers, counts, table and marks; or the number and the block of a refusal
abbrev pub state : ℕ → Outcome → List ℕ
state len (done s) = s.end ∷ (shown 3 s.offset ++ shown 3 (λ b. (s.taken b).multiplier) ++ shown 3 (λ b. (s.taken b).count) ++ shown len s.table ++ shown len s.marks)
state len (refused number b) = number ∷ b ∷ []

abbrev pub taken : ℕ → Option Taken
taken b = Some (record { multiplier = get_or (7 ∷ 8 ∷ 9 ∷ []) b 0; count = get_or (4 ∷ 5 ∷ 6 ∷ []) b 0 })

abbrev pub table : List Tried
table =
    -- gen_all_magic, slider_build: 10 clears the loans, 3 comes first
    (build (from_seed 0 16777217 (5 ∷ []) (6 ∷ 7 ∷ [])) is (10 ∷ 0 ∷ 0 ∷ 0 ∷ 0 ∷ 0 ∷ 0 ∷ 0 ∷ 5 ∷ 6 ∷ 7 ∷ []) not (10 ∷ 0 ∷ 0 ∷ 0 ∷ 0 ∷ 0 ∷ 0 ∷ 0 ∷ 0 ∷ 0 ∷ 0 ∷ []))
    ∷ (build (from_seed 0 16777217 (5 ∷ []) (6 ∷ 7 ∷ [])) is (10 ∷ 0 ∷ 0 ∷ 0 ∷ 0 ∷ 0 ∷ 0 ∷ 0 ∷ 5 ∷ 6 ∷ 7 ∷ []) not (3 ∷ 0 ∷ 0 ∷ 0 ∷ 0 ∷ 0 ∷ 0 ∷ 0 ∷ 5 ∷ 6 ∷ 7 ∷ []))
    -- 3 is a success that writes nothing; 4 leaves the loans, 4 is 5
    ∷ (build (from_seed 0 0 (5 ∷ []) []) is (3 ∷ 0 ∷ 0 ∷ 0 ∷ 0 ∷ 0 ∷ 0 ∷ 0 ∷ 5 ∷ []) not (0 ∷ 0 ∷ 0 ∷ 0 ∷ 0 ∷ 0 ∷ 0 ∷ 0 ∷ 5 ∷ []))
    ∷ (build (from_seed 0 0 (5 ∷ []) (6 ∷ [])) is (4 ∷ 0 ∷ 0 ∷ 0 ∷ 0 ∷ 0 ∷ 0 ∷ 0 ∷ 0 ∷ 0 ∷ []) not (4 ∷ 0 ∷ 0 ∷ 0 ∷ 0 ∷ 0 ∷ 0 ∷ 0 ∷ 5 ∷ 6 ∷ []))
    ∷ (build (from_seed 0 0 (5 ∷ []) (6 ∷ [])) is (4 ∷ 0 ∷ 0 ∷ 0 ∷ 0 ∷ 0 ∷ 0 ∷ 0 ∷ 0 ∷ 0 ∷ []) not (5 ∷ 0 ∷ 0 ∷ 0 ∷ 0 ∷ 0 ∷ 0 ∷ 0 ∷ 0 ∷ 0 ∷ []))
    -- gen_all_lent, slider_build_lent: a list of 129 is taken, 3 comes first, 4 leaves the loans
    ∷ (build (from_lent (replicate 129 1) (5 ∷ []) (6 ∷ [])) is (9 ∷ 0 ∷ 0 ∷ 0 ∷ 0 ∷ 0 ∷ 0 ∷ 0 ∷ 5 ∷ 6 ∷ []) not (4 ∷ 0 ∷ 0 ∷ 0 ∷ 0 ∷ 0 ∷ 0 ∷ 0 ∷ 0 ∷ 0 ∷ []))
    ∷ (build (from_lent [] (5 ∷ []) []) is (9 ∷ 0 ∷ 0 ∷ 0 ∷ 0 ∷ 0 ∷ 0 ∷ 0 ∷ 5 ∷ []) not (3 ∷ 0 ∷ 0 ∷ 0 ∷ 0 ∷ 0 ∷ 0 ∷ 0 ∷ 5 ∷ []))
    ∷ (build (from_lent (replicate 128 1) (5 ∷ []) (6 ∷ [])) is (4 ∷ 0 ∷ 0 ∷ 0 ∷ 0 ∷ 0 ∷ 0 ∷ 0 ∷ 0 ∷ 0 ∷ []) not (4 ∷ 0 ∷ 0 ∷ 0 ∷ 0 ∷ 0 ∷ 0 ∷ 0 ∷ 5 ∷ 6 ∷ []))
    -- three blocks in 4 slots: block 1 falls into the slot that block 0 does not hit, and block 2 on top of both.
    -- Wrong: the whole range is marked, so that block 1 goes to the end; the end falls to that of block 1; walks are overwritten
    ∷ (state 4 (run small 4 5 taken 3) is (3 ∷ 0 ∷ 1 ∷ 0 ∷ 7 ∷ 8 ∷ 9 ∷ 4 ∷ 5 ∷ 6 ∷ 3 ∷ 3 ∷ 1 ∷ 0 ∷ 3 ∷ 3 ∷ 1 ∷ 0 ∷ []) not (4 ∷ 0 ∷ 3 ∷ 0 ∷ 7 ∷ 8 ∷ 9 ∷ 4 ∷ 5 ∷ 6 ∷ 3 ∷ 2 ∷ 1 ∷ 1 ∷ 3 ∷ 3 ∷ 1 ∷ 1 ∷ []))
    ∷ (state 4 (run small 4 5 taken 3) is (3 ∷ 0 ∷ 1 ∷ 0 ∷ 7 ∷ 8 ∷ 9 ∷ 4 ∷ 5 ∷ 6 ∷ 3 ∷ 3 ∷ 1 ∷ 0 ∷ 3 ∷ 3 ∷ 1 ∷ 0 ∷ []) not (2 ∷ 0 ∷ 1 ∷ 0 ∷ 7 ∷ 8 ∷ 9 ∷ 4 ∷ 5 ∷ 6 ∷ 3 ∷ 3 ∷ 1 ∷ 0 ∷ 3 ∷ 3 ∷ 1 ∷ 0 ∷ []))
    ∷ (state 4 (run small 4 5 taken 3) is (3 ∷ 0 ∷ 1 ∷ 0 ∷ 7 ∷ 8 ∷ 9 ∷ 4 ∷ 5 ∷ 6 ∷ 3 ∷ 3 ∷ 1 ∷ 0 ∷ 3 ∷ 3 ∷ 1 ∷ 0 ∷ []) not (3 ∷ 0 ∷ 1 ∷ 0 ∷ 7 ∷ 8 ∷ 9 ∷ 4 ∷ 5 ∷ 6 ∷ 2 ∷ 2 ∷ 1 ∷ 0 ∷ 3 ∷ 3 ∷ 1 ∷ 0 ∷ []))
    -- an exact fit is room; one slot less is none, at the first block that fails
    ∷ (one (get_or (state 3 (run small 3 5 taken 3)) 0 0) is one 3 not one 4)
    ∷ (state 2 (run small 2 5 taken 3) is (4 ∷ 0 ∷ []) not (4 ∷ 2 ∷ []))
    -- no candidate: 5, or 6 of a lent one, at its block; but 4 before it
    ∷ (state 4 (run small 4 5 (λ b. None) 3) is (5 ∷ 0 ∷ []) not (6 ∷ 0 ∷ []))
    ∷ (state 4 (run small 4 6 (λ b. None) 3) is (6 ∷ 0 ∷ []) not (5 ∷ 0 ∷ []))
    ∷ (state 2 (run small 2 5 (λ b. None) 3) is (4 ∷ 0 ∷ []) not (5 ∷ 0 ∷ []))
    ∷ []
