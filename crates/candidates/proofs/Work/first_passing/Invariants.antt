-- `candidates::Work::first_passing` meets its contract: before turn i the generator stands at candidate i, and none before
-- it passes.
use Rattle.std.proofs.Common.{◌≡◌, ℕ, ◌<◌, false}
use Rattle.splitmix.specs.SplitMix.{state_at, candidate}
use Rattle.packing.specs.Pack.{passes}
use Rattle.blocks.specs.Real.{real}
use Rattle.candidates.proofs.Work.first_passing.Given as goal

abbrev pub invariant-loop-i : goal.invariant-loop-i
invariant-loop-i l =
    (l.generator.state ≡ state_at l.seed l.i) × ((j : ℕ) → j < l.i → passes real l.self.block (candidate l.seed j) ≡ false)
