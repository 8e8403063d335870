-- `candidates::questions_and_answers` meets its contract: before turn i the first i pairs stand at the front.
use Rattle.std.proofs.Common.{◌≡◌, ℕ, ◌<◌, length, get_or}
use Rattle.candidates.specs.Trial.{pair_of}
use Rattle.candidates.proofs.questions_and_answers.Given as goal

abbrev pub invariant-loop-i : goal.invariant-loop-i
invariant-loop-i l =
    (length l.space ≡ 4096) × ((k : ℕ) → k < l.i → get_or l.space k (record { question = 0; answer = 0 }) ≡ pair_of l.block k)
