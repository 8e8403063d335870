-- `candidates::questions_and_answers` meets its contract: before turn i the first i pairs stand at the front.
use Rattle.std.proofs.Common.{◌≡◌, ℕ, ap, ap₂, ◌∙◌, arith, get_or-set_other, get_or-set_same, below_more}
use lib.ListN.{length-set}
use Rattle.board.specs.Board.{attack}
use Rattle.board.specs.Blocks.{kind_of, square_of}
use Rattle.board.proofs.Sizes.{block_size_high}
use Rattle.candidates.specs.declared.Pair.{Pair}
use Rattle.candidates.specs.Trial.{pair_of}
use Rattle.candidates.proofs.Block.{pairs_front}
use Rattle.candidates.proofs.questions_and_answers.Goals as goal

pub loop-i-preserved : goal.loop-i-preserved
loop-i-preserved c =
    let l = c.loop-i in
    let b = c.args.block in
    let pair : Pair = record { question = c.subset_at-question.result; answer = c.walk_at-answer.result } in
    let is : pair ≡ pair_of b l.i =
    ap₂ (λ (x y : ℕ). record { question = x; answer = y }) c.subset_at-question.ensures
    (c.walk_at-answer.ensures ∙ ap (attack (kind_of b) (square_of b)) c.subset_at-question.ensures) in (
      length-set l.space l.i pair ∙ l.invariant.0,
      below_more _ _ (λ k h. get_or-set_other l.space l.i k pair _ (omega arith) ∙ l.invariant.1 k h)
          (get_or-set_same l.space l.i pair _ (omega (arith, l.invariant.0, c.size_at-size.ensures, block_size_high b)) ∙ is),
    )

pub returns : goal.returns
returns c =
    let l = c.loop-i in
    pairs_front c.args.block c.size_at-size.result l.space _ c.size_at-size.ensures (omega (arith, c.size_at-size.ensures, block_size_high c.args.block)) (λ i h. l.invariant.1 i (omega arith))
