-- `candidates::Work::first_passing` meets its contract: before turn i the generator stands at candidate i, and none before
-- it passes.
use Rattle.std.proofs.Common.{◌≡◌, ℕ, ap, sym, ◌∙◌, below_more}
use Rattle.splitmix.specs.declared.Drawn.{Drawn}
use Rattle.splitmix.specs.declared.Generator.{Generator}
use Rattle.splitmix.specs.SplitMix.{after, candidate_of, drawn, state_at, candidate}
use Rattle.splitmix.proofs.Candidates.{state_next, candidate_is}
use Rattle.packing.specs.Pack.{passes}
use Rattle.blocks.specs.Real.{real}
use Rattle.candidates.proofs.Work.first_passing.Goals as goal

-- the candidate that was drawn
drawn_is : (seed i : ℕ) (g : Generator) (d : Drawn) → d ≡ drawn g → g.state ≡ state_at seed i → d.candidate ≡ candidate seed i
drawn_is seed i g d e q = ap (λ (x : Drawn). x.candidate) e ∙ ap candidate_of q ∙ candidate_is seed i

pub loop-i-preserved : goal.loop-i-preserved
loop-i-preserved c =
    let s = c.args in
    let l = c.loop-i in
    let is = drawn_is s.seed l.i l.generator c.draw-drawn.result c.draw-drawn.ensures l.invariant.0 in (
      ap (λ (d : Drawn). d.next.state) c.draw-drawn.ensures ∙ ap (after 3) l.invariant.0 ∙ state_next s.seed l.i,
      below_more _ _ l.invariant.1 (sym (c.passes.ensures ∙ ap (passes real s.self.now.block) is) ∙ c.if-passes.false),
    )
