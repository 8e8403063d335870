-- `gen_magic::is_free` meets its contract.
use Rattle.std.proofs.Common.{ℕ, ◌+◌, ◌∙◌, eqb, refl, arith, rules, tests}
use Rattle.std.specs.Int.Bits.{bit_and}
use Rattle.std.proofs.lemmas.Iterator.{YieldsList-from_range}
use Rattle.std.proofs.lemmas.Iterator.Search.{all_from_yields_List}
use Rattle.packing.specs.Pack.{free}
use Rattle.gen_magic.specs.Builds.{slots}
use Rattle.gen_magic.proofs.Ranges.{range_all}
use Rattle.gen_magic.proofs.is_free.Goals as goal

pub returns : goal.returns
unfolding free
returns c = let a = c.args in
    all_from_yields_List (λ (j : ℕ). eqb (bit_and (slots a.marks.now (a.i + j)) a.rays) 0) _ _ _ c.all.ensures.ran (YieldsList-from_range 0 a.size a.size refl (omega arith)) (λ x b q k. search (rules, tests))
    ∙ range_all (λ (j : ℕ). eqb (bit_and (slots a.marks.now (a.i + j)) a.rays) 0) a.size
