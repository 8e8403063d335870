-- `gen_magic::first_free` meets its contract.
use Rattle.std.proofs.Common.{ℕ, ◌∙◌, ap, sym, Bool, refl, arith, rules, tests}
use Rattle.std.proofs.lemmas.Iterator.{YieldsList-from_range}
use Rattle.std.proofs.lemmas.Iterator.Adapters.{option_map_id}
use Rattle.std.proofs.lemmas.Iterator.Search.{find_from_yields_List}
use Rattle.std.specs.Prelude.{Option, unwrap_or}
use Rattle.packing.specs.Pack.{free, first_free}
use Rattle.gen_magic.specs.Builds.{slots}
use Rattle.gen_magic.proofs.Ranges.{range_find}
use Rattle.gen_magic.proofs.first_free.Goals as goal

pub returns : goal.returns
unfolding first_free
returns c = let a = c.args in
    let p : ℕ → Bool = free a.size a.rays (slots a.marks.now) in
    let found = find_from_yields_List p _ _ c.find.result c.find.ensures.ran (YieldsList-from_range 0 a.end a.end refl (omega arith)) (λ x b q k. search (rules, tests)) in
    c.unwrap_or.ensures ∙ ap (λ (o : Option ℕ). unwrap_or o a.end) (sym (option_map_id c.find.result) ∙ found) ∙ range_find p a.end
