-- `slider::all_rays` meets its contract.
use Rattle.std.proofs.Common.{rules}
use Rattle.bits.proofs.Shown.{shown_list}
use Rattle.slider.proofs.all_rays.Goals as goal

pub returns : goal.returns
returns c =
    let e = c.from_fn.ensures.items in
    shown_list 128 c.from_fn.result 0 _ e.long (λ i l. let h = e.at i 0 l in search rules)
