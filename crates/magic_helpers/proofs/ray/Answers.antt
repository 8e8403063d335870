-- `magic_helpers::ray` meets its contract: what is gathered, and the walk from where the loop stands, make the whole.
use Rattle.std.proofs.Common.{◌≡◌, ℕ, ◌<◌, refl, sym, ◌∙◌, arith}
use Rattle.std.specs.Prelude.{Option, Some}
use lib.Bits.{or_zero_l}
use Rattle.refusal.specs.Paper.{gives}
use Rattle.refusal.proofs.Said.{gives_same}
use Rattle.square.specs.Square.{on_square}
use Rattle.board.specs.Walk.{step, line, up_to}
use Rattle.board.proofs.Lines.{step_low}
use Rattle.magic_helpers.proofs.Along.{given_step, to_go, along_off, along_end, along_stop, along_on}
use Rattle.magic_helpers.proofs.ray.Goals as goal

-- where a step led
abbrev led : (k d at : ℕ) (x : Option ℕ) → at < 64 → gives x ≡ on_square at (gives (step k d at)) → step k d at ≡ x
led k d at x h e = gives_same (sym (given_step k d at _ h e))

-- the next square, and that it is on the board
next : (k d at t : ℕ) (x : Option ℕ) → (k < 2) × (d < 4) → at < 64 → x ≡ Some t → gives x ≡ on_square at (gives (step k d at)) → (step k d at ≡ Some t) × (t < 64)
next k d at t x way h e g = let s = led k d at x h g ∙ e in (s, step_low _ _ _ _ way.0 h way.1 s)

pub loop-n-init : goal.loop-n-init
unfolding to_go line
loop-n-init g c = record { on_board = c.requires.1.1.1.1; whole = or_zero_l (up_to c.args.blockers (line (g.way).0 (g.way).1 c.args.sq)) }

pub returns-in-Ok-None : goal.returns-in-Ok-None
returns-in-Ok-None g c =
    let l = c.loop-n in
    along_off _ l.n _ _ _ _ _ l.invariant.whole (led _ _ _ _ l.invariant.on_board (c.requires.1.1.0 l.at _ c.in-Ok-None.ensures) ∙ c.in-Ok-None.field-0-is)

pub overflow_shl-one : goal.overflow_shl-one
overflow_shl-one g c =
    let l = c.loop-n in
    (next _ _ l.at _ _ c.requires.1.1.1.0 l.invariant.on_board c.in-Ok-Some.field-0-is (c.requires.1.1.0 l.at _ c.in-Ok-Some.ensures)).1

pub returns-then-blockers-one-ne0 : goal.returns-then-blockers-one-ne0
returns-then-blockers-one-ne0 g c =
    let l = c.loop-n in
    let to = next _ _ l.at _ _ c.requires.1.1.1.0 l.invariant.on_board c.in-Ok-Some.field-0-is (c.requires.1.1.0 l.at _ c.in-Ok-Some.ensures) in
    along_stop _ l.n _ _ _ l.set _ l.invariant.whole _ to.0 c.loop-n-test.true to.1 _ refl c.if-blockers-one-ne0.true

pub loop-n-preserved : goal.loop-n-preserved
loop-n-preserved g c =
    let l = c.loop-n in
    let to = next _ _ l.at _ _ c.requires.1.1.1.0 l.invariant.on_board c.in-Ok-Some.field-0-is (c.requires.1.1.0 l.at _ c.in-Ok-Some.ensures) in
    record { on_board = to.1; whole = along_on _ l.n _ _ _ l.set _ l.invariant.whole _ to.0 c.loop-n-test.true to.1 _ refl (omega arith) }

pub returns : goal.returns
returns g c = let l = c.loop-n in along_end _ l.n _ _ _ _ _ l.invariant.whole (omega (arith, c.loop-n-test.false))
