-- Two steps in turn: where a step to the side leads, a second one is taken.
-- Assumes nothing.
use Rattle.std.proofs.Common.{◌≡◌, ℕ, ◌+◌, ◌-◌, ◌*◌, ◌/◌, ◌%◌, ◌≤◌, Bool, true, false, refl, ap, ◌∙◌, arith, subst}
use Rattle.std.specs.Prelude.{Option, Some, None, Result, Ok, MatchOption}
use lib.Dec.{ltb, eqb}
use borrow.Author.Tests.{le-ltb, eqb-false, ltb-false}
use Rattle.refusal.specs.declared.Refusal.{Refusal}
use Rattle.refusal.specs.Paper.{gives, refuse_if, said}
use Rattle.refusal.proofs.Said.{gives_same, gives_not}
use Rattle.square.specs.Square.{rank_of, file_of, on_square, unless, left_of, right_of}
use Rattle.board.specs.Walk.{then_step}

-- on the board, if anywhere
Low : Option ℕ → Type 0
Low x = (t : ℕ) → x ≡ Some t → t ≤ 63

-- a step that is not off the board leads where it says
unless_low : (c : Bool) (t u : ℕ) → unless c u ≡ Some t → (c ≡ false → u ≤ 63) → t ≤ 63
unless_low true t u e h = absurd (never e)
  where
    never : None ≡ Some t → ⊥
    never q = let z : ◌≡◌ {A = ℕ} 0 1 = cc in omega arith
unless_low false t u e h = let l : u ≤ 63 = h refl in let q : u ≡ t = same e in omega arith
  where
    same : {a b : ℕ} → Some a ≡ Some b → a ≡ b
    same q = cc

left_low : (s : ℕ) → s ≤ 63 → Low (left_of s)
unfolding Low
left_low s h t e = unless_low (eqb (file_of s) 0) t (8 * rank_of s + (file_of s - 1)) e (λ q. omega arith)

right_low : (s : ℕ) → s ≤ 63 → Low (right_of s)
unfolding Low
right_low s h t e = unless_low (eqb (file_of s) 7) t (8 * rank_of s + (file_of s + 1)) e (λ q. inner (eqb-false (s % 8) 7 q))
  where
    inner : (s % 8 ≡ 7 → ⊥) → 8 * (s / 8) + (s % 8 + 1) ≤ 63
    inner ne = omega arith

-- what a second step from there answers, in the way of `Option::map_or`
abbrev Second : (ℕ → Option ℕ) → Option ℕ → Result (Option ℕ) Refusal → Type 0
Second f x r = MatchOption x (r ≡ Ok None) (λ t. said r ≡ on_square t (gives (f t)))

second : (f : ℕ → Option ℕ) (x : Option ℕ) (r : Result (Option ℕ) Refusal) → Low x → Second f x r → said r ≡ gives (then_step x f)
unfolding Low
second f None r low e = ap said e
second f (Some t) r low e = e ∙ ap (λ (c : Bool). refuse_if c 2 (gives (f t))) (le-ltb 63 t (low t refl))

then_second : (s : ℕ) (f : ℕ → Option ℕ) (x y : Option ℕ) (r : Result (Option ℕ) Refusal) → (s ≤ 63 → Low y) → gives x ≡ on_square s (gives y) → Second f x r → said r ≡ on_square s (gives (then_step y f))
then_second s f x y r low e h = go (ltb 63 s) refl e
  where
    go : (c : Bool) → ltb 63 s ≡ c → gives x ≡ refuse_if c 2 (gives y) → said r ≡ refuse_if c 2 (gives (then_step y f))
    go true q k = absurd (gives_not k)
    go false q k =
        let same : x ≡ y = gives_same k in
        second f y r (low (ltb-false 63 s q)) (subst (λ (z : Option ℕ). Second f z r) same h)

pub left_then : (s : ℕ) (f : ℕ → Option ℕ) (x : Option ℕ) (r : Result (Option ℕ) Refusal) → gives x ≡ on_square s (gives (left_of s)) → Second f x r → said r ≡ on_square s (gives (then_step (left_of s) f))
left_then s f x r = then_second s f x (left_of s) r (left_low s)

pub right_then : (s : ℕ) (f : ℕ → Option ℕ) (x : Option ℕ) (r : Result (Option ℕ) Refusal) → gives x ≡ on_square s (gives (right_of s)) → Second f x r → said r ≡ on_square s (gives (then_step (right_of s) f))
right_then s f x r = then_second s f x (right_of s) r (right_low s)
