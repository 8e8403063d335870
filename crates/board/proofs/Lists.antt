-- Lists of squares, as a direction's line is one: which squares it has, which stand before a square, and how far a walk along it goes.
-- Assumes nothing.
use Prim.Native.Nat.{ℕ, ◌^◌, ◌<◌}
use mathlib.Core.Path.{◌≡◌, refl, sym, ap, ap₂, ◌∙◌}
use mathlib.Core.Bool.{Bool, true, false, not, ◌&&◌, ◌||◌, false≢true, and-false}
use mathlib.Core.List.{List, [], ◌∷◌}
use borrow.Author.Tests.{eqb-true}
use lib.Bits.{bit_or, or_lt}
use lib.Dec.{T, ltb, eqb, ltb→lt}
use lib.Pow.{pow_pos, pow-lt}
use Rattle.bits.specs.Set.{pick, has, every}
use Rattle.bits.proofs.Sets.{has_or, has_pow, has_zero}
use Rattle.bits.proofs.Every.{both_l, both_r, every_cong, every_true, every_and, every_one}
use Rattle.board.specs.Walk.{up_to}

-- t stands in the list
unfoldable pub is_in : ℕ → List ℕ → Bool
is_in t [] = false
is_in t (u ∷ us) = eqb u t || is_in t us

-- what stands before t
unfoldable pub before : ℕ → List ℕ → List ℕ
before t [] = []
before t (u ∷ us) = elim (eqb u t) [ true ↦ [] | false ↦ u ∷ before t us ]

-- the test passes at each square of the list
unfoldable pub each : (ℕ → Bool) → List ℕ → Bool
each p [] = true
each p (u ∷ us) = p u && each p us

-- the test passes at each square but the last
unfoldable pub each_inner : (ℕ → Bool) → List ℕ → Bool
each_inner p [] = true
each_inner p (u ∷ []) = true
each_inner p (u ∷ v ∷ us) = p u && each_inner p (v ∷ us)

-- every number of the list is a square
abbrev pub on_board : List ℕ → Bool
on_board l = each (λ t. ltb t 64) l

-- no square of the list is blocked
abbrev pub free : ℕ → List ℕ → Bool
free b l = each (λ t. not (has b t)) l

pub each_at : (p : ℕ → Bool) (t : ℕ) (l : List ℕ) → T (each p l) → is_in t l ≡ true → T (p t)
unfolding each is_in
each_at p t [] h e = absurd (false≢true e)
each_at p t (u ∷ us) h e = go (eqb u t) refl e (each_at p t us (both_r (p u) (each p us) h))
  where
    go : (c : Bool) → eqb u t ≡ c → (c || is_in t us) ≡ true → (is_in t us ≡ true → T (p t)) → T (p t)
    go true q e ih = move (eqb-true u t q) (both_l (p u) (each p us) h)
      where
        move : u ≡ t → T (p u) → T (p t)
        move r x = rw r at x
    go false q e ih = ih e

before_on_board : (t : ℕ) (l : List ℕ) → T (on_board l) → T (on_board (before t l))
unfolding each before
before_on_board t [] h = tt
before_on_board t (u ∷ us) h = go (eqb u t) (before_on_board t us (both_r (ltb u 64) (on_board us) h))
  where
    go : (c : Bool) → T (on_board (before t us)) → T (on_board (elim c [ true ↦ [] | false ↦ u ∷ before t us ]))
    go true ih = tt
    go false ih = and_t (ltb u 64) (on_board (before t us)) (both_l (ltb u 64) (on_board us) h) ih
      where
        and_t : (a b : Bool) → T a → T b → T (a && b)
        and_t true b x y = y
        and_t false b x y = x

-- ---- the walk along a list

-- a square is in it if it is in the list and no blocker stands before it
pub has_up_to : (b t : ℕ) (l : List ℕ) → has (up_to b l) t ≡ (is_in t l && free b (before t l))
unfolding up_to is_in each before
has_up_to b t [] = has_zero t
has_up_to b t (u ∷ us) =
    has_or (2 ^ u) (pick (has b u) 0 (up_to b us)) t
    ∙ ap (λ (x : Bool). x || has (pick (has b u) 0 (up_to b us)) t) (has_pow u t)
    ∙ go (eqb u t) (has b u) refl (has_up_to b t us)
  where
    go : (m h : Bool) → has b u ≡ h → has (up_to b us) t ≡ (is_in t us && free b (before t us)) → (m || has (pick h 0 (up_to b us)) t) ≡ ((m || is_in t us) && free b (elim m [ true ↦ [] | false ↦ u ∷ before t us ]))
    go true h e ih = refl
    go false true e ih = has_zero t ∙ sym (ap (λ (x : Bool). is_in t us && (not x && free b (before t us))) e ∙ and-false (is_in t us))
    go false false e ih = ih ∙ ap (λ (x : Bool). is_in t us && (not x && free b (before t us))) (sym e)

pub up_to_lt : (b : ℕ) (l : List ℕ) → T (on_board l) → up_to b l < 2 ^ 64
unfolding up_to each
up_to_lt b [] h = pow_pos 64
up_to_lt b (t ∷ ts) h =
    or_lt 64 (2 ^ t) (pick (has b t) 0 (up_to b ts)) (pow-lt (ltb→lt t 64 (both_l (ltb t 64) (on_board ts) h)))
    (go (has b t) (up_to_lt b ts (both_r (ltb t 64) (on_board ts) h)))
  where
    go : (c : Bool) → up_to b ts < 2 ^ 64 → pick c 0 (up_to b ts) < 2 ^ 64
    go true l = pow_pos 64
    go false l = l

-- whether the last square is blocked has no effect
pub up_to_same : (p : ℕ → Bool) (b b' : ℕ) → ((u : ℕ) → T (p u) → has b u ≡ has b' u) → (l : List ℕ) → T (each_inner p l) → up_to b l ≡ up_to b' l
unfolding up_to each_inner
up_to_same p b b' h [] t = refl
up_to_same p b b' h (u ∷ []) t = ap (bit_or (2 ^ u)) (none (has b u) ∙ sym (none (has b' u)))
  where
    none : (c : Bool) → pick c 0 0 ≡ 0
    none true = refl
    none false = refl
up_to_same p b b' h (u ∷ v ∷ us) t =
    ap₂ (λ (c : Bool) (x : ℕ). bit_or (2 ^ u) (pick c 0 x)) (h u (both_l (p u) (each_inner p (v ∷ us)) t))
    (up_to_same p b b' h (v ∷ us) (both_r (p u) (each_inner p (v ∷ us)) t))

-- ---- free, as a test over the board

pub every_free : (b : ℕ) (l : List ℕ) → T (on_board l) → every 64 (λ u. not (is_in u l && has b u)) ≡ free b l
unfolding is_in each
every_free b [] h = every_true 64
every_free b (t ∷ ts) h =
    every_cong 64 (λ u. not ((eqb t u || is_in u ts) && has b u)) (λ u. not (eqb t u && has b u) && not (is_in u ts && has b u))
    (λ u l. not_or (eqb t u) (is_in u ts) (has b u))
    ∙ every_and 64 (λ u. not (eqb t u && has b u)) (λ u. not (is_in u ts && has b u))
    ∙ ap₂ ◌&&◌ (every_one 64 t (has b) (ltb→lt t 64 (both_l (ltb t 64) (on_board ts) h))) (every_free b ts (both_r (ltb t 64) (on_board ts) h))
  where
    not_or : (a c x : Bool) → not ((a || c) && x) ≡ (not (a && x) && not (c && x))
    not_or true true true = refl
    not_or true true false = refl
    not_or true false true = refl
    not_or true false false = refl
    not_or false c x = refl

pub every_before : (b t : ℕ) (l : List ℕ) → T (on_board l) → every 64 (λ u. not (is_in u (before t l) && has b u)) ≡ free b (before t l)
every_before b t l h = every_free b (before t l) (before_on_board t l h)
