-- The crate's walk, with XOR and one answer carried through the directions, is the attack set for every set of blockers.
-- Assumes nothing.
use Prim.Native.Nat.{ℕ, zero, suc, ◌^◌, ◌<◌}
use mathlib.Core.Path.{◌≡◌, refl, sym, ap, ap₂, ◌∙◌}
use mathlib.Core.Bool.{Bool, true, false, not, ◌&&◌, ◌||◌, or_assoc, true≢false}
use mathlib.Core.List.{List, [], ◌∷◌, ◌++◌}
use Rattle.std.specs.Prelude.{Option, None, Some}
use native.Mathlib.Omega.{arith}
use borrow.Author.Tests.{ne_eqb}
use lib.Bits.{bit_and, bit_or, bit_xor, or_disjoint, xor_disjoint, or_zero_r, and_comm}
use lib.Dec.{T, eqb, lit<}
use lib.Pow.{pow_pos}
use Rattle.bits.specs.Set.{pick, has}
use Rattle.bits.proofs.Sets.{has_or, has_pow, has_zero}
use Rattle.bits.proofs.Algebra.{bit_or_assoc, and_square}
use Rattle.bits.proofs.Every.{is_false, both_l, both_r}
use Rattle.board.specs.Board.{attack}
use Rattle.board.specs.Walk.{line, up_to, walk}
use Rattle.board.specs.Crate.{cond, answer_along, answer_all, answer, rook_directions, bishop_directions}
use Rattle.board.proofs.Lists.{is_in, before, free, has_up_to}
use Rattle.board.proofs.Lines.{apart, passed, lines_apart}
use Rattle.board.proofs.Attack.{walk_attack}
use Rattle.board.proofs.CrateBoard.{path, direction, path_is_line}

-- ---- one square

xor_new : (a t : ℕ) → has a t ≡ false → bit_xor a (2 ^ t) ≡ bit_or a (2 ^ t)
xor_new a t h =
    let z : bit_and a (2 ^ t) ≡ 0 = and_comm a (2 ^ t) ∙ and_square a t ∙ ap (λ (x : Bool). pick x (2 ^ t) 0) h in
    xor_disjoint a (2 ^ t) z ∙ sym (or_disjoint a (2 ^ t) z)

-- the crate's test for a break, turned round
test : (b t : ℕ) → eqb (bit_and (2 ^ t) b) 0 ≡ not (has b t)
test b t = ap (λ (x : ℕ). eqb x 0) (and_square b t) ∙ go (has b t)
  where
    go : (h : Bool) → eqb (pick h (2 ^ t) 0) 0 ≡ not h
    go true = ne_eqb (2 ^ t) 0 (λ e. omega (arith, pow_pos t))
    go false = refl

-- ---- one direction

-- the answer so far has only squares of the list
abbrev Covers : List ℕ → ℕ → Type 0
Covers l a = (t : ℕ) → is_in t l ≡ false → has a t ≡ false

neither : (a b : Bool) → (a || b) ≡ false → (a ≡ false) × (b ≡ false)
neither true b e = absurd (true≢false e)
neither false b e = (refl, e)

more : (l : List ℕ) (a t : ℕ) → Covers l a → Covers (t ∷ l) (bit_or a (2 ^ t))
unfolding is_in
more l a t c u e = let q = neither (eqb t u) (is_in u l) e in has_or a (2 ^ t) u ∙ ap₂ ◌||◌ (c u q.1) (has_pow t u ∙ q.0)

along : (n : ℕ) (m : ℕ → Option ℕ) (x : Option ℕ) (b a : ℕ) (l : List ℕ) → Covers l a → T (apart l (path n m x)) → answer_along n m x b a ≡ bit_or a (up_to b (path n m x))
unfolding answer_along path up_to apart
along zero m x b a l c t = sym (or_zero_r a)
along (suc n) m None b a l c t = sym (or_zero_r a)
along (suc n) m (Some s) b a l c t =
    let ts : List ℕ = path n m (m s) in
    let e : bit_xor a (2 ^ s) ≡ bit_or a (2 ^ s) = xor_new a s (c s (is_false (is_in s l) (both_l (not (is_in s l)) (apart (s ∷ l) ts) t))) in
    ap₂ (λ (q : Bool) (y : ℕ). cond q (answer_along n m (m s) b y) y) (test b s) e
    ∙ go (has b s) (up_to b ts) (along n m (m s) b (bit_or a (2 ^ s)) (s ∷ l) (more l a s c) (both_r (not (is_in s l)) (apart (s ∷ l) ts) t))
  where
    go : (h : Bool) (w : ℕ) {x : ℕ} → x ≡ bit_or (bit_or a (2 ^ s)) w → cond (not h) x (bit_or a (2 ^ s)) ≡ bit_or a (bit_or (2 ^ s) (pick h 0 w))
    go true w ih = ap (bit_or a) (sym (or_zero_r (2 ^ s)))
    go false w ih = ih ∙ bit_or_assoc a (2 ^ s) w

-- ---- a line after others

in_append : (t : ℕ) (l m : List ℕ) → is_in t (l ++ m) ≡ (is_in t l || is_in t m)
unfolding is_in
in_append t [] m = refl
in_append t (u ∷ l) m = ap (λ (x : Bool). eqb u t || x) (in_append t l m) ∙ sym (or_assoc (eqb u t) (is_in t l) (is_in t m))

covers_line : (b : ℕ) (l ts : List ℕ) (a : ℕ) → Covers l a → Covers (ts ++ l) (bit_or a (up_to b ts))
covers_line b l ts a c t e =
    let q = neither (is_in t ts) (is_in t l) (sym (in_append t ts l) ∙ e) in
    has_or a (up_to b ts) t ∙ ap₂ ◌||◌ (c t q.1) (has_up_to b t ts ∙ ap (λ (x : Bool). x && free b (before t ts)) q.0)

-- the four directions in turn
unfoldable in_turn : ℕ → ℕ → ℕ → ℕ
in_turn k s b = answer_along 64 (direction k 3) (direction k 3 s) b (answer_along 64 (direction k 2) (direction k 2 s) b (answer_along 64 (direction k 1) (direction k 1 s) b (answer_along 64 (direction k 0) (direction k 0 s) b 0)))

answer_in_turn : (k s b : ℕ) → answer k s b ≡ in_turn k s b
unfolding answer answer_all rook_directions bishop_directions in_turn direction
answer_in_turn zero s b = refl
answer_in_turn (suc k) s b = refl

module _ (k s b : ℕ) (hk : k < 2) (hs : s < 64) where
  direction_is : (d a : ℕ) → d < 4 → Covers (passed d k s) a → answer_along 64 (direction k d) (direction k d s) b a ≡ bit_or a (up_to b (line k d s))
  direction_is d a h c =
      along 64 (direction k d) (direction k d s) b a (passed d k s) c (rw (path_is_line k s d hk hs h) (lines_apart k s d hk hs h))
      ∙ ap (λ (l : List ℕ). bit_or a (up_to b l)) (path_is_line k s d hk hs h)

  walk_in_turn : in_turn k s b ≡ walk k s b
  unfolding in_turn walk passed
  walk_in_turn =
      let w : ℕ → ℕ = λ d. up_to b (line k d s) in
      let c₀ : Covers (passed 0 k s) 0 = λ t e. has_zero t in
      let c₁ : Covers (passed 1 k s) (bit_or 0 (w 0)) = covers_line b (passed 0 k s) (line k 0 s) 0 c₀ in
      let c₂ : Covers (passed 2 k s) (bit_or (bit_or 0 (w 0)) (w 1)) = covers_line b (passed 1 k s) (line k 1 s) (bit_or 0 (w 0)) c₁ in
      let c₃ : Covers (passed 3 k s) (bit_or (bit_or (bit_or 0 (w 0)) (w 1)) (w 2)) = covers_line b (passed 2 k s) (line k 2 s) (bit_or (bit_or 0 (w 0)) (w 1)) c₂ in
      ap (λ (a : ℕ). answer_along 64 (direction k 3) (direction k 3 s) b (answer_along 64 (direction k 2) (direction k 2 s) b (answer_along 64 (direction k 1) (direction k 1 s) b a))) (direction_is 0 0 (lit< tt) c₀)
      ∙ ap (λ (a : ℕ). answer_along 64 (direction k 3) (direction k 3 s) b (answer_along 64 (direction k 2) (direction k 2 s) b a)) (direction_is 1 (bit_or 0 (w 0)) (lit< tt) c₁)
      ∙ ap (λ (a : ℕ). answer_along 64 (direction k 3) (direction k 3 s) b a) (direction_is 2 (bit_or (bit_or 0 (w 0)) (w 1)) (lit< tt) c₂)
      ∙ direction_is 3 (bit_or (bit_or (bit_or 0 (w 0)) (w 1)) (w 2)) (lit< tt) c₃

  pub crate_answer : answer k s b ≡ attack k s b
  crate_answer = answer_in_turn k s b ∙ walk_in_turn ∙ walk_attack k s hk hs b
