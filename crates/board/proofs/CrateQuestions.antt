-- The crate's questions and answers, list by list: subset i and its attack set, for each i below the block's size.
-- Assumes nothing.
use Prim.Native.Nat.{ℕ, zero, suc, ◌^◌, ◌≤◌, ◌<◌}
use mathlib.Core.Path.{◌≡◌, refl, sym, ap, ap₂, ◌∙◌}
use mathlib.Core.Bool.{Bool, true, false, ◌&&◌, ◌||◌, and-true, and-false, or-false, false≢true}
use mathlib.Core.List.{List, map}
use native.Mathlib.Nat.{le_refl, le_of_lt}
use native.Mathlib.Omega.{arith}
use native.Mathlib.Decide.{dec_lt, ℕ_discrete}
use borrow.Author.Tests.{eq-eqb, ne_eqb, lt-ltb, le-ltb}
use lib.Bits.{bit_and, bit_or, or_lt, and_comm}
use lib.Dec.{ltb, ltb→lt, eqb}
use lib.ListN.{get_or}
use lib.Pow.{pow_pos, pow-lt}
use Rattle.bits.specs.Set.{pick, has, count_below, count}
use Rattle.bits.specs.Shown.{shown}
use Rattle.bits.proofs.Sets.{bit_has, has_or, has_pow, has_zero, has_ext}
use Rattle.bits.proofs.Algebra.{and_square}
use Rattle.bits.proofs.Count.{count_ones, count_lt}
use Rattle.bits.proofs.Every.{is_true}
use Rattle.bits.proofs.Shown.{shown_cong, map_shown}
use Rattle.board.specs.Board.{mask, attack}
use Rattle.board.specs.Blocks.{bits_of, size_of, subset}
use Rattle.board.specs.Crate.{cond, collect, question, rays_to_questions, questions, answer, answers}
use Rattle.board.proofs.Attack.{has_mask, mask_lt}
use Rattle.board.proofs.Subsets.{has_subset, subset_lt}
use Rattle.board.proofs.CrateBoard.{Nth, nth_is_lem, crate_mask}
use Rattle.board.proofs.CrateWalk.{crate_answer}

-- `i & (1 << j) == (1 << j)`
bit_test : (i j : ℕ) → eqb (bit_and i (2 ^ j)) (2 ^ j) ≡ has i j
bit_test i j = ap (λ (x : ℕ). eqb x (2 ^ j)) (and_comm i (2 ^ j) ∙ and_square i j) ∙ go (has i j)
  where
    go : (h : Bool) → eqb (pick h (2 ^ j) 0) (2 ^ j) ≡ h
    go true = eq-eqb (2 ^ j) (2 ^ j) refl
    go false = ne_eqb 0 (2 ^ j) (λ e. omega (arith, pow_pos j))

-- two squares of a set with as many squares below them are one
same_place : (m t u : ℕ) → has m t ≡ true → has m u ≡ true → count_below m t ≡ count_below m u → t ≡ u
same_place m t u ht hu e = go (ℕ_discrete t u) (dec_lt t u)
  where
    go : Dec (t ≡ u) → Dec (t < u) → t ≡ u
    go (yes q) d = q
    go (no f) (yes l) = absurd (less (count_lt m t u l (bit_has m t ht)))
      where
        less : count_below m t < count_below m u → ⊥
        less x = omega arith
    go (no f) (no g) = absurd (more (count_lt m u t (omega arith) (bit_has m u hu)))
      where
        more : count_below m u < count_below m t → ⊥
        more x = omega arith

-- over any set whose squares the list has in order
module _ (m : ℕ) (squares : List ℕ) (nth : (j : ℕ) → j < count m → Nth m (get_or squares j 64) j) (i : ℕ) where
  question_lt : (n : ℕ) → n ≤ count m → question squares n i < 2 ^ 64
  unfolding question
  question_lt zero h = pow_pos 64
  question_lt (suc n) h = go (eqb (bit_and i (2 ^ n)) (2 ^ n)) (question_lt n (le_of_lt h)) (ltb→lt (get_or squares n 64) 64 (nth n h).low)
    where
      go : (c : Bool) → question squares n i < 2 ^ 64 → get_or squares n 64 < 64 → cond c (bit_or (question squares n i) (2 ^ get_or squares n 64)) (question squares n i) < 2 ^ 64
      go true l t = or_lt 64 (question squares n i) (2 ^ get_or squares n 64) l (pow-lt t)
      go false l t = l

  -- square t is in the question of the first n squares if it is one of them and its bit of i is set
  unfoldable among : ℕ → ℕ → Bool
  among n t = has m t && (ltb (count_below m t) n && has i (count_below m t))

  has_question : (n t : ℕ) → n ≤ count m → has (question squares n i) t ≡ among n t
  unfolding question among
  has_question zero t h = has_zero t ∙ sym (ap (λ (x : Bool). has m t && (x && has i (count_below m t))) (le-ltb (count_below m t) 0 (omega arith)) ∙ and-false (has m t))
  has_question (suc n) t h =
      ap (λ (c : Bool). has (cond c (bit_or (question squares n i) (2 ^ get_or squares n 64)) (question squares n i)) t) (bit_test i n)
      ∙ added (has i n) ∙ ap (λ (x : Bool). x || (has i n && eqb (get_or squares n 64) t)) (has_question n t (le_of_lt h))
      ∙ go (has m t) refl (ℕ_discrete (get_or squares n 64) t)
    where
      added : (c : Bool) → has (cond c (bit_or (question squares n i) (2 ^ get_or squares n 64)) (question squares n i)) t ≡ (has (question squares n i) t || (c && eqb (get_or squares n 64) t))
      added true = has_or (question squares n i) (2 ^ get_or squares n 64) t ∙ ap (λ (x : Bool). has (question squares n i) t || x) (has_pow (get_or squares n 64) t)
      added false = sym (or-false (has (question squares n i) t))

      go : (b : Bool) → has m t ≡ b → Dec (get_or squares n 64 ≡ t) → ((b && (ltb (count_below m t) n && has i (count_below m t))) || (has i n && eqb (get_or squares n 64) t)) ≡ (b && (ltb (count_below m t) (suc n) && has i (count_below m t)))
      go true e (yes q) =
          let p : count_below m t ≡ n = ap (count_below m) (sym q) ∙ (nth n h).place in
          ap₂ (λ (x y : Bool). (x && has i (count_below m t)) || (has i n && y)) (le-ltb (count_below m t) n (omega arith)) (eq-eqb (get_or squares n 64) t q)
          ∙ and-true (has i n) ∙ ap (has i) (sym p)
          ∙ sym (ap (λ (x : Bool). x && has i (count_below m t)) (lt-ltb (count_below m t) (suc n) (omega arith)))
      go true e (no f) =
          let ne : count_below m t ≡ n → ⊥ = λ z. f (same_place m (get_or squares n 64) t (is_true (has m (get_or squares n 64)) (nth n h).inside) e ((nth n h).place ∙ sym z)) in
          ap (λ (y : Bool). (ltb (count_below m t) n && has i (count_below m t)) || (has i n && y)) (ne_eqb (get_or squares n 64) t f)
          ∙ ap (λ (y : Bool). (ltb (count_below m t) n && has i (count_below m t)) || y) (and-false (has i n)) ∙ or-false (ltb (count_below m t) n && has i (count_below m t))
          ∙ ap (λ (x : Bool). x && has i (count_below m t)) (skip (dec_lt (count_below m t) n) ne)
        where
          skip : Dec (count_below m t < n) → (count_below m t ≡ n → ⊥) → ltb (count_below m t) n ≡ ltb (count_below m t) (suc n)
          skip (yes l) ne = lt-ltb (count_below m t) n l ∙ sym (lt-ltb (count_below m t) (suc n) (omega arith))
          skip (no g) ne = le-ltb (count_below m t) n (omega arith) ∙ sym (le-ltb (count_below m t) (suc n) (omega arith))
      go false e (yes q) = absurd (false≢true (sym e ∙ ap (has m) (sym q) ∙ is_true (has m (get_or squares n 64)) (nth n h).inside))
      go false e (no f) = ap (λ (y : Bool). has i n && y) (ne_eqb (get_or squares n 64) t f) ∙ and-false (has i n)

module _ (k s : ℕ) (hk : k < 2) (hs : s < 64) where
  crate_question : (i : ℕ) → question (collect (mask k s)) (count (mask k s)) i ≡ subset k s i
  unfolding among count
  crate_question i =
      has_ext 64 (question (collect (mask k s)) (count (mask k s)) i) (subset k s i)
      (question_lt (mask k s) (collect (mask k s)) (λ j. nth_is_lem k s j hk hs) i (count (mask k s)) (le_refl (count (mask k s)))) (subset_lt k s i)
      (λ t h. has_question (mask k s) (collect (mask k s)) (λ j. nth_is_lem k s j hk hs) i (count (mask k s)) t (le_refl (count (mask k s)))
      ∙ all t h (has (mask k s) t) refl ∙ ap (λ (x : Bool). x && has i (count_below (mask k s) t)) (has_mask k s t h) ∙ sym (has_subset k s i t h))
    where
      all : (t : ℕ) → t < 64 → (b : Bool) → has (mask k s) t ≡ b → (b && (ltb (count_below (mask k s) t) (count_below (mask k s) 64) && has i (count_below (mask k s) t))) ≡ (b && has i (count_below (mask k s) t))
      all t h true e = ap (λ (x : Bool). x && has i (count_below (mask k s) t)) (lt-ltb (count_below (mask k s) t) (count_below (mask k s) 64) (count_lt (mask k s) t 64 h (bit_has (mask k s) t e)))
      all t h false e = refl

  -- `rays_to_questions`, question by question
  pub crate_questions : questions k s ≡ shown (size_of k s) (subset k s)
  unfolding questions rays_to_questions size_of bits_of
  crate_questions =
      ap rays_to_questions (crate_mask k s hk hs)
      ∙ ap (λ (n : ℕ). shown (2 ^ n) (question (collect (mask k s)) n)) (sym (count_ones (mask k s) (mask_lt k s)))
      ∙ shown_cong (2 ^ count (mask k s)) (question (collect (mask k s)) (count (mask k s))) (subset k s) (λ i l. crate_question i)

  -- `questions_and_answers`, answer by answer
  pub crate_answers : answers k s ≡ shown (size_of k s) (λ i. attack k s (subset k s i))
  unfolding answers
  crate_answers =
      ap (map (answer k s)) crate_questions ∙ map_shown (answer k s) (size_of k s) (subset k s)
      ∙ shown_cong (size_of k s) (λ i. answer k s (subset k s i)) (λ i. attack k s (subset k s i)) (λ i l. crate_answer k s (subset k s i) hk hs)
