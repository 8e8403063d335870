-- The four assert_eq! of `generate_magic` (src/gen_tables/magic.rs, lines 49 to 57), as facts about the crate's lists.
-- Assumes nothing.
use Prim.Native.Nat.{ℕ, zero, suc, ◌-◌, ◌^◌, ◌<◌}
use mathlib.Core.Path.{◌≡◌, sym, ap, ◌∙◌, fun_ext}
use mathlib.Core.Bool.{Bool, true, not, ◌&&◌, and-true, and-false}
use native.Mathlib.Nat.{not-suc-le-zero, le_of_suc-le-suc, zero-lt-suc}
use native.Mathlib.Omega.{arith}
use lib.Bits.{bit_and, bit_or, or_comm, and_zero_l}
use lib.ListN.{length}
use lib.Pow.{pow_pos}
use Rattle.bits.specs.Set.{has, set_of}
use Rattle.bits.specs.Shown.{shown}
use Rattle.bits.proofs.Sets.{has_zero}
use Rattle.bits.proofs.Every.{every_cong, every_true}
use Rattle.bits.proofs.Algebra.{or_in, or_absorbs}
use Rattle.bits.proofs.Shown.{length_shown}
use Rattle.board.specs.Board.{on_ray, rays, mask, between, clear, attack}
use Rattle.board.specs.Blocks.{bits_of, size_of, subset}
use Rattle.board.specs.Crate.{get_rays, magic_mask, questions, answers, or_all}
use Rattle.board.proofs.Attack.{attack_rays}
use Rattle.board.proofs.Subsets.{subset_in_mask, subset_first, subset_last}
use Rattle.board.proofs.CrateBoard.{crate_rays, crate_mask}
use Rattle.board.proofs.CrateQuestions.{crate_questions, crate_answers}

-- sets that lie in one set, which is among them: their OR is that set
or_all_in : (m n : ℕ) (f : ℕ → ℕ) → ((i : ℕ) → i < n → bit_and (f i) m ≡ f i) → bit_and (or_all (shown n f)) m ≡ or_all (shown n f)
unfolding or_all shown
or_all_in m zero f h = and_zero_l m
or_all_in m (suc n) f h = or_in (f zero) (or_all (shown n (λ i. f (suc i)))) m (h zero (zero-lt-suc n)) (or_all_in m n (λ i. f (suc i)) (λ i l. h (suc i) (omega arith)))

or_all_lem : (m n j : ℕ) (f : ℕ → ℕ) → ((i : ℕ) → i < n → bit_and (f i) m ≡ f i) → j < n → f j ≡ m → or_all (shown n f) ≡ m
unfolding or_all shown
or_all_lem m zero j f h l e = absurd (not-suc-le-zero l)
or_all_lem m (suc n) zero f h l e =
    ap (λ (x : ℕ). bit_or x (or_all (shown n (λ i. f (suc i))))) e
    ∙ or_absorbs m (or_all (shown n (λ i. f (suc i)))) (or_all_in m n (λ i. f (suc i)) (λ i k. h (suc i) (omega arith)))
or_all_lem m (suc n) (suc j) f h l e =
    ap (bit_or (f zero)) (or_all_lem m n j (λ i. f (suc i)) (λ i k. h (suc i) (omega arith)) (le_of_suc-le-suc l) e)
    ∙ or_comm (f zero) m ∙ or_absorbs m (f zero) (h zero (zero-lt-suc n))

module _ (k s : ℕ) (hk : k < 2) (hs : s < 64) where
  -- with no blocker, all rays
  pub attack_free : attack k s 0 ≡ rays k s
  unfolding attack rays clear
  attack_free = ap set_of (fun_ext (λ t. ap (λ (x : Bool). on_ray k s t && x) (unblocked t) ∙ and-true (on_ray k s t)))
    where
      unblocked : (t : ℕ) → clear k s 0 t ≡ true
      unblocked t = every_cong 64 (λ u. not (between k s t u && has 0 u)) (λ u. true) (λ u l. ap (λ (x : Bool). not (between k s t u && x)) (has_zero u) ∙ ap not (and-false (between k s t u))) ∙ every_true 64

  -- the number of questions is a power of two
  pub questions_power : length (questions k s) ≡ 2 ^ bits_of k s
  unfolding size_of
  questions_power = ap length (crate_questions k s hk hs) ∙ length_shown (size_of k s) (subset k s)

  -- there are as many answers
  pub answers_as_many : length (answers k s) ≡ length (questions k s)
  answers_as_many =
      ap length (crate_answers k s hk hs) ∙ length_shown (size_of k s) (λ i. attack k s (subset k s i))
      ∙ sym (ap length (crate_questions k s hk hs) ∙ length_shown (size_of k s) (subset k s))

  -- the questions' OR is the mask
  pub questions_or : or_all (questions k s) ≡ magic_mask k s
  unfolding size_of
  questions_or =
      ap or_all (crate_questions k s hk hs)
      ∙ or_all_lem (mask k s) (size_of k s) (size_of k s - 1) (subset k s) (λ i l. subset_in_mask k s i) (omega (arith, pow_pos (bits_of k s))) (subset_last k s)
      ∙ sym (crate_mask k s hk hs)

  -- the answers' OR is the rays
  pub answers_or : or_all (answers k s) ≡ get_rays k s
  unfolding size_of
  answers_or =
      ap or_all (crate_answers k s hk hs)
      ∙ or_all_lem (rays k s) (size_of k s) 0 (λ i. attack k s (subset k s i)) (λ i l. attack_rays k s hk hs (subset k s i)) (pow_pos (bits_of k s)) (ap (attack k s) (subset_first k s) ∙ attack_free)
      ∙ sym (crate_rays k s hk hs)
