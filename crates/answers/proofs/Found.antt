-- Bishop B1 and seed 42, computed over listed subsets, walks and slots.
-- Assumes nothing.
use Prim.Native.Nat.{ℕ, ◌/◌, ◌%◌, ◌^◌, ◌<◌}
use mathlib.Core.Path.{◌≡◌, refl, sym, ap, ap₂, ◌∙◌}
use mathlib.Core.Bool.{Bool, true, false, not, ◌&&◌}
use mathlib.Core.List.{List, [], ◌∷◌}
use native.Mathlib.Nat.{not-suc-le-zero, zero-mul}
use lib.Dec.{lit<}
use lib.ListN.{get_or}
use Rattle.bits.specs.Set.{count, every}
use Rattle.bits.specs.Shown.{shown}
use Rattle.bits.proofs.Shown.{get_or_shown}
use Rattle.refusal.specs.Paper.{gives}
use Rattle.board.specs.Board.{mask, attack}
use Rattle.board.specs.Blocks.{block_of, kind_of, square_of, size_of, shift_of, subset}
use Rattle.splitmix.specs.SplitMix.{advanced, mixed, after, output, candidate_of, state_at, candidate}
use Rattle.packing.specs.Pack.{destructive, agree, clean, passes}
use Rattle.packing.specs.Promised.{First}
use Rattle.packing.proofs.Agree.{agree_cong}
use Rattle.packing.proofs.Choices.{lent_finds, lent_none}
use Rattle.blocks.specs.Real.{magic_index, skips, real}
use Rattle.promises.proofs.Search.{searches}
use Rattle.answers.specs.Found.{Found}

abbrev multiplier : ℕ
multiplier = 0x42220202020000

abbrev subsets : List ℕ
subsets = 0x0 ∷ 0x400 ∷ 0x80000 ∷ 0x80400 ∷ 0x10000000 ∷ 0x10000400 ∷ 0x10080000 ∷ 0x10080400 ∷ 0x2000000000 ∷ 0x2000000400 ∷ 0x2000080000 ∷ 0x2000080400 ∷ 0x2010000000 ∷ 0x2010000400 ∷ 0x2010080000 ∷ 0x2010080400 ∷ 0x400000000000 ∷ 0x400000000400 ∷ 0x400000080000 ∷ 0x400000080400 ∷ 0x400010000000 ∷ 0x400010000400 ∷ 0x400010080000 ∷ 0x400010080400 ∷ 0x402000000000 ∷ 0x402000000400 ∷ 0x402000080000 ∷ 0x402000080400 ∷ 0x402010000000 ∷ 0x402010000400 ∷ 0x402010080000 ∷ 0x402010080400 ∷ []

abbrev walks : List ℕ
walks = 0x80402010080500 ∷ 0x500 ∷ 0x80500 ∷ 0x500 ∷ 0x10080500 ∷ 0x500 ∷ 0x80500 ∷ 0x500 ∷ 0x2010080500 ∷ 0x500 ∷ 0x80500 ∷ 0x500 ∷ 0x10080500 ∷ 0x500 ∷ 0x80500 ∷ 0x500 ∷ 0x402010080500 ∷ 0x500 ∷ 0x80500 ∷ 0x500 ∷ 0x10080500 ∷ 0x500 ∷ 0x80500 ∷ 0x500 ∷ 0x2010080500 ∷ 0x500 ∷ 0x80500 ∷ 0x500 ∷ 0x10080500 ∷ 0x500 ∷ 0x80500 ∷ 0x500 ∷ []

abbrev indices : List ℕ
indices = 0 ∷ 1 ∷ 2 ∷ 3 ∷ 4 ∷ 5 ∷ 6 ∷ 7 ∷ 8 ∷ 9 ∷ 10 ∷ 11 ∷ 12 ∷ 13 ∷ 14 ∷ 15 ∷ 16 ∷ 17 ∷ 18 ∷ 19 ∷ 20 ∷ 21 ∷ 22 ∷ 23 ∷ 24 ∷ 25 ∷ 26 ∷ 27 ∷ 28 ∷ 29 ∷ 30 ∷ 31 ∷ []

abbrev sharing : ℕ
sharing = 0x204951e85bfe00

abbrev shared : List ℕ
shared = 0 ∷ 16 ∷ 9 ∷ 25 ∷ 3 ∷ 19 ∷ 13 ∷ 29 ∷ 1 ∷ 17 ∷ 10 ∷ 26 ∷ 5 ∷ 21 ∷ 14 ∷ 30 ∷ 31 ∷ 16 ∷ 9 ∷ 25 ∷ 3 ∷ 19 ∷ 13 ∷ 29 ∷ 1 ∷ 17 ∷ 10 ∷ 26 ∷ 5 ∷ 21 ∷ 14 ∷ 30 ∷ []

subsets_are : shown 32 (subset 1 1) ≡ subsets
unfolding shown subset
subsets_are = refl

walks_are : shown 32 (λ i. attack 1 1 (get_or subsets i 0)) ≡ walks
unfolding shown attack
walks_are = refl

indices_are : shown 32 (λ i. magic_index 1 1 multiplier (get_or subsets i 0)) ≡ indices
unfolding shown magic_index shift_of
indices_are = refl

shared_are : shown 32 (λ i. magic_index 1 1 sharing (get_or subsets i 0)) ≡ shared
unfolding shown magic_index shift_of
shared_are = refl

-- what is listed is what the list has
listed : (f : ℕ → ℕ) (l : List ℕ) → shown 32 f ≡ l → (i : ℕ) → i < 32 → f i ≡ get_or l i 0
listed f l e i h = sym (get_or_shown 32 i f 0 h) ∙ ap (λ (m : List ℕ). get_or m i 0) e

module _ (i : ℕ) (h : i < 32) where
  subset_is : subset 1 1 i ≡ get_or subsets i 0
  subset_is = listed (subset 1 1) subsets subsets_are i h

  walk_is : attack 1 1 (subset 1 1 i) ≡ get_or walks i 0
  walk_is = ap (attack 1 1) subset_is ∙ listed (λ i. attack 1 1 (get_or subsets i 0)) walks walks_are i h

  index_is : (m : ℕ) (l : List ℕ) → shown 32 (λ i. magic_index 1 1 m (get_or subsets i 0)) ≡ l → magic_index 1 1 m (subset 1 1 i) ≡ get_or l i 0
  index_is m l e = ap (magic_index 1 1 m) subset_is ∙ listed (λ i. magic_index 1 1 m (get_or subsets i 0)) l e i h

  none_is : magic_index 1 1 0 (subset 1 1 i) ≡ 0
  unfolding magic_index shift_of
  none_is = ap (λ (n : ℕ). n % 2 ^ 64 / 2 ^ 59) (zero-mul (subset 1 1 i))

listed_agree : agree 32 (λ i. get_or indices i 0) (λ i. get_or walks i 0) ≡ true
unfolding agree every destructive
listed_agree = refl

listed_share : agree 32 (λ i. get_or shared i 0) (λ i. get_or walks i 0) ≡ true
unfolding agree every destructive
listed_share = refl

listed_collide : agree 32 (λ i. 0) (λ i. get_or walks i 0) ≡ false
unfolding agree every destructive
listed_collide = refl

-- a multiplier is as clean as its listed slots are
clean_by : (m : ℕ) (slot : ℕ → ℕ) → ((i : ℕ) → i < 32 → magic_index 1 1 m (subset 1 1 i) ≡ slot i) → clean real 1 m ≡ agree 32 slot (λ i. get_or walks i 0)
unfolding clean kind_of square_of size_of
clean_by m slot h = agree_cong 32 _ _ _ _ h walk_is

is_clean : clean real 1 multiplier ≡ true
is_clean = clean_by multiplier (λ i. get_or indices i 0) (λ i h. index_is i h multiplier indices indices_are) ∙ listed_agree

is_shared : clean real 1 sharing ≡ true
is_shared = clean_by sharing (λ i. get_or shared i 0) (λ i h. index_is i h sharing shared shared_are) ∙ listed_share

collides : clean real 1 0 ≡ false
collides = clean_by 0 (λ i. 0) none_is ∙ listed_collide

is_first : candidate 42 0 ≡ multiplier
unfolding candidate candidate_of state_at after output mixed advanced
is_first = refl

not_skipped : skips 1 1 multiplier ≡ false
unfolding skips mask count
not_skipped = refl

is_passing : passes real 1 (candidate 42 0) ≡ true
unfolding passes kind_of square_of
is_passing = ap (passes real 1) is_first ∙ ap₂ (λ (s c : Bool). not s && c) not_skipped is_clean

first : (budget : ℕ) → 0 < budget → First real (candidate 42) budget (block_of 1 1) 0
unfolding block_of
first budget h = record { within = h; passing = is_passing; none_before = λ i l. absurd (not-suc-le-zero l) }

pub found : Found
found =
    record {
      searched = λ budget h a. ((searches 1 1 42 budget (lit< tt) (lit< tt)).finds a 0).1 (first budget h) ∙ ap (λ (n : ℕ). gives (record { multiplier = n; count = 1 })) is_first;
      lent = lent_finds real (λ b. multiplier) 1 is_clean;
      lent_shares = lent_finds real (λ b. sharing) 1 is_shared;
      lent_collides = (lent_none real (λ b. 0) 1).1 collides;
    }
