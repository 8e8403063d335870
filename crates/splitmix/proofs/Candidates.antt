-- Candidates one after another: each draw moves three outputs on. And Vigna's first outputs from state 0.
-- Assumes nothing.
use Rattle.std.proofs.Common.{◌≡◌, ℕ, suc, ◌+◌, ◌*◌, refl, ap, arith}
use Rattle.splitmix.specs.SplitMix.{advanced, mixed, after, output, candidate_of, state_at, candidate}

pub state_first : (seed : ℕ) → seed ≡ state_at seed 0
unfolding state_at after
state_first seed = refl

pub state_next : (seed i : ℕ) → after 3 (state_at seed i) ≡ state_at seed (i + 1)
unfolding state_at after
state_next seed i = ap (λ (n : ℕ). after n seed) three
  where
    three : suc (suc (suc (3 * i))) ≡ 3 * (i + 1)
    three = omega arith

pub candidate_is : (seed i : ℕ) → candidate_of (state_at seed i) ≡ candidate seed i
unfolding candidate
candidate_is seed i = refl

-- the published outputs from state 0
pub first_output : output 1 0 ≡ 0xE220A8397B1DCDAF
unfolding output mixed after advanced
first_output = refl

pub second_output : output 2 0 ≡ 0x6E789E6AA1B965F4
unfolding output mixed after advanced
second_output = refl

pub third_output : output 3 0 ≡ 0x06C45D188009454F
unfolding output mixed after advanced
third_output = refl
