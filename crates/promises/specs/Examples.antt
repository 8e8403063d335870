-- 01, "Board examples": "P marks those proved from the definitions, as entries of one table under a single statement."
use Rattle.std.specs.Prelude.{ℕ, ◌+◌, ◌-◌, ◌^◌, ◌≤◌, ◌≡◌, List, [], ◌∷◌, length, get_or}
use Rattle.refusal.specs.Paper.{refuses}
use Rattle.bits.specs.Intel.{pext}
use Rattle.board.specs.Board.{rays, mask, attack}
use Rattle.bmis.specs.Bmis.{offset_of, entries_to}
use Rattle.gen_magic.specs.Builds.{Left, from_seed, record_in}
use Rattle.promises.specs.Demands.{Succeeds}

-- every entry holds
abbrev pub All : List (Type 0) → Type 0
All [] = Unit
All (P ∷ l) = P × All l

-- where a build put a block
abbrev pub offset_at : Left → ℕ → ℕ
offset_at left b = (record_in left.records b).offset

abbrev pub table : List (Type 0)
table =
    -- rook A1 mask 0x000101010101017E, rays 0x01010101010101FE
    (mask 0 0 ≡ 0x000101010101017E)
    ∷ (rays 0 0 ≡ 0x01010101010101FE)
    -- bishop A1 mask 0x0040201008040200, rays 0x8040201008040200
    ∷ (mask 1 0 ≡ 0x0040201008040200)
    ∷ (rays 1 0 ≡ 0x8040201008040200)
    -- rook D4 mask 0x0008080876080800
    ∷ (mask 0 27 ≡ 0x0008080876080800)
    -- rook A1, all 64 bits blocked: 0x102. Only H1 and A8 blocked: all rays
    ∷ (attack 0 0 (2 ^ 64 - 1) ≡ 0x102)
    ∷ (attack 0 0 (2 ^ 7 + 2 ^ 56) ≡ rays 0 0)
    -- rook H8, no blockers: 0x7F80808080808080
    ∷ (attack 0 63 0 ≡ 0x7F80808080808080)
    -- blockers 0x102 extract through rook A1's mask to 65; entry 65 of the PEXT table is 129
    ∷ (pext 0x102 (mask 0 0) ≡ 65)
    ∷ (get_or (entries_to 128) 65 0 ≡ 129)
    -- PEXT offsets: bishop A1 4,096; rook B1 4,160; bishop B1 6,208; rook C1 6,240; rook H8 103,488; bishop H8 107,584
    ∷ (offset_of 1 0 ≡ 4096)
    ∷ (offset_of 0 1 ≡ 4160)
    ∷ (offset_of 1 1 ≡ 6208)
    ∷ (offset_of 0 2 ≡ 6240)
    ∷ (offset_of 0 63 ≡ 103488)
    ∷ (offset_of 1 63 ≡ 107584)
    -- 63 slots, any allowed budget: 4 at block 0. 64 slots, budget 0: 5 at block 0. 0 slots, budget 0: 4
    ∷ ((seed budget : ℕ) (table marks : List ℕ) → budget ≤ 16777216 → length table ≡ 63 → length marks ≡ 63 → (from_seed seed budget table marks).says ≡ refuses 4 (0 ∷ []))
    ∷ ((seed : ℕ) (table marks : List ℕ) → length table ≡ 64 → length marks ≡ 64 → (from_seed seed 0 table marks).says ≡ refuses 5 (0 ∷ []))
    ∷ ((seed : ℕ) (table marks : List ℕ) → length table ≡ 0 → length marks ≡ 0 → (from_seed seed 0 table marks).says ≡ refuses 4 (0 ∷ []))
    -- Bishop B1 is placed at 0 on top of bishop A1: opposite colours
    ∷ ((seed budget : ℕ) (table marks : List ℕ) → Succeeds (from_seed seed budget table marks) → (offset_at (from_seed seed budget table marks) 0 ≡ 0) × (offset_at (from_seed seed budget table marks) 1 ≡ 0))
    -- Budget 16,777,216 is taken, 16,777,217 is 10
    ∷ ((seed : ℕ) (table marks : List ℕ) → (from_seed seed 16777216 table marks).says ≡ refuses 10 [] → ⊥)
    ∷ ((seed : ℕ) (table marks : List ℕ) → (from_seed seed 16777217 table marks).says ≡ refuses 10 [])
    ∷ []
