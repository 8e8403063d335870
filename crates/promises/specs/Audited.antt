-- 01, "Look-ups and audit" and "Packing": what is promised of the audit, and of a build's numbers.
use Rattle.std.specs.Prelude.{ℕ, ◌+◌, ◌^◌, ◌≤◌, ◌<◌, ◌≡◌, List, [], ◌∷◌, ◌⊎◌, ◌↔◌, length}
use Rattle.refusal.specs.Paper.{gives, refuses}
use Rattle.board.specs.Board.{on_block}
use Rattle.board.specs.Blocks.{block_of, size_of}
use Rattle.board.specs.Walk.{walk}
use Rattle.gen_magic.specs.declared.Record.{Record}
use Rattle.gen_magic.specs.Builds.{Left, from_seed, from_lent, record_in}
use Rattle.magic.specs.LookUp.{look_up}
use Rattle.magic.specs.Audit.{audit_says, reach_of, Own, Reads, HoldBefore, AllHold, slot_asked, Reached}
use Rattle.promises.specs.Demands.{Succeeds}

-- the audit of what a build left accepts it
abbrev pub Accepted : Left → Type 0
Accepted left = audit_says left.records left.table ≡ gives (reach_of left.records)

pub record Audited : Type 0 where
  -- "It accepts exactly when all hold, .. and reports the reach: the end (offset + size) of block 127", rook H8
  pub accepts_exactly : (records : List Record) (table : List ℕ) (x : ℕ) → (audit_says records table ≡ gives x) ↔ (AllHold records table × (x ≡ (record_in records 127).offset + size_of 0 63))
  -- "Per block: mask and shift exact, else 8": the first block that has not its own
  pub refuses_8 : (records : List Record) (table : List ℕ) (b : ℕ) → (audit_says records table ≡ refuses 8 (b ∷ [])) ↔ ((b < 128) × HoldBefore b records table × (Own b (record_in records b) → ⊥))
  -- "then subsets in order: in the table, else 7": the first subset that fails lies past the table
  pub refuses_7 : (records : List Record) (table : List ℕ) (b i : ℕ) → (audit_says records table ≡ refuses 7 (b ∷ i ∷ [])) ↔ (Reached b i records table × (length table ≤ slot_asked b i (record_in records b)))
  -- "look-up equal to the walk, else 11": the first subset that fails lies in the table
  pub refuses_11 : (records : List Record) (table : List ℕ) (b i : ℕ) → (audit_says records table ≡ refuses 11 (b ∷ i ∷ [])) ↔ (Reached b i records table × (slot_asked b i (record_in records b) < length table) × (Reads b (record_in records b) table i → ⊥))
  -- "No other refusal exists."
  pub refuses_only : (records : List Record) (table : List ℕ) (number : ℕ) (values : List ℕ) → audit_says records table ≡ refuses number values → (number ≡ 8) ⊎ (number ≡ 7) ⊎ (number ≡ 11)
  -- "so it accepts every built set"
  pub accepts_seed : (seed budget : ℕ) (table marks : List ℕ) → Succeeds (from_seed seed budget table marks) → Accepted (from_seed seed budget table marks)
  pub accepts_lent : (multipliers table marks : List ℕ) → Succeeds (from_lent multipliers table marks) → Accepted (from_lent multipliers table marks)
  -- "After acceptance the look-up is the walk for every blocker set, whoever built the table."
  pub after_acceptance : (records : List Record) (table : List ℕ) (x : ℕ) → audit_says records table ≡ gives x
      → (kind sq blockers : ℕ) → kind < 2 → sq < 64 → blockers < 2 ^ 64 → on_block kind sq (look_up kind sq blockers (record_in records (block_of kind sq)) table) ≡ gives (walk kind sq blockers)

pub record Limits : Type 0 where
  -- "the final end is the used length, at most 107,648"
  pub seed_used : (seed budget : ℕ) (table marks : List ℕ) → (from_seed seed budget table marks).used ≤ 107648
  pub lent_used : (multipliers table marks : List ℕ) → (from_lent multipliers table marks).used ≤ 107648
  -- "offset (32 bits)"
  pub seed_offsets : (seed budget : ℕ) (table marks : List ℕ) (b : ℕ) → (record_in (from_seed seed budget table marks).records b).offset < 2 ^ 32
  pub lent_offsets : (multipliers table marks : List ℕ) (b : ℕ) → (record_in (from_lent multipliers table marks).records b).offset < 2 ^ 32
  -- "With 107,648 slots a build never answers 4."
  pub seed_never_4 : (seed budget block : ℕ) (table marks : List ℕ) → 107648 ≤ length table → (from_seed seed budget table marks).says ≡ refuses 4 (block ∷ []) → ⊥
  pub lent_never_4 : (multipliers : List ℕ) (block : ℕ) (table marks : List ℕ) → 107648 ≤ length table → (from_lent multipliers table marks).says ≡ refuses 4 (block ∷ []) → ⊥
