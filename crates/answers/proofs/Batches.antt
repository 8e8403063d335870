-- A query of a batch says what a call says.
-- Assumes nothing.
use Rattle.board.proofs.Blocks.{on_block_lem}
use Rattle.gen_magic.specs.Builds.{slots}
use Rattle.promises.proofs.Demand2.{demand_2}
use Rattle.answers.specs.Batches.{Batches}

pub batches : Batches
batches =
    record {
      in_batch = λ kinds squares blockers i hk hs hb.
          let a = demand_2.one_answer (slots kinds i) (slots squares i) (slots blockers i) hk hs hb in
          record {
            by_walk = on_block_lem (slots kinds i) (slots squares i) _ hk hs;
            by_pext = a.by_pext;
            by_seed = a.by_seed;
            by_lent = a.by_lent;
          };
    }
