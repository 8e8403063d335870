-- The demands, of the exports' own answers.
-- Assumes nothing.
use Prim.Native.Nat.{ℕ}
use mathlib.Core.Path.{◌≡◌, sym, ap, ◌∙◌}
use mathlib.Core.Bool.{cond}
use mathlib.Core.List.{List, [], ◌∷◌}
use Rattle.board.proofs.Blocks.{on_block_lem}
use Rattle.gen_magic.specs.Builds.{slots, Left, from_seed, from_lent}
use Rattle.slider.specs.Flat.{answer_of, verdict_of, number_in, handed_of}
use Rattle.promises.specs.Demands.{Succeeds}
use Rattle.promises.specs.Border.{by_number, at_block, left_in}
use Rattle.promises.specs.Exports.{Fine, from_seed_handed, from_lent_handed, Exports}
use Rattle.promises.proofs.Border.{border}
use Rattle.promises.proofs.Demand2.{demand_2}
use Rattle.promises.proofs.Demand3.{demand_3}
use Rattle.promises.proofs.Audited.{audited}

-- ---- a number of 0 is a success

fine : (left : Left) → left_in (handed_of left) ≡ left → Fine (handed_of left) → Succeeds left
fine left b e = sym (ap (λ (l : Left). l.says) b) ∙ ap (λ (n : ℕ). by_number n tt (cond (at_block n) ((handed_of left).build.block ∷ []) [])) e

is_fine : (left : Left) → Succeeds left → Fine (handed_of left)
is_fine left e = ap number_in e

module _ (seed budget : ℕ) (table marks : List ℕ) where
  seed_fine : Fine (from_seed_handed seed budget table marks) → Succeeds (from_seed seed budget table marks)
  seed_fine = fine (from_seed seed budget table marks) (border.built seed budget table marks)

lent_fine : (multipliers table marks : List ℕ) → Fine (from_lent_handed multipliers table marks) → Succeeds (from_lent multipliers table marks)
lent_fine multipliers table marks = fine (from_lent multipliers table marks) (border.built_lent multipliers table marks)

pub exports : Exports
exports =
    record {
      answers = λ kinds squares blockers i hk hs hb.
          let k = slots kinds i in
          let s = slots squares i in
          let b = slots blockers i in
          let a = demand_2.one_answer k s b hk hs hb in
          record {
            by_walk = ap answer_of (on_block_lem k s _ hk hs);
            by_pext = λ old e. ap answer_of (a.by_pext old e);
            by_seed = λ seed budget table marks e. ap answer_of (a.by_seed seed budget table marks (seed_fine seed budget table marks e));
            by_lent = λ multipliers table marks e. ap answer_of (a.by_lent multipliers table marks (lent_fine multipliers table marks e));
          };
      one_answer = λ seed budget table marks e kind sq blockers hk hs hb. ap answer_of ((demand_2.one_answer kind sq blockers hk hs hb).by_seed seed budget table marks (seed_fine seed budget table marks e));
      accepts = λ seed budget table marks e. ap verdict_of (audited.accepts_seed seed budget table marks (seed_fine seed budget table marks e));
      decides = λ seed budget table marks e budget' table' marks'.
          let d = demand_3.decides seed budget table marks (seed_fine seed budget table marks e) budget' table' marks' in (
            λ f. let w = d.0 (seed_fine seed budget' table' marks' f) in (w.0.budget_allowed, w.0.one_length, w.1, w.2),
            λ w. is_fine (from_seed seed budget' table' marks') (d.1 (record { budget_allowed = w.0; one_length = w.1 }, w.2, w.3)),
          );
      always_same = λ seed budget budget' table marks table' marks' e e'.
          let s = demand_3.always_same seed budget budget' table marks table' marks' (seed_fine seed budget table marks e) (seed_fine seed budget' table' marks' e') in
          record { records = s.records; counts = s.counts; used = s.used; table_used = s.table_used; marks_used = s.marks_used; table_after = s.table_after; marks_after = s.marks_after };
    }
