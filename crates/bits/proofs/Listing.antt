-- A table's rule, proved once: a list of numbers against a function, by a test that is computed over the list.
-- Assumes nothing.
use Rattle.std.proofs.Common.{◌≡◌, ℕ, zero, suc, ◌+◌, ◌<◌, Bool, true, ◌&&◌, T, eqb, List, [], ◌∷◌, length, get_or, sym, ap, ◌∙◌, le_of_suc-le-suc, not-suc-le-zero, add-zero, add-suc, suc-add, zero-add, eqb→eq}
use Rattle.bits.proofs.Every.{both_l, both_r}

-- the list has the function's values from i on
unfoldable pub lists : ℕ → (ℕ → ℕ) → List ℕ → Bool
lists i f [] = true
lists i f (x ∷ l) = eqb x (f i) && lists (suc i) f l

from : (l : List ℕ) (f : ℕ → ℕ) (i n : ℕ) → T (lists i f l) → n < length l → get_or l n 0 ≡ f (i + n)
unfolding lists
from [] f i n t h = absurd (not-suc-le-zero h)
from (x ∷ l) f i zero t h = eqb→eq x (f i) (both_l (eqb x (f i)) (lists (suc i) f l) t) ∙ ap f (sym (add-zero i))
from (x ∷ l) f i (suc n) t h =
    from l f (suc i) n (both_r (eqb x (f i)) (lists (suc i) f l) t) (le_of_suc-le-suc h) ∙ ap f (suc-add i n ∙ sym (add-suc i n))

pub listing : (l : List ℕ) (f : ℕ → ℕ) → T (lists 0 f l) → (n : ℕ) → n < length l → get_or l n 0 ≡ f n
listing l f t n h = from l f 0 n t h ∙ ap f (zero-add n)
