-- What lists hold after a store, after one value more was ORed in, and after a part came back.
-- Assumes nothing.
use Prim.Native.Nat.{ℕ, suc, ◌+◌, ◌-◌, ◌≤◌, ◌<◌}
use mathlib.Core.Path.{◌≡◌, sym, ap, ap₂, ◌∙◌, fun_ext, subst}
use mathlib.Core.Bool.{Bool, true, false}
use mathlib.Core.List.{List, ◌++◌}
use native.Mathlib.Numerals.{add-one}
use native.Mathlib.Omega.{arith}
use native.Mathlib.Decide.{dec_lt, ℕ_discrete}
use borrow.Author.Tests.{eq-eqb, ne_eqb}
use borrow.Rule.Slice.PartMut.{put_mid}
use lib.Bits.{bit_or}
use lib.Dec.{eqb}
use lib.ListN.{length, get_or, set, take, drop, get_or-append}
use lib.Seq.{get_or-set_same, get_or-set_other, get_or-take, get_or-drop, get_or-append-add, length-take-le}
use Rattle.bits.specs.Set.{pick}
use Rattle.bits.proofs.Parts.{length_part, get_or_part}
use Rattle.packing.specs.Pack.{or_into, put}
use Rattle.packing.proofs.Slots.{put_same, put_other, or_missed, or_shift}
use Rattle.gen_magic.specs.Builds.{slots}
use Rattle.gen_magic.specs.Turn.{ored}

-- ---- a store

pub get_or_put : {A : Type 0} (l : List A) (i : ℕ) (v d : A) (j : ℕ) → i < length l → get_or (set l i v) j d ≡ put i v (λ k. get_or l k d) j
get_or_put {A} l i v d j h = go (ℕ_discrete i j)
  where
    go : Dec (i ≡ j) → get_or (set l i v) j d ≡ put i v (λ k. get_or l k d) j
    go (yes e) =
        subst (λ (k : ℕ). get_or (set l i v) k d ≡ put i v (λ k. get_or l k d) k) e
        (get_or-set_same l i v d h ∙ sym (put_same i v (λ k. get_or l k d)))
    go (no g) = get_or-set_other l i j v d (λ e. g (sym e)) ∙ sym (put_other i v (λ k. get_or l k d) j g)

-- ---- one value more

pub ored_more : (slot value : ℕ → ℕ) (n k w : ℕ) (t old : List ℕ) → slots t ≡ ored slot value n (slots old) → k ≡ slot n → w ≡ value n → k < length t → slots (set t k (bit_or (get_or t k 0) w)) ≡ ored slot value (n + 1) (slots old)
unfolding or_into
ored_more slot value n k w t old e ek ew low = fun_ext (λ j. go j (ℕ_discrete k j)) ∙ ap (λ (m : ℕ). ored slot value m (slots old)) (sym (add-one n))
  where
    was : (j : ℕ) → get_or t j 0 ≡ ored slot value n (slots old) j
    was j = ap (λ (f : ℕ → ℕ). f j) e

    picked : (j : ℕ) (c : Bool) → eqb (slot n) j ≡ c → ored slot value (suc n) (slots old) j ≡ pick c (bit_or (ored slot value n (slots old) j) (value n)) (ored slot value n (slots old) j)
    picked j c q = ap (λ (x : Bool). pick x (bit_or (ored slot value n (slots old) j) (value n)) (ored slot value n (slots old) j)) q

    go : (j : ℕ) → Dec (k ≡ j) → get_or (set t k (bit_or (get_or t k 0) w)) j 0 ≡ ored slot value (suc n) (slots old) j
    go j (yes q) =
        ap (λ (x : ℕ). get_or (set t k (bit_or (get_or t k 0) w)) x 0) (sym q) ∙ get_or-set_same t k (bit_or (get_or t k 0) w) 0 low
        ∙ ap₂ bit_or (ap (λ (x : ℕ). get_or t x 0) q ∙ was j) ew ∙ sym (picked j true (eq-eqb (slot n) j (sym ek ∙ q)))
    go j (no g) =
        get_or-set_other t k j (bit_or (get_or t k 0) w) 0 (λ q. g (sym q)) ∙ was j
        ∙ sym (picked j false (ne_eqb (slot n) j (λ q. g (ek ∙ q))))

-- ---- a part, of the whole

module _ (slot value : ℕ → ℕ) (size place k : ℕ) (xs ys : List ℕ) (ek : k ≡ size) (fits : place + size ≤ length xs) (low : (i : ℕ) → i < size → slot i < size) (long : length ys ≡ length (take k (drop place xs))) (part : slots ys ≡ ored slot value size (slots (take k (drop place xs)))) where
  -- the values go into slots from place on
  abbrev Now : ℕ → Type 0
  Now j = get_or (put_mid place k xs ys) j 0 ≡ ored (λ i. place + slot i) value size (slots xs) j

  rest : List ℕ
  rest = drop k (drop place xs)

  front : length (take place xs) ≡ place
  front = length-take-le place xs (omega arith)

  as_many : length ys ≡ size
  as_many = long ∙ ap (λ (n : ℕ). length (take n (drop place xs))) ek ∙ length_part place size xs fits

  missed : (j : ℕ) → ((i : ℕ) → i < size → place + slot i ≡ j → ⊥) → ored (λ i. place + slot i) value size (slots xs) j ≡ get_or xs j 0
  missed j = or_missed (λ i. place + slot i) value j (get_or xs j 0) size

  behind : (i : ℕ) → get_or (put_mid place k xs ys) (place + i) 0 ≡ get_or (ys ++ rest) i 0
  unfolding rest
  behind i = ap (λ (x : ℕ). get_or (put_mid place k xs ys) (x + i) 0) (sym front) ∙ get_or-append-add (take place xs) (ys ++ rest) i 0

  before : (j : ℕ) → j < place → Now j
  unfolding rest
  before j l =
      get_or-append (take place xs) (ys ++ rest) 0 j (omega (arith, front)) ∙ get_or-take place xs j 0 l
      ∙ sym (missed j (λ i m e. omega arith))

  inside : (i : ℕ) → i < size → Now (place + i)
  inside i l =
      behind i ∙ get_or-append ys rest 0 i (omega (arith, as_many)) ∙ ap (λ (f : ℕ → ℕ). f i) part
      ∙ ap (or_into slot value size i) (get_or_part place k i xs 0 (omega arith))
      ∙ sym (or_shift slot value i (get_or xs (place + i) 0) place size)

  after : (i : ℕ) → Now (place + (size + i))
  unfolding rest
  after i =
      behind (size + i) ∙ ap (λ (x : ℕ). get_or (ys ++ rest) (x + i) 0) (sym as_many) ∙ get_or-append-add ys rest i 0
      ∙ get_or-drop k (drop place xs) i 0 ∙ get_or-drop place xs (k + i) 0 ∙ ap (λ (x : ℕ). get_or xs (place + (x + i)) 0) ek
      ∙ sym (missed (place + (size + i)) (λ a m e. let q = low a m in omega arith))

  pub part_ored : slots (put_mid place k xs ys) ≡ ored (λ i. place + slot i) value size (slots xs)
  part_ored = fun_ext (λ j. go j (dec_lt j place) (dec_lt j (place + size)))
    where
      go : (j : ℕ) → Dec (j < place) → Dec (j < place + size) → Now j
      go j (yes l) r = before j l
      go j (no f) (yes l) = let e : place + (j - place) ≡ j = omega arith in subst Now e (inside (j - place) (omega arith))
      go j (no f) (no g) = let e : place + (size + (j - (place + size))) ≡ j = omega arith in subst Now e (after (j - (place + size)))
