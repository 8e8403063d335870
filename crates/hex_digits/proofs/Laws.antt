-- Laws of hexadecimal digits: a value is below 16, one more digit is read or written, and what was written is read again.
-- Assumes nothing.
use Prim.Native.Nat.{ℕ, zero, suc, ◌+◌, ◌-◌, ◌*◌, ◌/◌, ◌%◌, ◌^◌, ◌≤◌, ◌<◌}
use mathlib.Core.Path.{◌≡◌, refl, sym, ap, ◌∙◌}
use mathlib.Core.Bool.{Bool, true, false, cond}
use mathlib.Core.List.{List, [], ◌∷◌, ◌++◌, append_assoc, append-nil}
use native.Mathlib.Omega.{arith}
use native.Mathlib.Nat.{pow-suc, pow-le-pow_right, not-suc-le-zero}
use native.Mathlib.Numerals.{add-one, sub-one}
use lib.Dec.{ltb, lit<}
use lib.ListN.{length, take, drop, get_or, set, length-append, drop_of_length-le}
use lib.Seq.{drop-cons, set_split, drop_at, take_all, length-take-le, append_snoc}
use borrow.Author.Tests.{ltb-true, ltb-false, le-ltb, le-leb, lt-leb, eq-eqb, ne_eqb}
use Rattle.std.specs.Prelude.{◌≢◌, Some, None, option_and_then}
use Rattle.hex_digits.specs.Hex.{digit_of, read_after, read_word, figure_of, digits, write_word}

-- ---- reading

read_more : (n b d : ℕ) (rest : List ℕ) → digit_of b ≡ Some d → read_after n (b ∷ rest) ≡ read_after (16 * n + d) rest
unfolding read_after
read_more n b d rest e = ap (option_and_then (λ d. read_after (16 * n + d) rest)) e

read_stop : (n b : ℕ) (rest : List ℕ) → digit_of b ≡ None → read_after n (b ∷ rest) ≡ None
unfolding read_after
read_stop n b rest e = ap (option_and_then (λ d. read_after (16 * n + d) rest)) e

-- the next of a list's digits is read
pub read_next : (n d i : ℕ) (l : List ℕ) → i < length l → digit_of (get_or l i 0) ≡ Some d → read_after n (drop i l) ≡ read_after (16 * n + d) (drop (i + 1) l)
read_next n d i l h e = rw (add-one, drop-cons l i 0) (read_more n (get_or l i 0) d (drop (suc i) l) e)

pub read_none : (n i : ℕ) (l : List ℕ) → i < length l → digit_of (get_or l i 0) ≡ None → read_after n (drop i l) ≡ None
read_none n i l h e = rw (drop-cons l i 0) (read_stop n (get_or l i 0) (drop (suc i) l) e)

pub read_end : (n i : ℕ) (l : List ℕ) → length l ≤ i → read_after n (drop i l) ≡ Some n
unfolding read_after
read_end n i l h = ap (read_after n) (drop_of_length-le l {i = i} h)

pub word_read : (l : List ℕ) → length l ≡ 16 → read_word l ≡ read_after 0 l
unfolding read_word
word_read l h = simp (eq-eqb _ _ h)

pub word_none : (l : List ℕ) → length l ≢ 16 → read_word l ≡ None
unfolding read_word
word_none l h = simp (ne_eqb _ _ h)

-- a word has no byte past the sixteenth
pub word_whole : (l : List ℕ) → length l ≡ 16 → take 16 l ≡ l
word_whole l h = take_all 16 l (omega arith)

-- what is below a power of 16 fits 60 bits up to the fifteenth
pub power_low : (i : ℕ) → i < 16 → 16 ^ i ≤ 2 ^ 60
power_low i h = let last : i ≤ 15 = omega arith in pow-le-pow_right (lit< tt) last

-- a number of fewer than 16 digits leaves room for another
pub number_low : (n i : ℕ) → n < 16 ^ i → i < 16 → n < 2 ^ 60
number_low n i h k = omega (arith, power_low i k)

pub power_more : (i : ℕ) → 16 ^ (i + 1) ≡ 16 * 16 ^ i
power_more i = rw (add-one, pow-suc) (omega arith)

-- ---- writing

-- the next digit is stored before those that stand already
pub write_next : (k rest : ℕ) (out : List ℕ) → 0 < k → k ≤ length out → digits (k - 1) (rest / 16) ++ drop (k - 1) (set out (k - 1) (figure_of (rest % 16))) ≡ digits k rest ++ drop k out
unfolding digits
write_next zero rest out h l = absurd (not-suc-le-zero h)
write_next (suc k) rest out h l =
    rw (sub-one, set_split out k (figure_of (rest % 16)), drop_at (take k out) (figure_of (rest % 16) ∷ drop (suc k) out) k (length-take-le k out (omega arith)))
    (sym (append_snoc (digits k (rest / 16)) (figure_of (rest % 16)) (drop (suc k) out)))

-- no digit is left to write
pub write_end : (k rest : ℕ) (out : List ℕ) → k ≡ 0 → digits k rest ++ drop k out ≡ out
unfolding digits
write_end k rest out h = rw h

pub word_written : (n : ℕ) (out : List ℕ) → 16 ≤ length out → write_word n out ≡ digits 16 n ++ drop 16 out
unfolding write_word
word_written n out h = simp (le-leb _ _ h)

pub word_short : (n : ℕ) (out : List ℕ) → length out < 16 → write_word n out ≡ out
unfolding write_word
word_short n out h = simp (lt-leb _ _ h)

pub digits_length : (k n : ℕ) → length (digits k n) ≡ k
unfolding digits
digits_length zero n = refl
digits_length (suc k) n = rw (length-append, digits_length k (n / 16)) (add-one k)

-- ---- reading what was written

figure_low : (d : ℕ) → d < 10 → digit_of (48 + d) ≡ Some d
unfolding digit_of
figure_low d h =
    let from : 48 ≤ 48 + d = omega arith in
    let to : 48 + d ≤ 57 = omega arith in
    simp (le-ltb _ _ from, le-leb _ _ to) (ap Some (omega arith))

figure_high : (d : ℕ) → 10 ≤ d → d < 16 → digit_of (55 + d) ≡ Some d
unfolding digit_of
figure_high d l h =
    let from : 65 ≤ 55 + d = omega arith in
    let past : 57 < 55 + d = omega arith in
    let to : 55 + d ≤ 70 = omega arith in
    let low : 48 ≤ 55 + d = omega arith in
    simp (le-ltb _ _ low, lt-leb _ _ past, le-ltb _ _ from, le-leb _ _ to) (ap Some (omega arith))

figure_value : (d : ℕ) → d < 16 → digit_of (figure_of d) ≡ Some d
unfolding figure_of
figure_value d h = go (ltb d 10) refl
  where
    go : (t : Bool) → ltb d 10 ≡ t → digit_of (cond t (48 + d) (55 + d)) ≡ Some d
    go true e = figure_low d (ltb-true d 10 e)
    go false e = figure_high d (ltb-false d 10 e) h

read_digits : (k n : ℕ) (rest : List ℕ) → n < 16 ^ k → read_after 0 (digits k n ++ rest) ≡ read_after n rest
unfolding digits
read_digits zero n rest h = ap (λ (x : ℕ). read_after x rest) (omega arith)
read_digits (suc k) n rest h =
    let low : n % 16 < 16 = omega arith in
    rw append_assoc
    (read_digits k (n / 16) (figure_of (n % 16) ∷ rest) (omega (arith, pow-suc 16 k))
    ∙ read_more (n / 16) (figure_of (n % 16)) (n % 16) rest (figure_value (n % 16) low)
    ∙ ap (λ (x : ℕ). read_after x rest) (omega arith))

-- reading what was written gives the number
pub read_written : (n : ℕ) → n < 2 ^ 64 → read_word (digits 16 n) ≡ Some n
unfolding read_word read_after
read_written n h =
    simp (eq-eqb _ _ (digits_length 16 n))
    (ap (read_after 0) (sym (append-nil (digits 16 n))) ∙ read_digits 16 n [] h)
