-- Names: which bytes are read as which square, and a name that was written is read again, whatever follows it.
-- Assumes nothing.
use Prim.Native.Nat.{ℕ, ◌+◌, ◌-◌, ◌/◌, ◌%◌, ◌≤◌, ◌<◌}
use mathlib.Core.Path.{◌≡◌, refl, sym, ap, ◌∙◌, subst}
use mathlib.Core.Bool.{Bool, true, false}
use mathlib.Core.List.{List, [], ◌∷◌, ◌++◌}
use mathlib.Core.Logic.{◌⊎◌, inl, inr, ◌↔◌}
use native.Mathlib.Omega.{arith}
use borrow.Author.Tests.{le-ltb, ltb-false}
use lib.Dec.{ltb}
use lib.ListN.{length, get_or, drop}
use Rattle.refusal.specs.Paper.{Said, gives, refuses, refuse_if}
use Rattle.refusal.proofs.Said.{gives_same, gives_not}
use Rattle.square.specs.Square.{square_of, read_name, Reads, name_of}

pub read_name_lem : (file rank : ℕ) (rest : List ℕ) → file < 8 → rank < 8 → read_name ((97 + file) ∷ (49 + rank) ∷ rest) ≡ gives (square_of rank file)
read_name_lem file rank rest f r =
    let long : 2 ≤ length ((97 + file) ∷ (49 + rank) ∷ rest) = omega arith in
    let letter : 97 ≤ 97 + file = omega arith in
    let letter' : 97 + file ≤ 104 = omega arith in
    let figure : 49 ≤ 49 + rank = omega arith in
    let figure' : 49 + rank ≤ 56 = omega arith in
    simp (le-ltb _ _ long, le-ltb _ _ letter, le-ltb _ _ letter', le-ltb _ _ figure, le-ltb _ _ figure') (ap gives (omega arith))

-- a list of two bytes or more
two : (l : List ℕ) → 2 ≤ length l → l ≡ get_or l 0 0 ∷ get_or l 1 0 ∷ drop 2 l
two [] h = absurd (omega arith)
two (a ∷ []) h = absurd (omega arith)
two (a ∷ b ∷ l) h = refl

-- what is read of the bytes, by the five tests
abbrev tested : List ℕ → Bool → Bool → Bool → Bool → Bool → Said ℕ
tested l p q r t u = refuse_if p 2 (refuse_if q 2 (refuse_if r 2 (refuse_if t 2 (refuse_if u 2 (gives (square_of (get_or l 1 0 - 49) (get_or l 0 0 - 97)))))))

-- read as a square, or 2
abbrev Way : List ℕ → Said ℕ → Type 0
Way l x = ((s : ℕ) × (x ≡ gives s) × Reads l s) ⊎ (x ≡ refuses 2 [])

-- there is no other
read_or_2 : (l : List ℕ) → Way l (read_name l)
read_or_2 l =
    go (ltb (length l) 2) refl (ltb (get_or l 0 0) 97) refl (ltb 104 (get_or l 0 0)) refl (ltb (get_or l 1 0) 49) refl (ltb 56 (get_or l 1 0)) refl
  where
    go : (p : Bool) → ltb (length l) 2 ≡ p → (q : Bool) → ltb (get_or l 0 0) 97 ≡ q → (r : Bool) → ltb 104 (get_or l 0 0) ≡ r → (t : Bool) → ltb (get_or l 1 0) 49 ≡ t → (u : Bool) → ltb 56 (get_or l 1 0) ≡ u → Way l (tested l p q r t u)
    go true ep q eq r er t et u eu = inr refl
    go false ep true eq r er t et u eu = inr refl
    go false ep false eq true er t et u eu = inr refl
    go false ep false eq false er true et u eu = inr refl
    go false ep false eq false er false et true eu = inr refl
    go false ep false eq false er false et false eu =
        let a : 97 ≤ get_or l 0 0 = ltb-false (get_or l 0 0) 97 eq in
        let b : get_or l 0 0 ≤ 104 = ltb-false 104 (get_or l 0 0) er in
        let c : 49 ≤ get_or l 1 0 = ltb-false (get_or l 1 0) 49 et in
        let d : get_or l 1 0 ≤ 56 = ltb-false 56 (get_or l 1 0) eu in
        let letter : get_or l 0 0 ≡ 97 + (get_or l 0 0 - 97) = omega arith in
        let figure : get_or l 1 0 ≡ 49 + (get_or l 1 0 - 49) = omega arith in
        inl (
          square_of (get_or l 1 0 - 49) (get_or l 0 0 - 97),
          refl,
          record {
            file = get_or l 0 0 - 97;
            rank = get_or l 1 0 - 49;
            rest = drop 2 l;
            a_file = omega arith;
            a_rank = omega arith;
            bytes_are = two l (ltb-false (length l) 2 ep) ∙ ap (λ (x : ℕ). x ∷ get_or l 1 0 ∷ drop 2 l) letter ∙ ap (λ (x : ℕ). (97 + (get_or l 0 0 - 97)) ∷ x ∷ drop 2 l) figure;
            square_is = refl;
          },
        )

-- "a letter a to h, then a digit 1 to 8; what follows is ignored": a name is read exactly then
pub name_exactly : (l : List ℕ) (s : ℕ) → (read_name l ≡ gives s) ↔ Reads l s
name_exactly l s = (λ e. go (read_or_2 l) e, λ r. ap read_name r.bytes_are ∙ read_name_lem r.file r.rank r.rest r.a_file r.a_rank ∙ ap gives (sym r.square_is))
  where
    go : Way l (read_name l) → read_name l ≡ gives s → Reads l s
    go (inl w) e = subst (Reads l) (gives_same (sym w.1 ∙ e)) w.2
    go (inr q) e = absurd (gives_not (sym e ∙ q))

-- 2, "name unreadable": exactly where it is read as no square
pub unreadable_exactly : (l : List ℕ) → (read_name l ≡ refuses 2 []) ↔ ((s : ℕ) → Reads l s → ⊥)
unreadable_exactly l = (λ e s r. gives_not (sym ((name_exactly l s).1 r) ∙ e), λ n. go n (read_or_2 l))
  where
    go : ((s : ℕ) → Reads l s → ⊥) → Way l (read_name l) → read_name l ≡ refuses 2 []
    go n (inl w) = absurd (n w.0 w.2)
    go n (inr q) = q

-- a name that is read is a square of the board
pub name_low : (l : List ℕ) (s : ℕ) → read_name l ≡ gives s → s < 64
name_low l s e = let r = (name_exactly l s).0 e in omega (arith, r.a_file, r.a_rank, r.square_is)

-- a name that was written is read again
pub read_written : (s : ℕ) (rest : List ℕ) → s < 64 → read_name (name_of s ++ rest) ≡ gives s
read_written s rest h = read_name_lem (s % 8) (s / 8) rest (omega arith) (omega arith) ∙ ap gives (omega arith)
