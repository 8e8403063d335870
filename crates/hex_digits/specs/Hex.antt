-- Numbers in hexadecimal. 01, "Board examples": "16 upper-case hex digits".
use Rattle.std.specs.Prelude.{ℕ, zero, suc, ◌+◌, ◌-◌, ◌*◌, ◌/◌, ◌%◌, cond, List, [], ◌∷◌, ◌++◌, ltb, leb, eqb, length, drop, Option, Some, None, option_and_then}

-- ---- reading

-- a digit 0 to 9 (bytes 48 to 57) or A to F (65 to 70) has a value; any other byte has none
unfoldable pub digit_of : ℕ → Option ℕ
digit_of b =
    cond (ltb b 48) None
    (cond (leb b 57) (Some (b - 48))
    (cond (ltb b 65) None
    (cond (leb b 70) (Some (b - 65 + 10))
    None)))

-- the number that the bytes spell after the digits of n, most significant first
unfoldable pub read_after : ℕ → List ℕ → Option ℕ
read_after n [] = Some n
read_after n (b ∷ rest) = option_and_then (λ d. read_after (16 * n + d) rest) (digit_of b)

-- the number of exactly 16 digits
unfoldable pub read_word : List ℕ → Option ℕ
read_word bytes = cond (eqb (length bytes) 16) (read_after 0 bytes) None

-- ---- writing

-- the digit of a value below 16
unfoldable pub figure_of : ℕ → ℕ
figure_of d = cond (ltb d 10) (48 + d) (55 + d)

-- the last k digits of n, most significant first: n mod 16 stands last, after the digits of n div 16
unfoldable pub digits : ℕ → ℕ → List ℕ
digits zero n = []
digits (suc k) n = digits k (n / 16) ++ (figure_of (n % 16) ∷ [])

-- the 16 digits of n at the buffer's start; what follows stays, and so does a buffer that is shorter
unfoldable pub write_word : ℕ → List ℕ → List ℕ
write_word n out = cond (leb 16 (length out)) (digits 16 n ++ drop 16 out) out
