-- Laws of lists that show a function's values.
-- Assumes nothing.
use Rattle.std.proofs.Common.{◌≡◌, ℕ, zero, suc, ◌+◌, ◌-◌, ◌<◌, ◌≤◌, List, [], ◌∷◌, ◌++◌, map, length, get_or, take, drop, set, replicate, sym, refl, ap, ◌∙◌, ap₂, suc-le-suc, le_of_eq, le_of_suc-le-suc, not-suc-le-zero, add-zero, add-suc, zero-lt-suc, add-one, arith, take_all, take-suc-set, ext_get_or}
use Rattle.bits.specs.Shown.{shown, sum}

pub shown_cong {ℓ} : {A : Type ℓ} (n : ℕ) (f g : ℕ → A) → ((i : ℕ) → i < n → f i ≡ g i) → shown n f ≡ shown n g
unfolding shown
shown_cong zero f g h = refl
shown_cong (suc n) f g h = ap₂ ◌∷◌ (h zero (zero-lt-suc n)) (shown_cong n (λ i. f (suc i)) (λ i. g (suc i)) (λ i l. h (suc i) (suc-le-suc l)))

pub map_shown {ℓ ℓ'} : {A : Type ℓ} {B : Type ℓ'} (f : A → B) (n : ℕ) (g : ℕ → A) → map f (shown n g) ≡ shown n (λ i. f (g i))
unfolding shown
map_shown f zero g = refl
map_shown f (suc n) g = ap (λ l. f (g zero) ∷ l) (map_shown f n (λ i. g (suc i)))

pub length_shown {ℓ} : {A : Type ℓ} (n : ℕ) (f : ℕ → A) → length (shown n f) ≡ n
unfolding shown
length_shown zero f = refl
length_shown (suc n) f = ap suc (length_shown n (λ i. f (suc i)))

take_zero {ℓ} : {A : Type ℓ} (l : List A) → take 0 l ≡ []
take_zero [] = refl
take_zero (x ∷ l) = refl

-- ---- a loop that stores f 0, f 1, .. in turn

shown_more : (n : ℕ) (f : ℕ → ℕ) → shown (suc n) f ≡ shown n f ++ (f n ∷ [])
unfolding shown
shown_more zero f = refl
shown_more (suc n) f = ap (λ (l : List ℕ). f zero ∷ l) (shown_more n (λ i. f (suc i)))

pub shown_store : (i v : ℕ) (l : List ℕ) (f : ℕ → ℕ) → take i l ≡ shown i f → i < length l → v ≡ f i → take (i + 1) (set l i v) ≡ shown (i + 1) f
shown_store i v l f e h q =
    ap (λ (n : ℕ). take n (set l i v)) (add-one i) ∙ take-suc-set l i v h ∙ ap₂ (λ (a : List ℕ) (x : ℕ). a ++ (x ∷ [])) e q
    ∙ sym (shown_more i f) ∙ ap (λ (n : ℕ). shown n f) (sym (add-one i))

-- the same, where the rest of the list is kept
over_suc : (n : ℕ) (f : ℕ → ℕ) (d : List ℕ) → n < length d → set (shown n f ++ drop n d) n (f n) ≡ shown (suc n) f ++ drop (suc n) d
unfolding shown
over_suc n f [] h = absurd (not-suc-le-zero h)
over_suc zero f (x ∷ d) h = refl
over_suc (suc n) f (x ∷ d) h = ap (λ (l : List ℕ). f zero ∷ l) (over_suc n (λ i. f (suc i)) d (le_of_suc-le-suc h))

pub over_store : (i v : ℕ) (l d : List ℕ) (f : ℕ → ℕ) → l ≡ shown i f ++ drop i d → i < length d → v ≡ f i → set l i v ≡ shown (i + 1) f ++ drop (i + 1) d
over_store i v l d f e h q =
    ap₂ (λ (x : List ℕ) (y : ℕ). set x i y) e q ∙ over_suc i f d h ∙ ap (λ (n : ℕ). shown n f ++ drop n d) (sym (add-one i))

pub shown_whole : (n : ℕ) (l : List ℕ) (f : ℕ → ℕ) → length l ≡ n → take n l ≡ shown n f → l ≡ shown n f
shown_whole n l f e q = sym (take_all n l (le_of_eq e)) ∙ q

pub get_or_shown {ℓ} : {A : Type ℓ} (n i : ℕ) (f : ℕ → A) (d : A) → i < n → get_or (shown n f) i d ≡ f i
unfolding shown
get_or_shown zero i f d h = absurd (not-suc-le-zero h)
get_or_shown (suc n) zero f d h = refl
get_or_shown (suc n) (suc i) f d h = get_or_shown n i (λ j. f (suc j)) d (le_of_suc-le-suc h)

-- the first values of more
pub take_shown {ℓ} : {A : Type ℓ} (n m : ℕ) (f : ℕ → A) → n ≤ m → take n (shown m f) ≡ shown n f
unfolding shown
take_shown zero m f h = take_zero (shown m f)
take_shown (suc n) zero f h = absurd (not-suc-le-zero h)
take_shown (suc n) (suc m) f h = ap (λ l. f zero ∷ l) (take_shown n m (λ i. f (suc i)) (le_of_suc-le-suc h))

-- a list of n is shown by what stands at each place
pub shown_list {ℓ} : {A : Type ℓ} (n : ℕ) (l : List A) (d : A) (f : ℕ → A) → length l ≡ n → ((i : ℕ) → i < n → get_or l i d ≡ f i) → l ≡ shown n f
shown_list n l d f e h =
    ext_get_or d l (shown n f) (e ∙ sym (length_shown n f))
    (λ i lt. let low : i < n = omega (arith, e) in h i low ∙ sym (get_or_shown n i f d low))

-- a list of one value has it at each place, and past the end where it is the default
pub get_or_same {ℓ} : {A : Type ℓ} (n : ℕ) (a : A) (j : ℕ) → get_or (replicate n a) j a ≡ a
get_or_same zero a j = refl
get_or_same (suc n) a zero = refl
get_or_same (suc n) a (suc j) = get_or_same n a j

-- ---- sums

pub sum_more : (n : ℕ) (f : ℕ → ℕ) → sum (n + 1) f ≡ sum n f + f n
unfolding sum
sum_more n f = ap (λ (m : ℕ). sum m f) (add-one n)

pub sum_mono : (n k : ℕ) (f : ℕ → ℕ) → sum n f ≤ sum (n + k) f
unfolding sum
sum_mono n zero f = le_of_eq (ap (λ (m : ℕ). sum m f) (sym (add-zero n)))
sum_mono n (suc k) f = let e : sum (n + suc k) f ≡ sum (n + k) f + f (n + k) = ap (λ (m : ℕ). sum m f) (add-suc n k) in omega (arith, sum_mono n k f)

-- a value and those before it, within the whole
pub sum_within : (i n : ℕ) (f : ℕ → ℕ) → i < n → sum i f + f i ≤ sum n f
sum_within i n f h =
    let e : (i + 1) + (n - (i + 1)) ≡ n = omega arith in
    omega (arith, sum_more i f, sum_mono (i + 1) (n - (i + 1)) f, ap (λ (m : ℕ). sum m f) e)
