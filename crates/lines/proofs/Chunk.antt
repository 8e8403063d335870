-- A chunk taken byte by byte: what stands after i of its bytes, that the buffer has room for what the next one says, and what a caller learns.
-- Assumes nothing.
use Prim.Native.Nat.{ℕ, zero, suc, ◌+◌, ◌-◌, ◌*◌, ◌≤◌, ◌<◌, min}
use mathlib.Core.Path.{◌≡◌, refl, sym, ap, ◌∙◌}
use mathlib.Core.List.{List, [], ◌∷◌, ◌++◌, append-nil}
use native.Mathlib.Nat.{zero-min, min-zero, suc-min-suc}
use native.Mathlib.Numerals.{add-one}
use native.Mathlib.Omega.{arith}
use lib.ListN.{length, get_or, take, length-append, length-take}
use lib.Seq.{take-suc, take-nil, take_all}
use borrow.Rule.Slice.PartMut.{mid_of, put_mid}
use Rattle.lines.specs.declared.Pending.{Pending}
use Rattle.lines.specs.declared.Fed.{Fed}
use Rattle.lines.specs.Calls.{over, next_of, says_of, after, written, room_for, taken, fed_of}
use Rattle.lines.proofs.Over.{over_none, over_length, over_rest}
use Rattle.lines.proofs.Calls.{held, after_append, written_append, says_bound, written_bound}

-- after i bytes of a chunk: the state, how much was written, and the buffer
pub record FedTo (p : Pending) (chunk out₀ : List ℕ) (i : ℕ) (state : Pending) (at : ℕ) (out : List ℕ) : Type 0 where
  pub state_is : state ≡ after p (take i chunk)
  pub at_is : at ≡ length (written p (take i chunk))
  pub out_is : out ≡ over (written p (take i chunk)) out₀

-- the same before a byte of those that the buffer has room for: how much was written leaves room for what the byte says
pub record Feeding (p : Pending) (chunk out₀ : List ℕ) (i : ℕ) (state : Pending) (at : ℕ) (out : List ℕ) : Type 0 where
  pub room : length chunk ≤ room_for (length out₀)
  pub low : at + 2 * held state ≤ 44 + 2 * i
  pub fed : FedTo p chunk out₀ i state at out

take_min : (l : List ℕ) (k : ℕ) → take (min (length l) k) l ≡ take k l
take_min [] k = rw zero-min (sym (take-nil k))
take_min (x ∷ l) zero = rw min-zero
take_min (x ∷ l) (suc k) = rw suc-min-suc (ap (λ (r : List ℕ). x ∷ r) (take_min l k))

-- ---- what the caller learns: nothing is left over, and the answers lie in the buffer

pub all_taken : (chunk : List ℕ) (room : ℕ) → length chunk ≤ room_for room → taken chunk room ≡ chunk
unfolding taken
all_taken chunk room h = take_all (room_for room) chunk h

written_fits : (p : Pending) (chunk : List ℕ) (room i : ℕ) → i ≤ room_for room → length (written p (take i chunk)) ≤ room
unfolding written
written_fits p chunk room zero h = omega arith
written_fits p chunk room (suc i) h = omega (arith, written_bound p (take (suc i) chunk), length-take (suc i) chunk)

pub fed_fits : (p : Pending) (chunk : List ℕ) (room : ℕ) → (fed_of p chunk room).len ≤ room
unfolding fed_of taken
fed_fits p chunk room = written_fits p chunk room (room_for room) (omega arith)

pub fed_used : (p : Pending) (chunk : List ℕ) (room : ℕ) → length chunk ≤ room_for room → (fed_of p chunk room).used ≡ length chunk
unfolding fed_of
fed_used p chunk room h = ap length (all_taken chunk room h)

-- ---- the loop

module _ (p : Pending) (chunk out₀ : List ℕ) where
  pub fed_none : FedTo p chunk out₀ 0 p 0 out₀
  unfolding after written
  fed_none = record { state_is = refl; at_is = refl; out_is = sym (over_none out₀) }

  pub fed_length : (i : ℕ) (state : Pending) (at : ℕ) (out : List ℕ) → FedTo p chunk out₀ i state at out → i ≤ room_for (length out₀) → length out ≡ length out₀
  fed_length i state at out f h =
      ap length f.out_is ∙ over_length (written p (take i chunk)) out₀ (written_fits p chunk (length out₀) i h)

  module _ (i : ℕ) (state : Pending) (at : ℕ) (out : List ℕ) (f : FedTo p chunk out₀ i state at out) (in_chunk : i < length chunk) (room : i < room_for (length out₀)) where
    pub next_fits : at + length (says_of state (get_or chunk i 0)) ≤ length out₀
    next_fits =
        rw (f.at_is, f.state_is)
        (omega (
          arith,
          written_bound p (take i chunk),
          says_bound (after p (take i chunk)) (get_or chunk i 0),
          length-take i chunk,
        ))

    pub fed_more : (next : Pending) (len : ℕ) (part : List ℕ) → next ≡ next_of state (get_or chunk i 0) → len ≡ length (says_of state (get_or chunk i 0)) → part ≡ over (says_of state (get_or chunk i 0)) (mid_of at (length out - at) out) → FedTo p chunk out₀ (i + 1) next (at + len) (put_mid at (length out - at) out part)
    unfolding after written
    fed_more next len part e g h =
        let b = get_or chunk i 0 in
        let s = take i chunk in
        let says = says_of state b in
        let k = length out - at in
        let more : take (i + 1) chunk ≡ s ++ (b ∷ []) = rw add-one (take-suc chunk i 0 in_chunk) in
        let wrote : written p (take (i + 1) chunk) ≡ written p s ++ says =
        ap (written p) more ∙ written_append p s (b ∷ [])
        ∙ ap (λ (l : List ℕ). written p s ++ l) (append-nil (says_of (after p s) b) ∙ ap (λ (q : Pending). says_of q b) (sym f.state_is)) in
        let same : length out ≡ length out₀ = fed_length i state at out f (omega arith) in
        record {
          state_is = e ∙ ap (λ (q : Pending). next_of q b) f.state_is ∙ sym (ap (after p) more ∙ after_append p s (b ∷ []));
          at_is = omega (arith, ap length wrote ∙ length-append (written p s) says, f.at_is);
          out_is =
              ap (put_mid at k out) h ∙ ap (λ (o : List ℕ). put_mid at k o (over says (mid_of at k o))) f.out_is
              ∙ over_rest (written p s) says out₀ at k (sym f.at_is) (omega (arith, next_fits, f.at_is)) (omega arith)
              ∙ ap (λ (l : List ℕ). over l out₀) (sym wrote);
        }

  -- ---- the same with the room

  pub feeding_none : length chunk ≤ room_for (length out₀) → Feeding p chunk out₀ 0 p 0 out₀
  feeding_none h = record { room = h; low = omega arith; fed = fed_none }

  pub feeding_more : (i : ℕ) (state : Pending) (at : ℕ) (out : List ℕ) → Feeding p chunk out₀ i state at out → i < length chunk → (next : Pending) (len : ℕ) (part : List ℕ) → next ≡ next_of state (get_or chunk i 0) → len ≡ length (says_of state (get_or chunk i 0)) → part ≡ over (says_of state (get_or chunk i 0)) (mid_of at (length out - at) out) → Feeding p chunk out₀ (i + 1) next (at + len) (put_mid at (length out - at) out part)
  feeding_more i state at out f in_chunk next len part e g h = record {
    room = f.room;
    low = omega (arith, f.low, says_bound state (get_or chunk i 0), ap held e, g);
    fed = fed_more i state at out f.fed in_chunk (omega (arith, f.room)) next len part e g h;
  }

-- all of the bytes for which there is room
pub fed_all : (p : Pending) (chunk out₀ : List ℕ) (n i : ℕ) (state : Pending) (at : ℕ) (out : List ℕ) → FedTo p (take n chunk) out₀ i state at out → length (take n chunk) ≤ i → n ≡ min (length chunk) (room_for (length out₀)) → record { value : record { pending = state; len = at; used = n } ≡ fed_of p chunk (length out₀); out_after : out ≡ over (written p (taken chunk (length out₀))) out₀ }
unfolding fed_of taken
fed_all p chunk out₀ n i state at out f e g =
    let s = take i (take n chunk) in
    let t : s ≡ taken chunk (length out₀) = take_all i (take n chunk) e ∙ ap (λ (k : ℕ). take k chunk) g ∙ take_min chunk (room_for (length out₀)) in
    let used : n ≡ length s = omega (arith, ap length (take_all i (take n chunk) e), length-take n chunk) in
    record {
      value = of_parts s f.state_is f.at_is used ∙ ap all t;
      out_after = f.out_is ∙ ap (λ (s : List ℕ). over (written p s) out₀) t;
    }
  where
    all : List ℕ → Fed
    all s = record { pending = after p s; len = length (written p s); used = length s }

    of_parts : (s : List ℕ) → state ≡ after p s → at ≡ length (written p s) → n ≡ length s → record { pending = state; len = at; used = n } ≡ all s
    of_parts s a b c = cc
