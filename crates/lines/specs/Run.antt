-- A run of calls over a stream, in terms of what the contracts of `feed` and `finish` say of each.
use Rattle.std.specs.Prelude.{ℕ, ◌≤◌, ◌≡◌, List, [], ◌∷◌, ◌++◌, length, take}
use Rattle.lines.specs.declared.Pending.{Pending}
use Rattle.lines.specs.Calls.{over, written, room_for, taken, fed_of, ending}

-- a call of `feed`: the chunk, and what the lent buffer holds before
pub record Call : Type 0 where
  pub chunk : List ℕ
  pub out : List ℕ

-- what is written: after each call the first `len` bytes of its buffer, at the end those of `finish`. Each call has the
-- state that the one before it left
unfoldable pub run_of : Pending → List Call → List ℕ → List ℕ
run_of p [] last = take (length (ending p (length last))) (over (ending p (length last)) last)
run_of p (c ∷ more) last =
    take (fed_of p c.chunk (length c.out)).len (over (written p (taken c.chunk (length c.out))) c.out)
    ++ run_of (fed_of p c.chunk (length c.out)).pending more last

-- each buffer has room for all of its chunk, so that nothing of it is left over
unfoldable pub HasRoom : List Call → Type 0
HasRoom [] = Unit
HasRoom (c ∷ more) = (length c.chunk ≤ room_for (length c.out)) × HasRoom more

-- the query program's buffers: a chunk, and room for what a chunk makes written
abbrev pub chunk_size : ℕ
chunk_size = 16384

abbrev pub room_size : ℕ
room_size = 32812

-- each chunk and each buffer is of these sizes
unfoldable pub Sized : List Call → Type 0
Sized [] = Unit
Sized (c ∷ more) = (length c.chunk ≤ chunk_size) × (length c.out ≡ room_size) × Sized more

-- the stream that the chunks were cut from
unfoldable pub stream_of : List Call → List ℕ
stream_of [] = []
stream_of (c ∷ more) = c.chunk ++ stream_of more
