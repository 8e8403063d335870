-- 01, "Board examples", the last paragraph: what the query program writes, with the buffers that it has.
use Rattle.std.specs.Prelude.{ℕ, ◌≡◌, List, ◌++◌, length}
use Rattle.lines.specs.Stream.{head_line, output_of}
use Rattle.lines.specs.Calls.{fresh}
use Rattle.lines.specs.Run.{Call, run_of, room_size, Sized, stream_of}

pub record Queries : Type 0 where
  -- "It writes its header even for empty input, then reads lines ..": however the input is cut into chunks, whatever the buffers held
  pub writes : (calls : List Call) (last : List ℕ) → Sized calls → length last ≡ room_size → head_line ++ run_of fresh calls last ≡ output_of (stream_of calls)
