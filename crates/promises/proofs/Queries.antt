-- What the query program writes.
-- Assumes nothing.
use Rattle.lines.proofs.Stream.{program_is}
use Rattle.promises.specs.Queries.{Queries}

pub queries : Queries
queries = record { writes = program_is }
