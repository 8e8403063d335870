-- One block's turn, as the code takes it, for either source of multipliers. No public statement rests on this file.
use Rattle.std.specs.Prelude.{ℕ, ◌+◌, Bool, true, false, List, leb, length, replicate, Option, Result, Ok, Err}
use Rattle.std.specs.Option.{ok_or}
use Rattle.refusal.specs.declared.Refusal.{Refusal}
use Rattle.refusal.specs.declared.Refusal.TheVariants.{NoRoom, Spent, Collides}
use Rattle.splitmix.specs.SplitMix.{candidate}
use Rattle.packing.specs.declared.Taken.{Taken}
use Rattle.packing.specs.Pack as Pack
use Rattle.packing.specs.Pack.{by_search, by_lent, first_free, or_into, seed_build, lent_build}
use Rattle.blocks.specs.Real.{real}
use Rattle.gen_magic.specs.declared.Build.{Build}
use Rattle.gen_magic.specs.declared.Source.{Source}
use Rattle.gen_magic.specs.declared.Source.TheVariants.{Seed, Lent}
use Rattle.gen_magic.specs.declared.Settled.{Settled}
use Rattle.gen_magic.specs.Builds.{slots}

-- the slots after each i below n in turn had its value ORed into its slot
abbrev pub ored : (ℕ → ℕ) → (ℕ → ℕ) → ℕ → (ℕ → ℕ) → ℕ → ℕ
ored slot value n old j = or_into slot value n j (old j)

-- what is chosen for a block, and the refusal where that is nothing: 5 or 6
abbrev pub choice_by : Source → ℕ → Option Taken
choice_by (Seed seed budget) = by_search real (candidate seed) budget
choice_by (Lent l) = by_lent real (slots l.now)

abbrev pub why_of : Source → ℕ → Refusal
why_of (Seed seed budget) b = Spent b
why_of (Lent l) b = Collides b

abbrev pub chosen : Source → ℕ → Result Taken Refusal
chosen source b = ok_or (choice_by source b) (why_of source b)

-- the build of a source
abbrev pub built : Source → ℕ → Pack.Outcome
built (Seed seed budget) len = seed_build real (candidate seed) budget len
built (Lent l) len = lent_build real (slots l.now) len

-- by room and choice: "within a block 4 before 5 or 6"
abbrev pub turn_by : ℕ → ℕ → Bool → Result Taken Refusal → Result Settled Refusal
turn_by b place false c = Err (NoRoom b)
turn_by b place true (Err r) = Err r
turn_by b place true (Ok x) = Ok (record { place = place; taken = x })

-- at the first free place: "If place + size exceeds the table, no room."
unfoldable pub turn : Source → ℕ → ℕ → List ℕ → Result Settled Refusal
turn source b end marks =
    let place : ℕ = first_free (real.size b) (real.rays b) (slots marks) end in
    turn_by b place (leb (place + real.size b) (length marks)) (chosen source b)

-- what a loan holds, or after a refusal, when it is still to be cleared, what it will hold
abbrev pub unless_refused : Result Build Refusal → List ℕ → List ℕ
unless_refused (Ok b) l = l
unless_refused (Err r) l = replicate (length l) 0
