-- What crosses the border: plain data in place of what a call says. "Returns" of 01's table: a number, with block and subset
-- beside it where the refusal carries them; 0 stands for no refusal, and what is not there is 0.
use Rattle.std.specs.Prelude.{ℕ, List, get_or, Option, Some, None}
use Rattle.refusal.specs.declared.Refusal.{Refusal}
use Rattle.refusal.specs.Paper.{Said, gives, refuses, values_of}
use Rattle.bmis.specs.declared.Extent.{Extent}
use Rattle.packing.specs.declared.Taken.{Taken}
use Rattle.gen_magic.specs.Builds.{Left}
use Rattle.slider.specs.declared.SliderAnswer.{SliderAnswer}
use Rattle.slider.specs.declared.SliderVerdict.{SliderVerdict}
use Rattle.slider.specs.declared.SliderFound.{SliderFound}
use Rattle.slider.specs.declared.SliderBuild.{SliderBuild}
use Rattle.slider.specs.declared.SliderPlace.{SliderPlace}
use Rattle.slider.specs.declared.SliderName.{SliderName}
use Rattle.slider.specs.declared.SliderStep.{SliderStep}

-- a refusal's block, or its subset; 0 where it has none
abbrev pub value_at : ℕ → Refusal → ℕ
value_at i r = get_or (values_of r) i 0

abbrev pub answer_of : Said ℕ → SliderAnswer
answer_of (gives x) = record { number = 0; value = x }
answer_of (refuses n l) = record { number = n; value = 0 }

abbrev pub verdict_of : Said ℕ → SliderVerdict
verdict_of (gives x) = record { number = 0; block = 0; subset = 0; reach = x }
verdict_of (refuses n l) = record { number = n; block = get_or l 0 0; subset = get_or l 1 0; reach = 0 }

abbrev pub found_of : Said Taken → SliderFound
found_of (gives x) = record { number = 0; block = 0; multiplier = x.multiplier; count = x.count }
found_of (refuses n l) = record { number = n; block = get_or l 0 0; multiplier = 0; count = 0 }

abbrev pub place_of : Said Extent → SliderPlace
place_of (gives x) = record { number = 0; offset = x.offset; size = x.size }
place_of (refuses n l) = record { number = n; offset = 0; size = 0 }

abbrev pub name_of : Said (List ℕ) → SliderName
name_of (gives l) = record { number = 0; letter = get_or l 0 0; digit = get_or l 1 0 }
name_of (refuses n l) = record { number = n; letter = 0; digit = 0 }

abbrev pub step_of : Said (Option ℕ) → SliderStep
step_of (gives (Some t)) = record { number = 0; off = 0; square = t }
step_of (gives None) = record { number = 0; off = 1; square = 0 }
step_of (refuses n l) = record { number = n; off = 0; square = 0 }

-- ---- builds

abbrev pub number_in : Said Unit → ℕ
number_in (gives x) = 0
number_in (refuses n l) = n

abbrev pub block_in : Said Unit → ℕ
block_in (gives x) = 0
block_in (refuses n l) = get_or l 0 0

-- a build across the border, with what it leaves of its loans
pub record Handed : Type 0 where
  pub build : SliderBuild
  pub table : List ℕ
  pub marks : List ℕ

abbrev pub handed : SliderBuild → List ℕ → List ℕ → Handed
handed b table marks = record { build = b; table = table; marks = marks }

abbrev pub handed_of : Left → Handed
handed_of l =
    record {
      build = record { number = number_in l.says; block = block_in l.says; used = l.used; records = l.records; counts = l.counts };
      table = l.table;
      marks = l.marks;
    }
