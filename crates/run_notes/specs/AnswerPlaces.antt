-- The lines of a section of which only some count, and those of a run's answers.
use Rattle.std.specs.Prelude.{ℕ, ◌+◌, List, Option, option_and_then, map}
use Rattle.std.specs.Prelude.{slice_get}
use Rattle.simulator.specs.declared.fault.RunFault.{RunFault}
use Rattle.simulator.specs.declared.fault.RunFault.TheVariants.{BadStart}
use Rattle.simulator.specs.Faults.{index_of}
use Rattle.bundles.specs.CountedLines.{counted_lines}

-- the number of the line that stands at a place among those that count
abbrev pub counted_line : ℕ → List (List ℕ) → Option ℕ
counted_line place lines =
    slice_get (map (λ (n : ℕ × List ℕ). n.0)
    (counted_lines (record { first_line = 1; lines = lines }))) place

-- the number of the line that has a fault: how the targets start stands first, and then the answers
abbrev pub run_line : RunFault → List (List ℕ) → Option ℕ
run_line BadStart lines = counted_line 0 lines
run_line fault lines =
    option_and_then (λ index. counted_line (index + 1) lines) (index_of fault)
