-- What is told of a run: the lines of its trace, or the levels of the bus.
use Rattle.std.specs.Prelude.{◌≡◌, ◌≤◌, ◌+◌, ℕ, List, map, string_bytes}
use Rattle.simulator.specs.Faults.{most_ticks}
use Rattle.simulator.specs.Machines.{Entry}
use Rattle.simulator.specs.Steps.{total_ticks}
use Rattle.simulator.specs.Traces.{Trace}
use Rattle.simulator.specs.TraceTexts.{AreLines, IsTraceText}
use Rattle.wires.specs.Marks.{Mark}
use Rattle.wires.specs.Waves.{Step, IsWave, IsDump}
use Rattle.session.specs.declared.report.Report.{Report}
use Rattle.session.specs.declared.report.Report.TheVariants as reports
use Rattle.session.specs.declared.report.Telling.{Telling}
use Rattle.session.specs.declared.report.Telling.TheVariants.{Lines, Levels}

-- each step as its place and its samples
abbrev pub steps_of : List Entry → List Step
steps_of entries = map (λ (e : Entry). (e.place, e.samples)) entries

-- how a report tells
abbrev pub telling_of : Report → Telling
telling_of (reports.Lines text) = Lines
telling_of (reports.Wave wave) = Levels

-- what is told of these steps
abbrev pub IsReport : Telling → List Entry → Report → Type 0
IsReport Lines entries (reports.Lines text) = AreLines entries (string_bytes text)
IsReport Lines entries (reports.Wave wave) = ⊥
IsReport Levels entries (reports.Lines text) = ⊥
IsReport Levels entries (reports.Wave wave) =
    IsWave (steps_of entries) wave × (wave.ticks ≡ total_ticks entries)

-- a step more can be told
abbrev pub HasRoom : Report → Entry → Type 0
HasRoom report e = (telling : Telling) × (entries : List Entry)
    × IsReport telling entries report × (total_ticks entries + e.ticks ≤ most_ticks)

-- a dump from which a viewer reads the levels in each step
abbrev pub IsWaveText : Trace → List ℕ → Type 0
IsWaveText t text = (marks : List Mark) × IsDump (steps_of t.entries) marks text

-- all that is told of a run
abbrev pub TellsAll : Telling → Trace → List ℕ → Type 0
TellsAll Lines t text = IsTraceText t text
TellsAll Levels t text = IsWaveText t text
