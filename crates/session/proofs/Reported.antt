-- A report of one step more.
use Rattle.std.proofs.Common.{◌≡◌, ℕ, ◌+◌, List, [], ◌∷◌, ◌++◌, String, Global, string_bytes}
use Rattle.std.proofs.Common.{length, refl, sym, ap, subst, ◌∙◌, append_assoc}
use Rattle.std.proofs.lemmas.List.{append-nil, map-append}
use Rattle.simulator.specs.Machines.{Entry}
use Rattle.simulator.specs.RunLaws.{TicksAddUp}
use Rattle.simulator.specs.Traces.{HasItsFrame}
use Rattle.simulator.specs.TraceTexts.{IsLine, AreLines}
use Rattle.wires.specs.Waves.{Step, Drawn, IsWave}
use Rattle.session.specs.declared.report.Report.TheVariants as reports
use Rattle.session.specs.declared.report.Telling.{Telling}
use Rattle.session.specs.declared.report.Telling.TheVariants.{Lines, Levels}
use Rattle.session.specs.Reports.{IsReport, steps_of}

-- one line more
line_more : (entries : List Entry) (text : List ℕ) (e : Entry) (line : List ℕ)
    → AreLines entries text → IsLine e line → AreLines (entries ++ e ∷ []) (text ++ line)
line_more [] text e line lines is = (line, [], is, refl, rw lines (sym (append-nil line)))
line_more (x ∷ entries) text e line lines is =
    let rest = lines.1 in (
      lines.0,
      rest ++ line,
      lines.2,
      line_more entries rest e line lines.3 is,
      ap (λ (t : List ℕ). t ++ line) lines.4 ∙ append_assoc lines.0 rest line,
    )

pub line_told : (telling : Telling) (entries : List Entry) (e : Entry)
    (text more : String Global) (line : List ℕ) → IsReport telling entries (reports.Lines text)
    → IsLine e line
    → string_bytes more ≡ string_bytes text ++ line
    → IsReport telling (entries ++ e ∷ []) (reports.Lines more)
line_told Lines entries e text more line so_far is bytes =
    rw bytes (line_more entries (string_bytes text) e line so_far is)
line_told Levels entries e text more line so_far is bytes = so_far

pub levels_told : TicksAddUp → (telling : Telling) (entries : List Entry) (e : Entry)
    (wave more : Drawn)
    → IsReport telling entries (reports.Wave wave) → HasItsFrame e
    → ((steps : List Step) → IsWave steps wave → IsWave (steps ++ (e.place, e.samples) ∷ []) more)
    → more.ticks ≡ wave.ticks + length e.samples
    → IsReport telling (entries ++ e ∷ []) (reports.Wave more)
levels_told add_up Lines entries e wave more so_far seen drawn ticks = so_far
levels_told add_up Levels entries e wave more so_far seen drawn ticks =
    let steps : steps_of (entries ++ e ∷ []) ≡ steps_of entries ++ (e.place, e.samples) ∷ [] =
    map-append (λ (e : Entry). (e.place, e.samples)) entries (e ∷ []) in (
      subst (λ (s : List Step). IsWave s more) (sym steps) (drawn (steps_of entries) so_far.0),
      ticks ∙ ap (λ n. wave.ticks + n) (sym seen.ticks) ∙ ap (λ n. n + e.ticks) so_far.1
          ∙ add_up entries e,
    )
