-- A trace as text: a line for each step, and a last one.
use Rattle.std.specs.Prelude.{◌≡◌, ℕ, List, [], ◌∷◌, ◌++◌, Option, Some, None, codes}
use Rattle.std.specs.Fmt.{decimal}
use Rattle.std.specs.Io.KnownBytes.{Appends}
use Rattle.texts.specs.Hex.{word_text}
use Rattle.texts.specs.Sending.{AppendsBeginning}
use Rattle.wires.specs.Events.{events_of}
use Rattle.smbus.specs.Shown.{Shown}
use Rattle.smbus.specs.Frames.{AreFrames}
use Rattle.smbus.specs.Text.{text_of}
use Rattle.targets.specs.declared.outcome.Outcome.{Outcome}
use Rattle.targets.specs.declared.outcome.Outcome.TheVariants.{Done, NotAcknowledged, TimedOut}
use Rattle.targets.specs.declared.outcome.Outcome.TheVariants.{Lost}
use Rattle.simulator.specs.declared.machine.Ending.{Ending}
use Rattle.simulator.specs.declared.machine.Ending.TheVariants.{Running, Finished, Failed}
use Rattle.simulator.specs.Machines.{Entry}
use Rattle.simulator.specs.Steps.{total_ticks}
use Rattle.simulator.specs.Traces.{Trace}

abbrev pub outcome_text : Outcome → List ℕ
outcome_text (Done value) = codes "done " ++ word_text value
outcome_text NotAcknowledged = codes "nak"
outcome_text TimedOut = codes "timeout"
outcome_text Lost = codes "lost"

abbrev pub ending_text : Ending → List ℕ
ending_text Running = codes "running"
ending_text Finished = codes "end"
ending_text Failed = codes "fail"

-- `PLACE TICKS FRAME OUTCOME`
abbrev pub line_of : Entry → List ℕ → List ℕ → List ℕ
line_of e frame outcome =
    decimal e.place ++ (codes " "
    ++ (decimal e.ticks ++ (codes " " ++ (frame ++ (codes " " ++ (outcome ++ codes "\n"))))))

-- with the frame that is read from the samples; without a message nothing is
abbrev pub IsEndingLine : Entry → Option Outcome → List ℕ → Type 0
IsEndingLine e None line = line ≡ line_of e (codes "-") (codes "-")
IsEndingLine e (Some outcome) line =
    (f : Shown) × AreFrames (events_of e.samples) (f ∷ [])
    × (line ≡ line_of e (text_of f) (outcome_text outcome))

abbrev pub IsLine : Entry → List ℕ → Type 0
IsLine e line = IsEndingLine e e.outcome line

-- the text with the line of a step appended
abbrev pub IsLineMore : Entry → List ℕ → List ℕ → Type 0
IsLineMore e old new = (line : List ℕ) × IsLine e line × (new ≡ old ++ line)

-- the lines of steps in order
abbrev pub AreLines : List Entry → List ℕ → Type 0
AreLines [] text = text ≡ []
AreLines (e ∷ entries) text =
    (line : List ℕ) × (rest : List ℕ) × IsLine e line × AreLines entries rest
    × (text ≡ line ++ rest)

-- how the run ended, and all its ticks
abbrev pub last_line : Ending → ℕ → List ℕ
last_line ended ticks = ending_text ended ++ (codes " ticks " ++ (decimal ticks ++ codes "\n"))

pub record IsTraceText (t : Trace) (text : List ℕ) : Type 0 where
  pub steps : List ℕ
  pub lines : AreLines t.entries steps
  pub parts : text ≡ steps ++ last_line t.last.ended (total_ticks t.entries)

-- the writer got the trace's text
pub record IsWritten (t : Trace) (old new : Option (List ℕ)) : Type 0 where
  pub text : List ℕ
  pub is_text : IsTraceText t text
  pub got : Appends old new text

-- or a beginning of it
pub record IsBegun (t : Trace) (old new : Option (List ℕ)) : Type 0 where
  pub text : List ℕ
  pub is_text : IsTraceText t text
  pub got : AppendsBeginning old new text
