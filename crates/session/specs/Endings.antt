-- How a message ended, as text.
use Rattle.std.specs.Prelude.{ℕ, List, Option}
use Rattle.smbus.specs.Answered.{Answered}
use Rattle.smbus.specs.declared.message.Form.{Form}
use Rattle.targets.specs.Outcomes.{returned_by, ending_of}
use Rattle.simulator.specs.TraceTexts.{outcome_text as ending_text}

-- from the refused byte and the slot that was cut, if any
abbrev pub outcome_text : Form → Answered → Option ℕ → List ℕ
outcome_text form answer cut =
    ending_text (ending_of answer.refuse cut (returned_by form answer.value answer.bytes))
