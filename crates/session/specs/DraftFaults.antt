-- Why no program is drafted, and the line that is printed for it.
use Rattle.std.specs.Prelude.{ℕ, List, [], ◌++◌, codes, option_map, slice_get}
use Rattle.std.specs.Prelude.{unwrap_or}
use Rattle.std.specs.Fmt.{decimal}
use Rattle.board.specs.Boards.{Board}
use Rattle.bundles.specs.FormTexts.{form_word}
use Rattle.facts.specs.duties.RuleNames.{rule_name}
use Rattle.pmbus_table.specs.Commands.{command_at, name_text}
use Rattle.session.specs.declared.draft_fault.DraftFault.{DraftFault}
use Rattle.session.specs.declared.draft_fault.DraftFault.TheVariants as faults
use Rattle.session.specs.Faults.{line_text}

abbrev pub number_of : DraftFault → ℕ
number_of (faults.BadPlan fault) = 2
number_of (faults.Circle rail) = 3
number_of (faults.NoEntry target form code) = 4
number_of (faults.OverLimit rail) = 5
number_of faults.TooLong = 6
number_of (faults.NotAccepted place rule) = 7

abbrev pub name_of : DraftFault → List ℕ
name_of (faults.BadPlan fault) = codes "BadPlan"
name_of (faults.Circle rail) = codes "Circle"
name_of (faults.NoEntry target form code) = codes "NoEntry"
name_of (faults.OverLimit rail) = codes "OverLimit"
name_of faults.TooLong = codes "TooLong"
name_of (faults.NotAccepted place rule) = codes "NotAccepted"

-- the names of a target and of a rail of the board
abbrev pub target_word : Board → ℕ → List ℕ
target_word b target = unwrap_or (slice_get b.target_names target) []

abbrev pub rail_word : Board → ℕ → List ℕ
rail_word b rail = unwrap_or (slice_get b.rail_names rail) []

-- the name of the command with a code
abbrev pub command_word : ℕ → List ℕ
command_word code = unwrap_or (option_map name_text (command_at code)) []

-- the line, the rail, the entry that is missing, or the place and the rule
abbrev pub detail_of : Board → DraftFault → List ℕ
detail_of b (faults.BadPlan fault) = codes " " ++ decimal fault.line
detail_of b (faults.Circle rail) = codes " " ++ rail_word b rail
detail_of b (faults.NoEntry target form code) =
    codes " " ++ (target_word b target ++ (codes " " ++ (form_word form
    ++ (codes " " ++ command_word code))))
detail_of b (faults.OverLimit rail) = codes " " ++ rail_word b rail
detail_of b faults.TooLong = []
detail_of b (faults.NotAccepted place rule) =
    codes " " ++ (decimal place ++ (codes " " ++ rule_name rule))

-- `fault draft N NAME ..`
abbrev pub draft_fault_text : Board → DraftFault → List ℕ
draft_fault_text b fault =
    line_text (codes "draft") (number_of fault) (name_of fault) (detail_of b fault)
