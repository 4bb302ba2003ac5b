-- Operands as words of a printed program.
use Rattle.std.specs.Prelude.{ℕ, List, [], ◌++◌, Bool, true, false, slice_index_or, if◌then◌else◌}
use Rattle.std.specs.Prelude.{codes}
use Rattle.std.specs.Fmt.{decimal}
use Rattle.pmbus_table.specs.Commands.{is_manufacturer, name_text}
use Rattle.board.specs.Boards.{Board}
use Rattle.seq_program.specs.declared.instr.Width.{Width}
use Rattle.seq_program.specs.declared.instr.Width.TheVariants as width

-- the label of a place, `p0`
abbrev pub place_name : ℕ → List ℕ
place_name place = codes "p" ++ decimal place

abbrev pub register_name : ℕ → List ℕ
register_name register = codes "r" ++ decimal register

abbrev pub counter_name : ℕ → List ℕ
counter_name counter = codes "c" ++ decimal counter

abbrev pub target_name : Board → ℕ → List ℕ
target_name board target = slice_index_or board.target_names target []

abbrev pub direction_name : Bool → List ℕ
direction_name true = codes "r"
direction_name false = codes "w"

abbrev pub width_letter : Width → List ℕ
width_letter width.Byte = codes "b"
width_letter width.Word = codes "w"

-- a command of a byte or a word: a manufacturer command says which
abbrev pub sized_name : ℕ → Width → List ℕ
sized_name command size =
    name_text command ++ (if is_manufacturer command then width_letter size else [])
