-- The fault of an input, and the line that is printed for it.
use Rattle.std.specs.Prelude.{ℕ, List, [], ◌++◌, Option, Some, None, Result, Ok, Err, codes}
use Rattle.std.specs.Fmt.{decimal}
use Rattle.smbus.specs.Faults.{number_of as frame_number_of, name_of as frame_name_of}
use Rattle.board.specs.Faults.{number_of as board_number_of, name_of as board_name_of}
use Rattle.seq_program.specs.Faults.{number_of as program_number_of, name_of as program_name_of}
use Rattle.seq_program.specs.Faults.{line_of}
use Rattle.table_check.specs.text.Faults.{number_of as table_number_of, name_of as table_name_of}
use Rattle.table_check.specs.text.Faults.{line_of as table_line_of}
use Rattle.simulator.specs.Faults.{number_of as run_number_of, name_of as run_name_of, index_of}
use Rattle.bundles.specs.Bundles.{header_text}
use Rattle.bundles.specs.Faults.{number_of, name_of}
use Rattle.bundles.specs.declared.fault.BundleFault.{BundleFault}
use Rattle.bundles.specs.declared.fault.BundleFault.TheVariants.{Unexpected, MissingSection}
use Rattle.bundles.specs.declared.fault.BundleFault.TheVariants.{BadMessage, BadAnswer, BadSeed}
use Rattle.session.specs.declared.fault.InputFault.{InputFault}
use Rattle.session.specs.declared.fault.InputFault.TheVariants as faults

-- the value, or the fault as an input's
abbrev pub faulted : {E A : Type 0} → (E → InputFault) → Result A E → Result A InputFault
faulted as_input (Ok x) = Ok x
faulted as_input (Err fault) = Err (as_input fault)

-- the line of the fault, or the header that is missing
abbrev pub detail_of : BundleFault → List ℕ
detail_of (Unexpected line) = codes " " ++ decimal line
detail_of (MissingSection header) = codes " " ++ header_text header
detail_of (BadMessage line flaw) = codes " " ++ decimal line
detail_of (BadAnswer line flaw) = codes " " ++ decimal line
detail_of (BadSeed line flaw) = codes " " ++ decimal line
detail_of _ = []

-- the line or the index, where there is one
abbrev pub counted_text : Option ℕ → List ℕ
counted_text None = []
counted_text (Some number) = codes " " ++ decimal number

-- `fault WHERE N NAME`, with the detail where the fault has one
abbrev pub line_text : List ℕ → ℕ → List ℕ → List ℕ → List ℕ
line_text place number name detail =
    codes "fault "
    ++ (place ++ (codes " " ++ (decimal number ++ (codes " " ++ (name ++ (detail ++ codes "\n"))))))

abbrev pub fault_text : InputFault → List ℕ
fault_text (faults.Bundle fault) =
    line_text (codes "bundle") (number_of fault) (name_of fault) (detail_of fault)
fault_text (faults.Frame fault) =
    line_text (codes "frame") (frame_number_of fault) (frame_name_of fault) []
fault_text (faults.Board fault) =
    line_text (codes "board") (board_number_of fault.kind) (board_name_of fault.kind) []
fault_text (faults.Program fault) =
    line_text (codes "program") (program_number_of fault) (program_name_of fault)
    (counted_text (line_of fault))
fault_text (faults.Run fault) =
    line_text (codes "run") (run_number_of fault) (run_name_of fault)
    (counted_text (index_of fault))
fault_text (faults.Table fault) =
    line_text (codes "table") (table_number_of fault) (table_name_of fault)
    (counted_text (table_line_of fault))
