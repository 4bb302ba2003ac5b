-- What is to blame where an instruction is refused: the law of violations.
use Rattle.std.specs.Prelude.{◌≡◌}
use Rattle.board.specs.Boards.{Board}
use Rattle.seq_program.specs.declared.instr.Instr.{Instr}
use Rattle.facts.specs.declared.duties.violation.Violation.{Violation}
use Rattle.facts.specs.domain.Rows.{Row}
use Rattle.facts.specs.duties.Duties.{Meets}
use Rattle.facts.specs.duties.Violations.{rule_of, IsToBlame}

-- where something is to blame, its rule isn't met
abbrev pub BlameBreaks : Type 0
BlameBreaks =
    (b : Board) (i : Instr) (row : Row) (v : Violation) → IsToBlame b row i v
    → Meets b row i (rule_of v) → ⊥

-- of each rule that is broken, one thing is to blame
abbrev pub OneIsToBlame : Type 0
OneIsToBlame =
    (b : Board) (i : Instr) (row : Row) (v w : Violation) → IsToBlame b row i v
    → IsToBlame b row i w → rule_of v ≡ rule_of w → v ≡ w
