-- A text has a plan or a first bad line, and only one of these, for one reason.
use Rattle.std.specs.Prelude.{◌≡◌, ℕ, List, false}
use Rattle.board.specs.Boards.{Board}
use Rattle.plans.specs.declared.fault.PlanFault.{PlanFault}
use Rattle.plans.specs.Plans.{is_plan, IsFirstBad}

abbrev pub BadIsNoPlan : Type 0
BadIsNoPlan = (board : Board) (lines : List (List ℕ)) (fault : PlanFault)
    → IsFirstBad board lines fault → is_plan board lines ≡ false

abbrev pub FirstBadIsOne : Type 0
FirstBadIsOne = (board : Board) (lines : List (List ℕ)) (one other : PlanFault)
    → IsFirstBad board lines one → IsFirstBad board lines other → one ≡ other
