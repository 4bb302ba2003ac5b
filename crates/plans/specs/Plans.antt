-- The plan of a text: what its lines wish, or its first bad line.
use Rattle.std.specs.Prelude.{◌≡◌, ℕ, ◌+◌, List, [], ◌∷◌, ◌++◌, length, filter_map, Bool, true}
use Rattle.std.specs.Prelude.{false, not, ◌&&◌, ◌==◌, Option, Some, None, is_some, Result, Ok, Err}
use Rattle.std.specs.Prelude.{is_ok, if◌then◌else◌}
use Rattle.std.specs.List.{list_all, list_any}
use Rattle.std.specs.Result.{result_unwrap_or, result_err}
use Rattle.texts.specs.Reading.{◌>>=◌}
use Rattle.texts.specs.Cuts.{without_comment}
use Rattle.texts.specs.Words.{words_of}
use Rattle.texts.specs.declared.reading.ReadError.{ReadError}
use Rattle.texts.specs.declared.reading.ReadError.TheVariants as errors
use Rattle.board.specs.Boards.{Board}
use Rattle.plans.specs.declared.fault.LineFault.{LineFault}
use Rattle.plans.specs.declared.fault.LineFault.TheVariants as line_fault
use Rattle.plans.specs.declared.fault.PlanFault.{PlanFault}
use Rattle.plans.specs.declared.wish.Wish.{Wish}
use Rattle.plans.specs.Wishes.{is_about, subject_of, wish_about}
use Rattle.plans.specs.WishLines.{wish_of}

-- what the words of a line say: nothing where there are none, or a wish, or they are bad
abbrev pub said_by : Board → List (List ℕ) → Result (Option Wish) LineFault
said_by board [] = Ok None
said_by board (word ∷ words) = do
  wish ← wish_of board (word ∷ words)
  Ok (Some wish)

unfoldable pub said_on : Board → List ℕ → Result (Option Wish) LineFault
said_on board line = said_by board (words_of (without_comment line))

abbrev pub is_good : Board → List ℕ → Bool
is_good board line = is_ok (said_on board line)

abbrev pub wish_on : Board → List ℕ → Option Wish
wish_on board line = result_unwrap_or (said_on board line) None

-- the wishes of lines
abbrev pub wishes_in : Board → List (List ℕ) → List Wish
wishes_in board lines = filter_map (wish_on board) lines

-- no wish is about what a later one is about
abbrev pub are_apart : List Wish → Bool
are_apart [] = true
are_apart (wish ∷ later) =
    not (list_any (λ other. is_about (subject_of other) wish) later) && are_apart later

-- each line is blank or a wish, and no two wishes are about the same
abbrev pub is_plan : Board → List (List ℕ) → Bool
is_plan board lines = list_all (is_good board) lines && are_apart (wishes_in board lines)

-- the wishes of such lines
pub record IsPlanOf (board : Board) (lines : List (List ℕ)) (wishes : List Wish) : Type 0 where
  pub good : is_plan board lines ≡ true
  pub wishes_are : wishes ≡ wishes_in board lines

-- wishes and what one line more says, or why that line is bad by itself or below them
abbrev pub with_said : List Wish → Result (Option Wish) LineFault → Result (List Wish) LineFault
with_said wishes (Err why) = Err why
with_said wishes (Ok None) = Ok wishes
with_said wishes (Ok (Some wish)) =
    if is_some (wish_about wishes (subject_of wish)) then Err line_fault.Twice
    else Ok (wishes ++ wish ∷ [])

-- what a line gives, or its fault with the line's number
abbrev pub at_line : {A : Type 0} → ℕ → Result A LineFault → Result A PlanFault
at_line number (Ok x) = Ok x
at_line number (Err why) = Err (record { line = number; why = why })

-- the first bad line: the lines above it are a plan, with it they are none, and this is why
pub record IsFirstBad (board : Board) (lines : List (List ℕ)) (fault : PlanFault) : Type 0 where
  pub above : List (List ℕ)
  pub line : List ℕ
  pub below : List (List ℕ)
  pub parts : lines ≡ above ++ line ∷ below
  pub counted : fault.line ≡ length above + 1
  pub good : is_plan board above ≡ true
  pub bad : is_plan board (above ++ line ∷ []) ≡ false
  pub why : with_said (wishes_in board above) (said_on board line) ≡ Err fault.why

-- the fault of a line below these
abbrev pub fault_at : Board → List (List ℕ) → List ℕ → Option PlanFault
fault_at board above line =
    result_err (at_line (length above + 1) (with_said (wishes_in board above) (said_on board line)))

-- the first fault, where the lines above are a plan, if a line below them is bad
abbrev pub first_bad_below : Board → List (List ℕ) → List (List ℕ) → Option PlanFault
first_bad_below board above [] = None
first_bad_below board above (line ∷ below) =
    if is_plan board (above ++ line ∷ [])
    then first_bad_below board (above ++ line ∷ []) below else fault_at board above line

-- the wishes of lines that are a plan, or the first bad line
abbrev pub plan_unless : List Wish → Option PlanFault → Result (List Wish) PlanFault
plan_unless wishes None = Ok wishes
plan_unless wishes (Some fault) = Err fault

unfoldable pub plan_of : Board → List (List ℕ) → Result (List Wish) PlanFault
plan_of board lines = plan_unless (wishes_in board lines) (first_bad_below board [] lines)

-- a fault is this, unless memory ran out
abbrev pub OnFault : {F : Type 0} → ReadError F → (F → Type 0) → Type 0
OnFault errors.Memory P = Unit {0}
OnFault (errors.Fault fault) P = P fault
