-- Why no program is drafted.
use Rattle.std.specs.Prelude.{◌≡◌, ℕ, List, length, Some, None}
use Rattle.texts.specs.declared.reading.ReadError.{ReadError}
use Rattle.texts.specs.declared.reading.ReadError.TheVariants as errors
use Rattle.smbus.specs.declared.message.Form.{Form}
use Rattle.board.specs.Boards.{Board}
use Rattle.plans.specs.declared.wish.Wish.{Wish}
use Rattle.drafts.specs.declared.fault.Undraftable.{Undraftable}
use Rattle.drafts.specs.declared.fault.Undraftable.TheVariants as faults
use Rattle.drafts.specs.declared.request.Request.{Request}
use Rattle.drafts.specs.Waiting.{waits_for}
use Rattle.drafts.specs.Orders.{IsOrder, IsFirstNeverReady}
use Rattle.drafts.specs.Requests.{first_refused, IsSent}
use Rattle.drafts.specs.Limits.{first_over}

-- the order of the board's rails in which each stands behind those that it waits for
abbrev pub IsOrderOn : Board → List Wish → List ℕ → Type 0
IsOrderOn b wishes order = IsOrder (waits_for b wishes) (length b.rails) order

-- the rail is the first that no order can place
abbrev pub IsCircle : Board → List Wish → ℕ → Type 0
IsCircle b wishes rail = IsFirstNeverReady (waits_for b wishes) (length b.rails) rail

-- of what a program in the order sends, this is the first that no entry permits
abbrev pub IsFirstRefused : Board → List Wish → List ℕ → ℕ → Form → ℕ → Type 0
IsFirstRefused b wishes order target form code =
    (r : Request) × ((first_refused b wishes order ≡ Some r) × IsSent target form code r)

-- all that it sends is permitted, and of its rails this is the first whose voltage is over its
-- limit
pub record IsFirstOver (b : Board) (wishes : List Wish) (order : List ℕ) (rail : ℕ) : Type 0 where
  pub permitted : first_refused b wishes order ≡ None
  pub over : first_over b wishes order ≡ Some rail

-- the first fault, unless memory ran out: there is no order, or in the order the program has one
abbrev pub IsFault : Board → List Wish → ReadError Undraftable → Type 0
IsFault b wishes errors.Memory = Unit {0}
IsFault b wishes (errors.Fault (faults.Circle rail)) = IsCircle b wishes rail
IsFault b wishes (errors.Fault (faults.NoEntry target form code)) =
    (order : List ℕ)
    × (IsOrderOn b wishes order × IsFirstRefused b wishes order target form code)
IsFault b wishes (errors.Fault (faults.OverLimit rail)) =
    (order : List ℕ) × (IsOrderOn b wishes order × IsFirstOver b wishes order rail)
