-- What a draft keeps to.
use Rattle.std.specs.Prelude.{◌≡◌, List, None}
use Rattle.board.specs.Boards.{Board}
use Rattle.plans.specs.declared.wish.Wish.{Wish}
use Rattle.drafts.specs.declared.part.Draft.{Draft}
use Rattle.drafts.specs.Requests.{first_refused}
use Rattle.drafts.specs.Limits.{first_over}
use Rattle.drafts.specs.Outline.{outline}
use Rattle.drafts.specs.Faults.{IsOrderOn}

-- the rails stand in their order, all that is sent is permitted, no voltage is over its limit, and
-- the parts are those of the outline
pub record IsDraft (b : Board) (wishes : List Wish) (draft : Draft) : Type 0 where
  pub order : IsOrderOn b wishes draft.order.items
  pub permitted : first_refused b wishes draft.order.items ≡ None
  pub within : first_over b wishes draft.order.items ≡ None
  pub parts : draft.parts.items ≡ outline b wishes draft.order.items
