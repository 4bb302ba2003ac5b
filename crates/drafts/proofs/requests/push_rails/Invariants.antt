use Rattle.std.proofs.Common.{◌≡◌, ◌++◌, flat_map, drop}
use Rattle.drafts.specs.Requests.{rail_requests}
use Rattle.drafts.proofs.requests.push_rails.Given as goal

-- the messages so far, and those that are left, are all
abbrev pub invariant-loop-rail : goal.invariant-loop-rail
invariant-loop-rail l =
    l.requests.items
    ++ flat_map (rail_requests l.board l.plan.wishes.items) (drop l.rail-index l.order)
    ≡ l.fn.requests.items ++ flat_map (rail_requests l.board l.plan.wishes.items) l.order
