use Rattle.std.proofs.Common.{◌≤◌, ◌<◌, ◌∙◌, [], sym, subst}
use Rattle.table_check.specs.text.Saying.{rail_named}
use Rattle.table_check.proofs.AscendingWords.{one_more_left, no_value_left, too_small_left}
use Rattle.table_check.proofs.AscendingWords.{none_left}
use Rattle.table_check.proofs.text.set_line.ascending_rails.Goals as goal

pub loop-name-preserved : goal.loop-name-preserved
loop-name-preserved c =
    rw (c.in_ok-push.ensures.items, c.from-least.ensures) (
    one_more_left c.args.names.now c.loop-name.name-index (record { ref_ptr = (0, 0); now = [] })
    (λ w. w.now) (rail_named c.args.board.now)
    c.loop-name.rails.items c.loop-name.least c.in-Some.rail
    c.loop-name-test.true (sym c.rail_named.ensures ∙ c.in-Some.is)
    (subst (λ n. c.loop-name.least ≤ n) c.from.ensures c.if-from-least.false)
    ∙ c.loop-name.invariant)

pub returns-in_default : goal.returns-in_default
returns-in_default c =
    no_value_left c.args.names.now c.loop-name.name-index (record { ref_ptr = (0, 0); now = [] })
    (λ w. w.now) (rail_named c.args.board.now)
    c.loop-name.rails.items c.loop-name.least
    c.loop-name-test.true (sym c.rail_named.ensures ∙ c.in_default.is)
    ∙ c.loop-name.invariant

pub returns-then-from-least : goal.returns-then-from-least
returns-then-from-least c =
    too_small_left c.args.names.now c.loop-name.name-index (record { ref_ptr = (0, 0); now = [] })
    (λ w. w.now) (rail_named c.args.board.now)
    c.loop-name.rails.items c.loop-name.least c.in-Some.rail
    c.loop-name-test.true (sym c.rail_named.ensures ∙ c.in-Some.is)
    (subst (λ n. n < c.loop-name.least) c.from.ensures c.if-from-least.true)
    ∙ c.loop-name.invariant

pub returns : goal.returns
returns c =
    none_left c.args.names.now c.loop-name.name-index (λ w. w.now)
    (rail_named c.args.board.now) c.loop-name.rails.items
    c.loop-name.least c.loop-name-test.false
    ∙ c.loop-name.invariant
