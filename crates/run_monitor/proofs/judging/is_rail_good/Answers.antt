use Rattle.std.proofs.Common.{ℕ, Some, subst}
use Rattle.run_monitor.specs.Telling.{TellsAfter}
use Rattle.run_monitor.proofs.judging.is_rail_good.Goals as goal

pub returns-then-rail-rails-clause-tells : goal.returns-then-rail-rails-clause-tells
returns-then-rail-rails-clause-tells c = λ lt.
    let P : ℕ → Type 0 = λ d. TellsAfter c.args.board.now c.args.state.now
    (Some c.args.message.now) c.args.answer.now d c.args.was_good c.is_good_after.result in
    subst P c.from-rail.ensures c.is_good_after.ensures
