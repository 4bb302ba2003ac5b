use Rattle.std.proofs.Common.{◌≡◌, ℕ, Bool, false, length, Some, subst, ap}
use Rattle.std.proofs.Common.{arith}
use Rattle.facts.specs.domain.Sets.{Set, rails_in}
use Rattle.run_monitor.specs.Telling.{TellsAfter}
use Rattle.run_monitor.proofs.Gained.{one_more, still_rails, none_above}
use Rattle.run_monitor.proofs.judging.good_after.Goals as goal

pub loop-index-init : goal.loop-index-init
loop-index-init c =
    let none : (d : ℕ) → rails_in c.empty-after.result d ≡ false =
    λ d. ap (λ (s : Set). s d) c.empty-after.ensures in
    (λ d lt in'. absurd (omega (arith, lt)), λ d t. absurd (cc (none d, t)), λ d le. none d)

pub loop-index-preserved : goal.loop-index-preserved
loop-index-preserved c =
    let b = c.args.board.now in
    let old : Set = rails_in c.loop-index.after in
    let new : Set = rails_in c.with_good-after.result in
    let i = c.loop-index.index in
    let good = c.is_rail_good-is_good.result in
    let T : ℕ → Bool → Bool → Type 0 =
    TellsAfter b c.args.state.now (Some c.args.message.now) c.args.answer.now in (
      one_more T (length b.rails) (rails_in c.args.good) old new i good c.loop-index.invariant.0
          (c.loop-index.invariant.2 i (omega arith)) c.with_good-after.ensures
          (λ lt. subst (λ x. T i x good) c.contains-was_good.ensures
          (c.is_rail_good-is_good.ensures.tells lt)),
      still_rails (length b.rails) old new i good c.loop-index.invariant.1 c.with_good-after.ensures
          c.is_rail_good-is_good.ensures.rail,
      none_above old new i good c.loop-index.invariant.2 c.with_good-after.ensures,
    )

pub returns-clause-tells : goal.returns-clause-tells
returns-clause-tells c = λ d lt.
    let few = c.board_is_valid.ensures.few_rails in
    let end = c.loop-index-test.false in
    c.loop-index.invariant.0 d (omega (arith, lt, few, end)) lt

pub returns-clause-rails : goal.returns-clause-rails
returns-clause-rails c = c.loop-index.invariant.1
