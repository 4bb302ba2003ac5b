use Rattle.std.proofs.Common.{◌∙◌, refl, sym, arith}
use Rattle.facts.specs.domain.Rows.{row_view}
use Rattle.facts.proofs.Belongs.EachTargets.{false_true}
use Rattle.facts.proofs.Belongs.MisfitOrder.{all_fit, first_of, more, none_below}
use Rattle.facts.proofs.well_formed.misfitting.first_misfit.Goals as goal

pub returns-then-not-has_each_set-clause-first : goal.returns-then-not-has_each_set-clause-first
returns-then-not-has_each_set-clause-first c =
    let b = c.args.board.now in
    let row = row_view c.args.row.now in
    let below-0 = none_below b row in
    first_of b row 0 0 refl below-0 (
      (λ fits. false_true (sym c.if-not-has_each_set.true ∙ c.has_each_set.ensures.1 fits)),
      (λ m lt. absurd (omega (arith, lt))),
    )

pub returns-in-Some-clause-first : goal.returns-in-Some-clause-first
returns-in-Some-clause-first c =
    let b = c.args.board.now in
    let row = row_view c.args.row.now in
    let below-0 = none_below b row in
    let below-1 =
    more b row 0 below-0 (λ n. c.has_each_set.ensures.0 c.if-not-has_each_set.false) in
    first_of b row 1 c.in-Some.target refl below-1 c.in-Some.ensures

pub returns-in-Some-foreign_protects-clause-first :
    goal.returns-in-Some-foreign_protects-clause-first
returns-in-Some-foreign_protects-clause-first c =
    let b = c.args.board.now in
    let row = row_view c.args.row.now in
    let below-0 = none_below b row in
    let below-1 =
    more b row 0 below-0 (λ n. c.has_each_set.ensures.0 c.if-not-has_each_set.false) in
    let below-2 = more b row 1 below-1 c.in_default.ensures in
    first_of b row 2 c.in-Some-foreign_protects.target refl below-2
    c.in-Some-foreign_protects.ensures

pub returns-in-Some-foreign_rail-clause-first : goal.returns-in-Some-foreign_rail-clause-first
returns-in-Some-foreign_rail-clause-first c =
    let b = c.args.board.now in
    let row = row_view c.args.row.now in
    let below-0 = none_below b row in
    let below-1 =
    more b row 0 below-0 (λ n. c.has_each_set.ensures.0 c.if-not-has_each_set.false) in
    let below-2 = more b row 1 below-1 c.in_default.ensures in
    let below-3 = more b row 2 below-2 c.in_default-foreign_protects.ensures in
    first_of b row 3 c.in-Some-foreign_rail.rail refl below-3 c.in-Some-foreign_rail.ensures

pub returns-in-Some-empty_span-clause-first : goal.returns-in-Some-empty_span-clause-first
returns-in-Some-empty_span-clause-first c =
    let b = c.args.board.now in
    let row = row_view c.args.row.now in
    let below-0 = none_below b row in
    let below-1 =
    more b row 0 below-0 (λ n. c.has_each_set.ensures.0 c.if-not-has_each_set.false) in
    let below-2 = more b row 1 below-1 c.in_default.ensures in
    let below-3 = more b row 2 below-2 c.in_default-foreign_protects.ensures in
    let below-4 = more b row 3 below-3 c.in_default-foreign_rail.ensures in
    first_of b row 4 c.in-Some-empty_span.register refl below-4 c.in-Some-empty_span.ensures.first

pub returns-in-Some-foreign_source-clause-first : goal.returns-in-Some-foreign_source-clause-first
returns-in-Some-foreign_source-clause-first c =
    let b = c.args.board.now in
    let row = row_view c.args.row.now in
    let below-0 = none_below b row in
    let below-1 =
    more b row 0 below-0 (λ n. c.has_each_set.ensures.0 c.if-not-has_each_set.false) in
    let below-2 = more b row 1 below-1 c.in_default.ensures in
    let below-3 = more b row 2 below-2 c.in_default-foreign_protects.ensures in
    let below-4 = more b row 3 below-3 c.in_default-foreign_rail.ensures in
    let below-5 = more b row 4 below-4 c.in_default-empty_span.ensures.first in
    first_of b row 5 c.in-Some-foreign_source.register refl below-5 c.in-Some-foreign_source.ensures

pub returns-in-Some-empty_span-2-clause-first : goal.returns-in-Some-empty_span-2-clause-first
returns-in-Some-empty_span-2-clause-first c =
    let b = c.args.board.now in
    let row = row_view c.args.row.now in
    let below-0 = none_below b row in
    let below-1 =
    more b row 0 below-0 (λ n. c.has_each_set.ensures.0 c.if-not-has_each_set.false) in
    let below-2 = more b row 1 below-1 c.in_default.ensures in
    let below-3 = more b row 2 below-2 c.in_default-foreign_protects.ensures in
    let below-4 = more b row 3 below-3 c.in_default-foreign_rail.ensures in
    let below-5 = more b row 4 below-4 c.in_default-empty_span.ensures.first in
    let below-6 = more b row 5 below-5 c.in_default-foreign_source.ensures in
    first_of b row 6 c.in-Some-empty_span-2.counter refl below-6
    c.in-Some-empty_span-2.ensures.first

pub returns-then-row-clause-first : goal.returns-then-row-clause-first
returns-then-row-clause-first c =
    let b = c.args.board.now in
    let row = row_view c.args.row.now in
    let below-0 = none_below b row in
    let below-1 =
    more b row 0 below-0 (λ n. c.has_each_set.ensures.0 c.if-not-has_each_set.false) in
    let below-2 = more b row 1 below-1 c.in_default.ensures in
    let below-3 = more b row 2 below-2 c.in_default-foreign_protects.ensures in
    let below-4 = more b row 3 below-3 c.in_default-foreign_rail.ensures in
    let below-5 = more b row 4 below-4 c.in_default-empty_span.ensures.first in
    let below-6 = more b row 5 below-5 c.in_default-foreign_source.ensures in
    let below-7 = more b row 6 below-6 c.in_default-empty_span-2.ensures.first in
    first_of b row 7 0 refl below-7 (
      (λ fits. let gt = c.if-row.true in absurd (omega (arith, fits, gt))),
      (λ m lt. absurd (omega (arith, lt))),
    )

pub returns-then-row-contentions-clause-first : goal.returns-then-row-contentions-clause-first
returns-then-row-contentions-clause-first c =
    let b = c.args.board.now in
    let row = row_view c.args.row.now in
    let below-0 = none_below b row in
    let below-1 =
    more b row 0 below-0 (λ n. c.has_each_set.ensures.0 c.if-not-has_each_set.false) in
    let below-2 = more b row 1 below-1 c.in_default.ensures in
    let below-3 = more b row 2 below-2 c.in_default-foreign_protects.ensures in
    let below-4 = more b row 3 below-3 c.in_default-foreign_rail.ensures in
    let below-5 = more b row 4 below-4 c.in_default-empty_span.ensures.first in
    let below-6 = more b row 5 below-5 c.in_default-foreign_source.ensures in
    let below-7 = more b row 6 below-6 c.in_default-empty_span-2.ensures.first in
    let below-8 = more b row 7 below-7 (λ n. omega (arith, c.if-row.false)) in
    first_of b row 8 0 refl below-8 (
      (λ fits. let gt = c.if-row-contentions.true in let most = c.contentions.ensures in
          absurd (omega (arith, fits, gt, most))),
      (λ m lt. absurd (omega (arith, lt))),
    )

pub returns-in-Some-many_turns-clause-first : goal.returns-in-Some-many_turns-clause-first
returns-in-Some-many_turns-clause-first c =
    let b = c.args.board.now in
    let row = row_view c.args.row.now in
    let below-0 = none_below b row in
    let below-1 =
    more b row 0 below-0 (λ n. c.has_each_set.ensures.0 c.if-not-has_each_set.false) in
    let below-2 = more b row 1 below-1 c.in_default.ensures in
    let below-3 = more b row 2 below-2 c.in_default-foreign_protects.ensures in
    let below-4 = more b row 3 below-3 c.in_default-foreign_rail.ensures in
    let below-5 = more b row 4 below-4 c.in_default-empty_span.ensures.first in
    let below-6 = more b row 5 below-5 c.in_default-foreign_source.ensures in
    let below-7 = more b row 6 below-6 c.in_default-empty_span-2.ensures.first in
    let below-8 = more b row 7 below-7 (λ n. omega (arith, c.if-row.false)) in
    let below-9 =
    more b row 8 below-8 (λ n. omega (arith, c.if-row-contentions.false, c.contentions.ensures)) in
    first_of b row 9 c.in-Some-many_turns.counter refl below-9 c.in-Some-many_turns.ensures

pub returns-else-has_few_ticks-clause-first : goal.returns-else-has_few_ticks-clause-first
returns-else-has_few_ticks-clause-first c =
    let b = c.args.board.now in
    let row = row_view c.args.row.now in
    let below-0 = none_below b row in
    let below-1 =
    more b row 0 below-0 (λ n. c.has_each_set.ensures.0 c.if-not-has_each_set.false) in
    let below-2 = more b row 1 below-1 c.in_default.ensures in
    let below-3 = more b row 2 below-2 c.in_default-foreign_protects.ensures in
    let below-4 = more b row 3 below-3 c.in_default-foreign_rail.ensures in
    let below-5 = more b row 4 below-4 c.in_default-empty_span.ensures.first in
    let below-6 = more b row 5 below-5 c.in_default-foreign_source.ensures in
    let below-7 = more b row 6 below-6 c.in_default-empty_span-2.ensures.first in
    let below-8 = more b row 7 below-7 (λ n. omega (arith, c.if-row.false)) in
    let below-9 =
    more b row 8 below-8 (λ n. omega (arith, c.if-row-contentions.false, c.contentions.ensures)) in
    let below-10 = more b row 9 below-9 c.in_default-many_turns.ensures in
    first_of b row 10 0 refl below-10 (
      (λ fits. false_true (sym c.if-has_few_ticks.false ∙ c.has_few_ticks.ensures.1 fits)),
      (λ m lt. absurd (omega (arith, lt))),
    )

pub returns-then-has_few_ticks-clause-first : goal.returns-then-has_few_ticks-clause-first
returns-then-has_few_ticks-clause-first c =
    let b = c.args.board.now in
    let row = row_view c.args.row.now in
    let below-0 = none_below b row in
    let below-1 =
    more b row 0 below-0 (λ n. c.has_each_set.ensures.0 c.if-not-has_each_set.false) in
    let below-2 = more b row 1 below-1 c.in_default.ensures in
    let below-3 = more b row 2 below-2 c.in_default-foreign_protects.ensures in
    let below-4 = more b row 3 below-3 c.in_default-foreign_rail.ensures in
    let below-5 = more b row 4 below-4 c.in_default-empty_span.ensures.first in
    let below-6 = more b row 5 below-5 c.in_default-foreign_source.ensures in
    let below-7 = more b row 6 below-6 c.in_default-empty_span-2.ensures.first in
    let below-8 = more b row 7 below-7 (λ n. omega (arith, c.if-row.false)) in
    let below-9 =
    more b row 8 below-8 (λ n. omega (arith, c.if-row-contentions.false, c.contentions.ensures)) in
    let below-10 = more b row 9 below-9 c.in_default-many_turns.ensures in
    let below-11 =
    more b row 10 below-10 (λ n. c.has_few_ticks.ensures.0 c.if-has_few_ticks.true) in
    all_fit b row below-11

pub returns-then-has_few_ticks-clause-words : goal.returns-then-has_few_ticks-clause-words
returns-then-has_few_ticks-clause-words c = λ none. c.in_default-empty_span.ensures.words refl
