use Rattle.std.proofs.Common.{◌+◌, ℕ, take, sym, subst, ap}
use Rattle.simulator.specs.Machines.{start_state}
use Rattle.simulator.specs.declared.stepping.Stage.{Stage}
use Rattle.breach_search.specs.Harms.{BreaksAtLast}
use Rattle.breach_search.proofs.Places.{element_is}
use Rattle.breach_search.proofs.Watched.{so_far_none, so_far_more, breaks_here, spares}
use Rattle.breach_search.proofs.harm.breach_of.Goals as goal

pub loop-index-init : goal.loop-index-init
loop-index-init c =
    so_far_none c.steps_are_seen.ensures.starts c.accepted_runs_are_admitted.ensures.starts
    c.args.board.now c.args.program.now
    (start_state c.args.from.now.pages.items c.args.from.now.protects.items)
    c.in-Some.stage.machine c.new-watch.result c.board_is_valid.ensures c.program_is_valid.ensures
    (rw c.in-Some.is at c.in_ok-stage.ensures.may) (rw c.in-Some.is at c.in_ok-stage.ensures.first)
    c.new-watch.ensures.none (c.new-watch.ensures.knows c.args.board.now) c.args.answers.now

pub loop-index-preserved : goal.loop-index-preserved
loop-index-preserved c =
    let ticks = ap (λ (s : Stage). s.entry.ticks) c.stage.view_is in
    rw ticks
    (so_far_more c.runs_go_on.ensures.run c.runs_go_on.ensures.ticks c.steps_are_seen.ensures.steps
    c.accepted_runs_are_admitted.ensures.steps c.args.board.now c.args.program.now
    (start_state c.args.from.now.pages.items c.args.from.now.protects.items) c.args.answers.now
    c.loop-index.index c.loop-index.ticks c.loop-index.stage.machine c.is_made.new.stage.machine
    c.loop-index.watch c.is_made.new.watch c.index-answers-index.result c.is_made.new.stage.entry
    c.board_is_valid.ensures c.program_is_valid.ensures c.loop-index.invariant
    (element_is c.args.answers.now c.loop-index.index c.index-answers-index.result
    c.loop-index-test.true c.index-answers-index.is)
    (c.in_ok-is_made.ensures c.if-not-branch.false) c.in_default-found.is)

pub returns-in-Some-found-clause-breaks : goal.returns-in-Some-found-clause-breaks
returns-in-Some-found-clause-breaks c =
    let b = c.args.board.now in
    let p = c.args.program.now in
    let s = start_state c.args.from.now.pages.items c.args.from.now.protects.items in
    let answers = c.args.answers.now in
    let x = c.in-Some-found.found in
    let both =
    breaks_here b p s answers c.loop-index.index c.loop-index.ticks c.loop-index.stage.machine
    c.is_made.new.stage.machine c.loop-index.watch c.is_made.new.watch c.index-answers-index.result
    c.is_made.new.stage.entry x (rw c.in-Some.is at c.in_ok-stage.ensures.may)
    c.loop-index.invariant
    (element_is answers c.loop-index.index c.index-answers-index.result c.loop-index-test.true
    c.index-answers-index.is) (c.in_ok-is_made.ensures c.if-not-branch.false) c.in-Some-found.is in
    subst (λ (n : ℕ). BreaksAtLast b p s (take (n + 1) answers) x.breach) (sym both.0) both.1

pub returns-in-Some-found-clause-spares : goal.returns-in-Some-found-clause-spares
returns-in-Some-found-clause-spares c = λ t table.
    absurd
    (spares c.accepted_runs_keep_rules.ensures c.args.board.now c.args.program.now
    (start_state c.args.from.now.pages.items c.args.from.now.protects.items) c.args.answers.now
    c.loop-index.index c.loop-index.ticks c.loop-index.stage.machine c.is_made.new.stage.machine
    c.loop-index.watch c.is_made.new.watch c.index-answers-index.result c.is_made.new.stage.entry
    c.in-Some-found.found t c.board_is_valid.ensures c.program_is_valid.ensures c.requires.on_board
    c.loop-index.invariant (c.in_ok-is_made.ensures c.if-not-branch.false) c.in-Some-found.is table)
