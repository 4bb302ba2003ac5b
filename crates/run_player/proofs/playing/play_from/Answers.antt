use Rattle.std.proofs.Common.{rules, arith, ap, subst, ◌≡◌, ◌<◌, ◌∷◌, [], length, length-append}
use Rattle.simulator.specs.Machines.{start_state}
use Rattle.simulator.specs.declared.machine.Ending.{Ending}
use Rattle.simulator.specs.declared.machine.Ending.TheVariants.{Running}
use Rattle.simulator.specs.declared.stepping.Stage.{Stage}
use Rattle.run_player.specs.Plays.{IsPlayedFrom}
use Rattle.run_player.specs.declared.playing.TheConstants.{MOST_STEPS}
use Rattle.run_player.proofs.Going.{so_far_more, so_far_ends}
use Rattle.run_player.proofs.playing.play_from.Goals as goal

pub returns-in_default : goal.returns-in_default
returns-in_default c =
    let running : c.loop-answers.stage.machine.ended ≡ Running = search rules in
    subst (λ (e : Ending). IsPlayedFrom c.args.values.now.board.now c.args.program.now
    (start_state c.args.pages.now c.args.protects.now) c.loop-answers.answers.items e) running
    (so_far_ends c.args.values.now.board.now c.args.program.now
    (start_state c.args.pages.now c.args.protects.now) c.loop-answers.answers.items
    c.loop-answers.ticks c.loop-answers.stage.machine c.loop-answers.invariant)

pub loop-answers-smaller : goal.loop-answers-smaller
loop-answers-smaller c =
    let lt : length c.loop-answers.answers.items < MOST_STEPS =
    omega (arith, c.len.ensures, c.if-len-lt-MOST_STEPS.true) in
    omega (
      arith,
      ap length c.in_ok-push.ensures.items,
      length-append c.loop-answers.answers.items (c.in-Some.answer ∷ []),
    )

pub loop-answers-preserved : goal.loop-answers-preserved
loop-answers-preserved c =
    let ticks = ap (λ (s : Stage). s.entry.ticks) c.stage-in-loop-answers.view_is in
    let lt : length c.loop-answers.answers.items < MOST_STEPS =
    omega (arith, c.len.ensures, c.if-len-lt-MOST_STEPS.true) in
    let step = rw c.in-Some.is at c.in_ok-step.ensures.step in
    rw (c.in_ok-push.ensures.items, ticks)
    (so_far_more c.runs_go_on.ensures.run c.runs_go_on.ensures.ticks
    c.args.values.now.board.now c.args.program.now
    (start_state c.args.pages.now c.args.protects.now) c.loop-answers.answers.items
    c.loop-answers.ticks c.loop-answers.stage.machine c.play_step.new.stage.machine
    c.in-Some.answer c.play_step.new.stage.entry c.loop-answers.invariant lt step)

pub returns : goal.returns
returns c =
    rw (ap (λ (s : Stage). s.machine.ended) c.stage.view_is)
    (so_far_ends c.args.values.now.board.now c.args.program.now
    (start_state c.args.pages.now c.args.protects.now) c.loop-answers.answers.items
    c.loop-answers.ticks c.loop-answers.stage.machine c.loop-answers.invariant)
