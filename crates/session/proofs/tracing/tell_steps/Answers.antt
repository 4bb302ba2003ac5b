use Rattle.std.proofs.Common.{◌∙◌, rules, sym, subst, ap}
use Rattle.simulator.specs.declared.fault.RunFault.{RunFault}
use Rattle.simulator.specs.Faults.{IsStepFault}
use Rattle.simulator.specs.Machines.{Machine}
use Rattle.simulator.specs.declared.stepping.Stage.{Stage}
use Rattle.run_monitor.specs.Monitors.{HasSeen}
use Rattle.session.specs.Reports.{telling_of}
use Rattle.session.proofs.Told.{IsOneMore, leaves, told_to_more, told_to_end, told_to_halt}
use Rattle.session.proofs.Watching.{watched_start, watched_step, watched_end, watched_fault}
use Rattle.session.proofs.tracing.tell_steps.Goals as goal

pub loop-stage-init : goal.loop-stage-init
loop-stage-init c =
    let s = c.args.scenario.now in
    let at = c.requires.at_start in
    record {
      told = search rules;
      watched = watched_start c.steps_are_seen.ensures.starts
          c.accepted_runs_are_admitted.ensures.starts s c.args.stage.machine c.args.watch.now
          c.board_is_valid.ensures c.program_is_valid.ensures at.may_start at.first c.requires.none
          (c.requires.knows s.board) c.answers-answers.result c.answers-answers.ensures.all
          c.answers-answers.ensures.few;
    }

pub loop-stage-preserved : goal.loop-stage-preserved
loop-stage-preserved c =
    let same = ap (λ (s : Stage). s.entry.ticks) c.stage-in-Some.view_is in
    let told =
    subst (λ e. IsOneMore c.loop-stage.report e c.add.new.self)
    (ap (λ (s : Stage). s.entry) c.stage-in-Some.view_is) c.in_ok-add.ensures in
    let s = c.args.scenario.now in
    let machine = ap (λ (s : Stage). s.machine) c.stage.view_is in
    let seen = subst (λ (m : Machine). HasSeen s.board s.program m c.in-Some.answer
    c.loop-stage.index c.loop-stage.watch c.see.new.self) machine c.in_ok-see.ensures in
    let taken = rw c.in-Some.is at c.in_ok-answer.ensures.taken in
    rw same
    (record {
      told = told_to_more c.runs_go_on.ensures.run c.runs_go_on.ensures.ticks
          (telling_of c.args.report.now) c.args.scenario.now c.loop-stage.answers c.next.new.self
          c.loop-stage.index c.loop-stage.ticks c.loop-stage.stage.machine
          c.step.new.self.machine
          c.loop-stage.report c.add.new.self c.in-Some.answer c.step.new.self.entry
          c.loop-stage.invariant.told taken
          (record {
            step = c.in_default-step.ensures.step;
            machine = c.in_default-step.ensures.machine;
            seen = c.in_default-step.ensures.seen;
            within = c.in_default-step.ensures.within;
          }) told;
      watched = watched_step c.runs_go_on.ensures.run c.runs_go_on.ensures.ticks
          c.runs_are_one.ensures.runs c.steps_are_seen.ensures.steps
          c.accepted_runs_are_admitted.ensures.steps c.accepted_runs_keep_rules.ensures
          c.args.scenario.now c.loop-stage.answers c.next.new.self c.loop-stage.index
          c.loop-stage.ticks c.loop-stage.stage.machine c.step.new.self.machine
          c.loop-stage.watch
          c.see.new.self c.in-Some.answer c.step.new.self.entry c.board_is_valid.ensures
          c.program_is_valid.ensures c.requires.on_board c.loop-stage.invariant.watched taken
          seen
          (record {
            step = c.in_default-step.ensures.step;
            machine = c.in_default-step.ensures.machine;
            seen = c.in_default-step.ensures.seen;
            within = c.in_default-step.ensures.within;
          });
    })

pub returns-clause-told : goal.returns-clause-told
returns-clause-told c =
    let taken = rw c.in_default.is at c.in_ok-answer.ensures.taken in
    rw (ap (λ (s : Stage). s.machine.ended) c.stage.view_is)
    (told_to_end (telling_of c.args.report.now) c.args.scenario.now c.loop-stage.answers
    c.loop-stage.index c.loop-stage.ticks c.loop-stage.stage.machine c.loop-stage.report
    c.loop-stage.invariant.told taken.0 c.requires.at_start.may_start)

pub returns-clause-found : goal.returns-clause-found
returns-clause-found c =
    let taken = rw c.in_default.is at c.in_ok-answer.ensures.taken in
    watched_end c.args.scenario.now c.loop-stage.answers c.loop-stage.index c.loop-stage.ticks
    c.loop-stage.stage.machine c.loop-stage.watch c.loop-stage.invariant.watched taken.0

pub returns-in-Err-clause-halt : goal.returns-in-Err-clause-halt
returns-in-Err-clause-halt c = λ real.
    let s = c.args.scenario.now in
    let same = c.at.ensures.fault in
    let taken = rw c.in-Some.is at c.in_ok-answer.ensures.taken in
    let why = c.in-Err.ensures.fault (λ none. real (same ∙ none)) in
    told_to_halt (telling_of c.args.report.now) s c.loop-stage.answers c.next.new.self
    c.loop-stage.index c.loop-stage.ticks c.loop-stage.stage.machine c.loop-stage.report
    c.in-Some.answer c.at.result c.loop-stage.invariant.told taken c.requires.at_start.may_start
    (subst (λ (f : RunFault). IsStepFault s.board s.program c.loop-stage.stage.machine
    c.in-Some.answer c.loop-stage.ticks c.loop-stage.index f) (sym same) why)
    (leaves c.loop-stage.stage c.step.new.self c.in-Some.answer c.in-Err.fault c.at.result same
    c.in-Err.ensures.stays c.at.ensures.stop)

pub returns-in-Err-clause-found_before : goal.returns-in-Err-clause-found_before
returns-in-Err-clause-found_before c = λ real.
    let s = c.args.scenario.now in
    let taken = rw c.in-Some.is at c.in_ok-answer.ensures.taken in
    let machine = ap (λ (s : Stage). s.machine) c.stage.view_is in
    let seen = subst (λ (m : Machine). HasSeen s.board s.program m c.in-Some.answer
    c.loop-stage.index c.loop-stage.watch c.see.new.self) machine c.in_ok-see.ensures in
    watched_fault c.runs_are_one.ensures.runs c.runs_are_one.ensures.steps
    c.accepted_runs_keep_rules.ensures s c.loop-stage.answers c.next.new.self c.loop-stage.index
    c.loop-stage.ticks c.loop-stage.stage.machine c.loop-stage.watch c.see.new.self
    c.in-Some.answer c.in-Err.fault c.board_is_valid.ensures c.program_is_valid.ensures
    c.requires.on_board c.loop-stage.invariant.watched taken seen
    (c.in-Err.ensures.fault (λ none. real (c.at.ensures.fault ∙ none)))
