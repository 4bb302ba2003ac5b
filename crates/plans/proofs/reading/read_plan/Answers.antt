use Rattle.std.proofs.Common.{rules, arith}
use Rattle.texts.specs.Words.{lines_by_feed}
use Rattle.plans.specs.Plans.{IsFirstBad, OnFault}
use Rattle.plans.proofs.LinesRead.{good_line, fault_line}
use Rattle.plans.proofs.PlanRead.{all_read, fault_read, on_err, gives_err}
use Rattle.plans.proofs.reading.read_plan.Goals as goal

fault_of : (c : goal.After-drop-plan) → OnFault c.in_err-add_line.field-0.0
    (λ fault. IsFirstBad c.args.board.now (lines_by_feed c.args.text.now) fault)
fault_of c =
    fault_line c.args.board.now _ _ _ c.in-Some.line.now c.loop-line.number _
    c.in_err-add_line.field-0.0 c.loop-line.invariant.read c.in-Some.ensures.lines
    c.in_err-add_line.ensures.value

pub returns-in_err-add_line-clause-value : goal.returns-in_err-add_line-clause-value
returns-in_err-add_line-clause-value c =
    gives_err _ c.from_residual.result c.in_err-add_line.field-0.0 _ c.from_residual.ensures.1
    (fault_read c.args.board.now _ c.in_err-add_line.field-0.0 (fault_of c))

pub returns-in_err-add_line-clause-fault : goal.returns-in_err-add_line-clause-fault
returns-in_err-add_line-clause-fault c =
    on_err c.from_residual.result c.in_err-add_line.field-0.0 _ c.from_residual.ensures.1
    (fault_of c)

pub loop-line-preserved : goal.loop-line-preserved
loop-line-preserved c = record {
  text = search rules;
  few = omega (arith, c.in-Some.ensures.shorter);
  read =
      good_line c.args.board.now _ _ _ c.in-Some.line.now c.loop-line.number _ _
      c.loop-line.invariant.read c.in-Some.ensures.lines c.in_ok-add_line.ensures.value;
  fits = c.in_ok-add_line.ensures.fits;
}

pub returns-clause-value : goal.returns-clause-value
returns-clause-value c =
    all_read c.args.board.now _ _ c.loop-line.number _ c.loop-line.invariant.read
    c.in_default.ensures.lines
