use Rattle.targets.proofs.ValueOut.{value_out}
use Rattle.targets.proofs.ValueBytes.{value_byte}
use Rattle.targets.proofs.effect.value_goes_out.Goals as goal

pub returns-clause-marks : goal.returns-clause-marks
returns-clause-marks c address code value w =
    rw c.goes_past_value.ensures
    (value_out c.args.message.now c.args.answer.now value w.form w.content)

pub returns-clause-bytes : goal.returns-clause-bytes
returns-clause-bytes c address code value w =
    rw c.goes_past_value.ensures
    (value_byte address code value c.args.message.now c.args.answer.now w)
