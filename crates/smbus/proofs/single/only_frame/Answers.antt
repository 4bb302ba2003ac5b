use Rattle.std.proofs.Common.{[], ◌∷◌}
use Rattle.smbus.proofs.single.only_frame.Goals as goal

pub returns-in-Err-NotFrames-clause-none : goal.returns-in-Err-NotFrames-clause-none
returns-in-Err-NotFrames-clause-none c = λ frame only.
    let none = rw c.in-Err-NotFrames.field-0-is at c.in-Err-NotFrames.ensures.none in
    none (λ e. cc) (frame ∷ []) only.is
