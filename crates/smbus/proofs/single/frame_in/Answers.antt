use Rattle.std.proofs.Common.{[], ◌∷◌}
use Rattle.smbus.proofs.single.frame_in.Goals as goal

pub returns-in_default-clause-none : goal.returns-in_default-clause-none
returns-in_default-clause-none c frame only =
    let none = rw c.in_default.is at c.in_ok-frames.ensures.none in
    none (frame ∷ []) only.is
