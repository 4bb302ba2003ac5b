use Rattle.smbus.proofs.PiecesRead.{new_kept}
use Rattle.smbus.proofs.observer.Observer.new.Goals as goal

pub invariant_of-result : goal.invariant_of-result
invariant_of-result c = new_kept c.new.result.items c.new.ensures.items
