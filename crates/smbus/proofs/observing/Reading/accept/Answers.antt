use Rattle.std.proofs.Common.{Some, sym, ap}
use Rattle.smbus.proofs.observing.Reading.accept.Goals as goal

pub returns-in-None : goal.returns-in-None
returns-in-None c =
    rw (c.in-Start.is, c.in-None.is) (sym (ap Some (c.new.ensures c.args.self.now.frames.items)))
