use Rattle.smbus.specs.Machine.{reading_of}
use Rattle.smbus.proofs.PiecesRead.{frames_of_parts}
use Rattle.smbus.proofs.observing.frames_of.Goals as goal

pub returns : goal.returns
returns c =
    frames_of_parts c.args.first.now c.args.later.now (reading_of c.new-reading.result)
    (reading_of c.read.new.self) (reading_of c.read-2.new.self) c.in_ok-read.field-0
    c.in_ok-read-2.field-0 c.requires.whole c.new-reading.ensures c.in_ok-read.ensures
    c.in_ok-read-2.ensures
