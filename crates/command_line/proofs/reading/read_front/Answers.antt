use Rattle.command_line.specs.declared.reading.TheConstants.{MOST_READ}
use Rattle.command_line.proofs.Taken.{taken}
use Rattle.command_line.proofs.reading.read_front.Goals as goal

pub returns : goal.returns
returns g c =
    taken g.R.Read.remaining c.take.result.limit MOST_READ c.take.result.inner c.args.reader
    c.new-bytes.result.items c.read_to_end.new.buf.items c.take.ensures.limit
    c.take.ensures.inner c.new-bytes.ensures.items c.in_ok-read_to_end.ensures.bytes
