use Rattle.run_monitor.proofs.Stored.{eight}
use Rattle.run_monitor.proofs.known.register_spans.Goals as goal

pub returns : goal.returns
returns c =
    cc (
      eight c.args.registers.now c.told-registers,
      c.one.ensures,
      c.one-2.ensures,
      c.one-3.ensures,
      c.one-4.ensures,
      c.one-5.ensures,
      c.one-6.ensures,
      c.one-7.ensures,
      c.one-8.ensures,
    )
