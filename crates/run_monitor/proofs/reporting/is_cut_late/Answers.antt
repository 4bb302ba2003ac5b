use Rattle.std.proofs.Common.{length, sym, ◌∙◌}
use Rattle.bit_bus.specs.Levels.{first_cut}
use Rattle.smbus.specs.Protocol.{marks_of, whole}
use Rattle.smbus.specs.Slots.{plan_of}
use Rattle.run_monitor.proofs.Slots.{cut_in_stop, marks_before_stop}
use Rattle.run_monitor.proofs.reporting.is_cut_late.Goals as goal

pub returns-in-Some : goal.returns-in-Some
returns-in-Some c =
    let m = c.args.message.now in
    let a = c.args.answer.now in
    cut_in_stop (length (marks_of (whole m a.value a.bytes))) c.in-Some.slot
    (first_cut (plan_of m a)) (marks_before_stop m a.value a.bytes c.requires)
    (sym c.cut_of.ensures ∙ c.in-Some.is)
