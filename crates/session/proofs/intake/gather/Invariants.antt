use Rattle.session.proofs.Transfers.{HasRead}
use Rattle.session.proofs.intake.gather.Given as goal

abbrev pub invariant-loop : goal.invariant-loop
invariant-loop g l =
    HasRead (g.R.Read.remaining l.initial.reader)
    (g.R.Read.remaining l.reader) l.input.bytes.items l.input.too_large
