use Rattle.std.proofs.Common.{Option, Some, inr, subst, sym}
use Rattle.std.specs.Prelude.{IsSomeAnd}
use Rattle.seq_program.specs.declared.instr.Instr.{Instr}
use Rattle.facts.specs.duties.Duties.{IsFirstFailing, duties}
use Rattle.ways.specs.Ways.{row_at}
use Rattle.ways.proofs.Leading.{edges_are}
use Rattle.ways.proofs.search.edges_from.Goals as goal

pub returns-in-Some-duty-clause-breaks : goal.returns-in-Some-duty-clause-breaks
returns-in-Some-duty-clause-breaks c =
    subst (λ (o : Option Instr). IsSomeAnd o
    (λ i. IsFirstFailing c.args.board.now (row_at c.args.step.now) i duties
    (Some c.in-Some-duty.rule)))
    c.in-Some.ensures c.in-Some-duty.ensures

pub returns-clause-leads : goal.returns-clause-leads
returns-clause-leads c =
    inr (edges_are c.args.board.now c.args.program.now c.args.step.now c.in-Some.instr.now
    c.in_ok-edges.field-0.items (sym c.in-Some.ensures) c.in_default-duty.ensures
    c.in_ok-edges.ensures.leads)
