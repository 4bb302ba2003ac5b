use Rattle.std.proofs.Common.{◌≡◌, ◌∙◌, ap, length, true, sym}
use Rattle.seq_program.specs.PassViews.{labels_view}
use Rattle.seq_program.specs.Programs.{ends}
use Rattle.seq_program.proofs.ValidPrograms.{is_program}
use Rattle.seq_program.proofs.program.read_program.Goals as goal

pub invariant_of-result : goal.invariant_of-result
invariant_of-result c =
    let labels = labels_view c.in_ok-labels.labels in
    let ended : ends labels c.in_ok-pass.pass.instrs.items ≡ true =
    ap (ends labels) (sym c.deref.ensures.value) ∙ sym c.ends.ensures ∙ c.if-not-ends.false in
    is_program (length c.args.board.now.targets) labels c.in_ok-pass.pass.instrs.items
    c.in_ok-pass.ensures.said.0 c.in_ok-pass.ensures.said.1
    (c.in_ok-pass.ensures.said.2 c.in_default.is) ended
