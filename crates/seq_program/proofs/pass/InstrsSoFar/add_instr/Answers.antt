use Rattle.std.proofs.Common.{arith}
use Rattle.seq_program.specs.PassViews.{labels_view}
use Rattle.seq_program.proofs.ValidPrograms.{one_more, lands_more, is_known_if}
use Rattle.seq_program.proofs.pass.InstrsSoFar.add_instr.Goals as goal

pub returns-then-not-said-clause-said : goal.returns-then-not-said-clause-said
returns-then-not-said-clause-said c =
    let more = one_more _ _ _ _ c.in_ok-push.ensures.items (omega arith) c.requires.said.1
    c.in_ok-said.ensures.fits in (more.0, more.1, λ none. absurd cc)

pub returns-else-not-said-clause-said : goal.returns-else-not-said-clause-said
returns-else-not-said-clause-said c =
    let more = one_more _ _ _ _ c.in_ok-push.ensures.items (omega arith) c.requires.said.1
    c.in_ok-said.ensures.fits in (
      more.0,
      more.1,
      λ none. lands_more (labels_view c.args.labels.now) _ _ _ c.in_ok-push.ensures.items
          (c.requires.said.2 none) (c.in_ok-said.ensures.lands (is_known_if _ c.if-not-said.false)),
    )
