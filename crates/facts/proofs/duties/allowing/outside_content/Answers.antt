use Rattle.std.proofs.Common.{None, sym, subst}
use Rattle.seq_program.specs.Requests.{Block}
use Rattle.seq_program.specs.RequestViews.{content_view}
use Rattle.facts.specs.domain.Rows.{row_view}
use Rattle.facts.specs.duties.Blaming.{FindsOutside}
use Rattle.facts.proofs.duties.allowing.outside_content.Goals as goal

pub returns-in-Block : goal.returns-in-Block
returns-in-Block c =
    let row = row_view c.args.row.now in
    let e = c.args.entry.now in
    let found = c.outside_block.result in
    subst (λ k. FindsOutside row e (content_view k) None found) (sym c.in-Block.is)
    (subst (λ bytes. FindsOutside row e (Block bytes) None found) c.bytes.ensures.bytes
    (c.outside_block.ensures row))
