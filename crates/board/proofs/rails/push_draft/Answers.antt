use Rattle.board.proofs.Drafts.{draft_pushed}
use Rattle.board.proofs.rails.push_draft.Goals as goal

pub returns-clause-ok : goal.returns-clause-ok
returns-clause-ok c =
    draft_pushed c.args.drafts.now c.push.new.self c.args.name.now c.args.draft
    c.in_ok-push.ensures.ok
