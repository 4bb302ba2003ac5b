use Rattle.std.proofs.Common.{◌≡◌, [], drop, map}
use Rattle.board.specs.Named.{names}
use Rattle.board.specs.Rails.{rails_of}
use Rattle.board.specs.DraftViews.{draft_view}
use Rattle.board.proofs.rails.rails_of.Given as goal

abbrev pub invariant-loop-draft : goal.invariant-loop-draft
invariant-loop-draft l =
    rails_of (names l.drafts.names) l.rails.items
    (map draft_view (drop l.draft-index l.draft-items))
    ≡ rails_of (names l.drafts.names) [] (map draft_view l.drafts.items.items)
