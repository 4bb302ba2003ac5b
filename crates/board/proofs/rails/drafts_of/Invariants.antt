use Rattle.std.proofs.Common.{◌≡◌}
use Rattle.board.specs.Elements.{tables_left}
use Rattle.board.specs.Named.{named_view, no_named}
use Rattle.board.specs.Rails.{drafts_of}
use Rattle.board.specs.DraftViews.{drafts_view}
use Rattle.board.proofs.rails.drafts_of.Given as goal

abbrev pub invariant-loop-table : goal.invariant-loop-table
invariant-loop-table l =
    drafts_of (named_view l.targets) (drafts_view l.drafts) (tables_left l.table-iterator)
    ≡ drafts_of (named_view l.targets) no_named (tables_left l.fn.tables)
