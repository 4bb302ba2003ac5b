-- The code's rails whose needs aren't judged yet.
use Rattle.std.specs.Prelude.{map}
use Rattle.board.specs.declared.named.Named.{Named as CodeNamed}
use Rattle.board.specs.declared.rails.RailDraft.{RailDraft as CodeDraft}
use Rattle.board.specs.Elements.{texts_left}
use Rattle.board.specs.Named.{Named, names}
use Rattle.board.specs.Rails.{RailDraft}

abbrev pub draft_view : CodeDraft → RailDraft
draft_view s = record {
  target = s.target;
  page = s.page;
  limit_uv = s.limit_uv;
  needs = texts_left s.needs;
}

abbrev pub drafts_view : CodeNamed CodeDraft → Named RailDraft
drafts_view n = record { names = names n.names; items = map draft_view n.items.items }
