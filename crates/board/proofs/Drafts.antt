-- A rail more.
use Rattle.std.proofs.Common.{◌≡◌, ◌∙◌, ℕ, List, ap, map}
use Rattle.board.specs.declared.named.Named.{Named as CodeNamed}
use Rattle.board.specs.declared.rails.RailDraft.{RailDraft as CodeDraft}
use Rattle.board.specs.Named.{Named, named_view, with_item}
use Rattle.board.specs.Rails.{RailDraft}
use Rattle.board.specs.DraftViews.{draft_view, drafts_view}
use Rattle.board.proofs.Lists.{map-push}

abbrev seen : Named CodeDraft → Named RailDraft
seen n = record { names = n.names; items = map draft_view n.items }

pub draft_pushed : (old new : CodeNamed CodeDraft) (name : List ℕ) (s : CodeDraft)
    → named_view new ≡ with_item name s (named_view old)
    → drafts_view new ≡ with_item name (draft_view s) (drafts_view old)
draft_pushed old new name s e =
    ap seen e ∙ ap (λ (items : List RailDraft). record {
      names = (with_item name s (named_view old)).names;
      items = items;
    }) (map-push draft_view old.items.items s)
