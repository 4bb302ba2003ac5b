use Rattle.std.proofs.Common.{◌∙◌, sym, ◌&&◌, ◌==◌, rules, tests}
use Rattle.std.proofs.lemmas.Iterator.{YieldsList-from_slice}
use Rattle.std.proofs.lemmas.Iterator.Search.{any_from_yields_List}
use Rattle.board.specs.Rails.{RailDraft}
use Rattle.board.specs.DraftViews.{draft_view}
use Rattle.board.proofs.Lists.{list_any-map}
use Rattle.board.proofs.rails.has_page.Goals as goal

pub returns : goal.returns
returns c =
    any_from_yields_List (λ s. s.target == c.args.target && s.page == c.args.page) _ _ c.any.result
    c.any.ensures.ran (YieldsList-from_slice c.args.drafts.now cc)
    (λ x b q k. search (rules, tests))
    ∙ sym (list_any-map
    (λ (s : RailDraft). s.target == c.args.target && s.page == c.args.page) draft_view
    c.args.drafts.now)
