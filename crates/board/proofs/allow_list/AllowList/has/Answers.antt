use Rattle.std.proofs.Common.{◌∙◌, ap}
use Rattle.std.specs.List.{list_any}
use Rattle.board.specs.Boards.{has_entry}
use Rattle.board.specs.EntryKeys.{same_key}
use Rattle.board.proofs.FoundEntries.{found}
use Rattle.board.proofs.allow_list.AllowList.has.Goals as goal

pub returns : goal.returns
returns c =
    c.contains.ensures
    ∙ ap (λ k. list_any (same_key k) c.self.inside.keys.keys) c.new.ensures
    ∙ found c.args.form c.args.code c.self.inside.entries.items c.self.inside.keys.keys
    c.self.invariant
    ∙ ap (has_entry c.args.form c.args.code) c.self.view_is
