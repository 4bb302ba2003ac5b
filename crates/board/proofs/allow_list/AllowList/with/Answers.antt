use Rattle.std.proofs.Common.{◌∙◌, ap, sym, map}
use Rattle.board.specs.Boards.{has_entry}
use Rattle.board.specs.EntryKeys.{key_of}
use Rattle.board.proofs.FoundEntries.{kept_entry}
use Rattle.board.proofs.allow_list.AllowList.with.Goals as goal

pub invariant_of-result : goal.invariant_of-result
invariant_of-result c =
    let a = c.args.entry in
    let new = ap (has_entry a.form a.code) c.self.view_is ∙ c.requires in
    c.in_ok-insert_full.ensures.keys
    ∙ kept_entry a c.form.result c.code.result c.self.inside.entries.items c.self.inside.keys.keys
    c.new.result c.new.ensures c.form.ensures c.code.ensures.code c.code.ensures.bare
    c.self.invariant new
    ∙ sym (ap (map key_of) c.in_ok-push.ensures.items)
