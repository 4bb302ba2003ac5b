use Rattle.std.proofs.Common.{◌∙◌, ap, sym, position, slice_get, option_map, List, Bor}
use Rattle.board.specs.Boards.{Allow, entry_of}
use Rattle.board.specs.EntryKeys.{same_key}
use Rattle.board.proofs.FoundEntries.{entry_none, entry_some}
use Rattle.board.proofs.allow_list.AllowList.get.Goals as goal

pub returns-in_err-place : goal.returns-in_err-place
returns-in_err-place c =
    let at = sym (ap (λ k. position (same_key k) c.self.inside.keys.keys) c.new.ensures)
    ∙ sym c.get_index_of.ensures.index ∙ c.in_err-place.was in
    ap (option_map (λ (a : Bor Allow). a.now)) c.from_residual.ensures
    ∙ sym (entry_none c.args.form c.args.code c.self.inside.entries.items c.self.inside.keys.keys
    c.self.invariant at)
    ∙ ap (entry_of c.args.form c.args.code) c.self.view_is

pub returns : goal.returns
returns c =
    let at = sym (ap (λ k. position (same_key k) c.self.inside.keys.keys) c.new.ensures)
    ∙ sym c.get_index_of.ensures.index ∙ c.in_ok-place.was in
    c.entry_at.ensures
    ∙ ap (λ (xs : List Allow). slice_get xs c.in_ok-place.place) c.as_slice.ensures.value
    ∙ sym (entry_some c.args.form c.args.code c.self.inside.entries.items c.self.inside.keys.keys
    c.in_ok-place.place c.self.invariant at)
    ∙ ap (entry_of c.args.form c.args.code) c.self.view_is
