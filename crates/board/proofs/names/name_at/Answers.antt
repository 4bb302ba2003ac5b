use Rattle.std.proofs.Common.{◌∙◌, sym, ap, Some, option_map, string_bytes}
use Rattle.std.proofs.lemmas.Option.{slice_get-map}
use Rattle.board.proofs.names.name_at.Goals as goal

pub returns : goal.returns
returns c =
    ap Some c.as_str.ensures.value
    ∙ ap (option_map string_bytes) c.in_ok-get_index.ensures.key
    ∙ sym (slice_get-map string_bytes c.args.set.now.keys c.args.index)
