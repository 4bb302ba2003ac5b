use Rattle.std.proofs.Common.{◌∙◌, sym, string_bytes}
use Rattle.std.specs.Str.{bytes_eq}
use Rattle.board.proofs.Lists.{list_any-map}
use Rattle.board.proofs.names.has_name.Goals as goal

pub returns : goal.returns
returns c =
    c.contains.ensures
    ∙ sym (list_any-map (bytes_eq c.args.name.now) string_bytes c.args.set.now.keys)
