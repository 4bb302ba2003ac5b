use Rattle.std.proofs.Common.{◌∙◌, sym, string_bytes}
use Rattle.std.specs.Str.{bytes_eq}
use Rattle.board.proofs.Places.{position-map}
use Rattle.board.proofs.names.place_of.Goals as goal

pub returns : goal.returns
returns c =
    c.get_index_of.ensures.index
    ∙ sym (position-map (bytes_eq c.args.name.now) string_bytes c.args.set.now.keys)
