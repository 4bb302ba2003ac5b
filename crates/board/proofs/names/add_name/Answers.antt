use Rattle.std.proofs.Common.{◌∙◌, ap, map, string_bytes}
use Rattle.board.proofs.NewNames.{new_name_last}
use Rattle.board.proofs.names.add_name.Goals as goal

pub returns-clause-ok : goal.returns-clause-ok
returns-clause-ok c =
    ap (map string_bytes) c.in_ok-insert_full.ensures.keys
    ∙ new_name_last c.in_ok-from_str.field-0 c.args.name.now c.args.set.now.keys
    c.in_ok-from_str.ensures.ok c.requires
