use Rattle.std.proofs.Common.{◌∙◌, ◌||◌, ℕ, List, sym, ap, not, position, string_bytes, rules}
use Rattle.std.proofs.Common.{tests}
use Rattle.std.specs.Map.{keys_of}
use Rattle.std.proofs.lemmas.Iterator.Consumers.{YieldsList-from_rest}
use Rattle.std.proofs.lemmas.Iterator.Search.{position_from_yields_List}
use Rattle.board.specs.Keys.{is_known}
use Rattle.board.proofs.KnownKeys.{names_in-keys}
use Rattle.board.proofs.Places.{position-map}
use Rattle.board.proofs.keys.first_unknown.Goals as goal

pub returns : goal.returns
returns c =
    let needed = c.args.needed.now in
    let optional = c.args.optional.now in
    let entries = c.args.table.now.entries in
    position_from_yields_List
    (λ k. not (is_known needed (string_bytes k) || is_known optional (string_bytes k)))
    _ _ c.position.result c.position.ensures.ran (YieldsList-from_rest _ c.keys.ensures.rest)
    (λ x b q k. search (rules, tests))
    ∙ sym (position-map (λ (n : List ℕ). not (is_known needed n || is_known optional n))
    string_bytes (keys_of entries))
    ∙ sym (ap (position (λ (n : List ℕ). not (is_known needed n || is_known optional n)))
    (names_in-keys entries))
