use Rattle.std.proofs.Common.{◌∙◌, sym, ap, not, position, rules, tests}
use Rattle.std.proofs.lemmas.Iterator.{YieldsList-from_slice}
use Rattle.std.proofs.lemmas.Iterator.Search.{position_from_yields_List}
use Rattle.toml.specs.Data.{Data}
use Rattle.toml.specs.View.{view}
use Rattle.board.specs.Keys.{is_one}
use Rattle.board.proofs.Counts.{list_of-map}
use Rattle.board.proofs.Places.{position-map}
use Rattle.board.proofs.keys.other_in.Goals as goal

pub returns : goal.returns
returns c =
    position_from_yields_List (λ v. not (is_one c.args.sort (view v))) _ _ c.position.result
    c.position.ensures.ran (YieldsList-from_slice c.args.values.now cc)
    (λ x b q k. search (rules, tests))
    ∙ sym (position-map (λ (d : Data). not (is_one c.args.sort d)) view c.args.values.now)
    ∙ sym (ap (position (λ (d : Data). not (is_one c.args.sort d))) (list_of-map c.args.values.now))
