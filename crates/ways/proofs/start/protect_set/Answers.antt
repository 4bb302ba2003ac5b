use Rattle.std.proofs.Common.{◌∙◌, ap, sym}
use Rattle.std.specs.Prelude.{option_map}
use Rattle.std.proofs.lemmas.List.Elements.{All-contains_itself}
use Rattle.facts.specs.domain.Sets.{protects_in}
use Rattle.ways.proofs.start.protect_set.Goals as goal

pub returns-in-Some : goal.returns-in-Some
returns-in-Some c = record {
  chosen = c.args.values.now;
  from = All-contains_itself c.args.values.now;
  is = sym c.in_ok-set.ensures ∙ ap (option_map protects_in) c.in-Some.is;
}
