use Rattle.session.proofs.drafting.body_of.Goals as goal

pub returns-in-Ok-clause-drafted : goal.returns-in-Ok-clause-drafted
returns-in-Ok-clause-drafted c = record {
  wishes = c.in_ok-plan.plan.wishes.items;
  plan = c.in_ok-plan.ensures.plan;
  draft = c.in-Ok.draft;
  drafted = c.in-Ok.ensures.draft;
}
