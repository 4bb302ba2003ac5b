use Rattle.targets.proofs.NextStates.{answers_have_states}
use Rattle.targets.proofs.law.answers_have_states.Goals as goal

pub returns : goal.returns
returns c = answers_have_states c.lowest_address_wins.ensures.some c.lowest_address_wins.ensures.one
