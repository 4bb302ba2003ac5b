use Rattle.facts.specs.domain.Sets.{rails_in}
use Rattle.program_lints.proofs.Changed.{not_empty}
use Rattle.program_lints.proofs.changes.turned_off.Goals as goal

pub returns-in_default : goal.returns-in_default
returns-in_default c = λ d t. absurd (not_empty (rails_in c.empty.result) d c.empty.ensures t)

pub returns-then-enables : goal.returns-then-enables
returns-then-enables c = λ d t.
    absurd (not_empty (rails_in c.empty-then-enables.result) d c.empty-then-enables.ensures t)
