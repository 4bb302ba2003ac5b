use Rattle.facts.specs.domain.Sets.{rails_in}
use Rattle.program_lints.proofs.Changed.{not_empty}
use Rattle.program_lints.proofs.changes.voltages_set.Goals as goal

pub returns-in_default : goal.returns-in_default
returns-in_default c = λ d t. absurd (not_empty (rails_in c.empty.result) d c.empty.ensures t)

pub returns-then-to-write : goal.returns-then-to-write
returns-then-to-write c = λ d t.
    absurd (not_empty (rails_in c.empty-then-to-write.result) d c.empty-then-to-write.ensures t)
