use Rattle.std.proofs.Common.{◌≡◌}
use Rattle.facts.specs.domain.Sets.{rails_in}
use Rattle.program_lints.specs.Lints.{leaning}
use Rattle.program_lints.proofs.need_loss.leaning.Given as goal

abbrev pub invariant-loop-round : goal.invariant-loop-round
invariant-loop-round l = rails_in l.rails ≡ leaning l.board l._round l.fn.need
