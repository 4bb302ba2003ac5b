use Rattle.facts.specs.domain.Sets.{rails_in}
use Rattle.run_monitor.proofs.Judged.{nothing_known}
use Rattle.run_monitor.proofs.monitor.Monitor.new.Goals as goal

pub returns-clause-knows : goal.returns-clause-knows
returns-clause-knows c = λ b. nothing_known b (rails_in c.empty.result) c.empty.ensures
