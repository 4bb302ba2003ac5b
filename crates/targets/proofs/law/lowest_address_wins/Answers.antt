use Rattle.targets.proofs.Winner.{some_target_wins, one_target_wins, lowest_address_wins}
use Rattle.targets.proofs.law.lowest_address_wins.Goals as goal

pub returns-clause-some : goal.returns-clause-some
returns-clause-some c = some_target_wins c.least_byte_wins.ensures

pub returns-clause-one : goal.returns-clause-one
returns-clause-one c = one_target_wins

pub returns-clause-lowest : goal.returns-clause-lowest
returns-clause-lowest c = lowest_address_wins c.least_byte_wins.ensures
