use Rattle.std.proofs.Common.{◌<◌, arith}
use Rattle.std.proofs.lemmas.List.Elements.{All-from_get_or}
use Rattle.simulator.proofs.machine.registers_are_words.Goals as goal

pub returns : goal.returns
returns c =
    All-from_get_or (λ word. word < 65536) _ 0 (λ i _. omega (arith, c.type_inv.registers i))
