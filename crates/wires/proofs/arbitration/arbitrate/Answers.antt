use Rattle.std.proofs.Common.{◌≡◌, ◌<◌, [], drop, ◌∙◌, arith}
use Rattle.std.proofs.lemmas.List.{drop_all, append-nil}
use Rattle.std.proofs.lemmas.List.Elements.{All-from_get_or}
use Rattle.wires.proofs.BitByBit.{is_wire_byte}
use Rattle.wires.proofs.arbitration.arbitrate.Goals as goal

pub returns-clause-wire : goal.returns-clause-wire
returns-clause-wire c =
    (is_wire_byte c.args.sent.now c.in-Some.least (All-from_get_or (λ b. b < 256) _ 0
    (λ i _. omega (arith, c.type_inv.sent i))) c.in-Some.ensures.1 c.in-Some.ensures.0).0

pub returns-clause-winners : goal.returns-clause-winners
returns-clause-winners c =
    let w = (is_wire_byte c.args.sent.now c.in-Some.least (All-from_get_or (λ b. b < 256) _ 0
    (λ i _. omega (arith, c.type_inv.sent i))) c.in-Some.ensures.1 c.in-Some.ensures.0).1 in
    let d : drop c.loop-sender.sender c.args.sent.now ≡ [] =
    drop_all _ _ c.loop-sender-test.false in
    let i = rw (d, append-nil) at c.loop-sender.invariant in
    i ∙ w
