use Rattle.std.proofs.Common.{◌≡◌, ◌∙◌, not}
use Rattle.pmbus_table.specs.Status.{reported_good}
use Rattle.pmbus_table.proofs.StatusBits.{good_by_mask, first_test, second_test}
use Rattle.pmbus_table.proofs.status.reported_good.Goals as goal

pub returns-then-not-contains : goal.returns-then-not-contains
returns-then-not-contains c =
    let good : not c.contains-then-not-contains.result ≡ reported_good c.args.word =
    second_test c.args.word _ _ (c.contains.ensures tt)
    (c.contains-then-not-contains.ensures tt) c.if-not-contains.true in
    record { value = good; mask = good ∙ good_by_mask c.args.word }

pub returns-else-not-contains : goal.returns-else-not-contains
returns-else-not-contains c =
    let good : not c.contains.result ≡ reported_good c.args.word =
    first_test c.args.word _ (c.contains.ensures tt) c.if-not-contains.false in
    record { value = good; mask = good ∙ good_by_mask c.args.word }
