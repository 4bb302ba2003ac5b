use Rattle.std.proofs.Common.{inl, arith}
use Rattle.board.proofs.Counts.{tables_few}
use Rattle.board.proofs.file.check_size.Goals as goal

pub count-targets-requires-clause-fits : goal.count-targets-requires-clause-fits
count-targets-requires-clause-fits c =
    inl (omega (arith, tables_few c.tables_at.result.values.now))

pub count-requires-clause-fits : goal.count-requires-clause-fits
count-requires-clause-fits c = inl (omega (arith, tables_few c.tables_at-2.result.values.now))
