use Rattle.std.proofs.Common.{◌≡◌, [], arith, subst, take}
use Rattle.std.specs.Io.KnownBytes.{Consumes}
use Rattle.session.proofs.Transfers.{read_more, read_all, kept_whole}
use Rattle.session.proofs.intake.gather.Goals as goal

pub returns-in-Ok-eq0-clause-kept : goal.returns-in-Ok-eq0-clause-kept
returns-in-Ok-eq0-clause-kept g c =
    let none : take c.in-Ok-eq0.field-0 c.read.new.buf ≡ [] = rw c.in-Ok-eq0.field-0-test in
    read_all _ (g.R.Read.remaining c.loop.reader)
    (g.R.Read.remaining c.read.new.self) _ _ c.loop.invariant
    (subst (Consumes (g.R.Read.remaining c.loop.reader) (g.R.Read.remaining c.read.new.self)) none
    c.in-Ok-eq0.ensures.bytes.0)
    (c.in-Ok-eq0.ensures.bytes.1 c.in-Ok-eq0.field-0-test (omega arith))

pub returns-in-Ok-eq0-clause-all : goal.returns-in-Ok-eq0-clause-all
returns-in-Ok-eq0-clause-all g c =
    let none : take c.in-Ok-eq0.field-0 c.read.new.buf ≡ [] = rw c.in-Ok-eq0.field-0-test in
    kept_whole _ (g.R.Read.remaining c.loop.reader)
    (g.R.Read.remaining c.read.new.self) _ _ c.loop.invariant
    (subst (Consumes (g.R.Read.remaining c.loop.reader) (g.R.Read.remaining c.read.new.self)) none
    c.in-Ok-eq0.ensures.bytes.0)
    (c.in-Ok-eq0.ensures.bytes.1 c.in-Ok-eq0.field-0-test (omega arith))

pub returns-in-Ok-eq0-clause-ended : goal.returns-in-Ok-eq0-clause-ended
returns-in-Ok-eq0-clause-ended g c =
    c.in-Ok-eq0.ensures.bytes.1 c.in-Ok-eq0.field-0-test (omega arith)

pub loop-preserved : goal.loop-preserved
loop-preserved g c =
    read_more _ (g.R.Read.remaining c.loop.reader) (g.R.Read.remaining c.read.new.self) _ _ _ _ _
    c.loop.invariant c.in-Ok.ensures.bytes.0 c.in_ok-keep-in-Ok.ensures
