use Rattle.facts.specs.domain.Sets.{is_protect, protects_in}
use Rattle.fact_search.proofs.Rows.Starts.{just, never_none}
use Rattle.fact_search.proofs.starting.protect_set.Goals as goal

pub unreachable-requires : goal.unreachable-requires
unreachable-requires c =
    never_none is_protect protects_in c.in_ok-set.field-0 c.args.values.now c.in_ok-set.ensures
    c.in-None.is c.requires

pub returns : goal.returns
returns c =
    just is_protect protects_in c.in_ok-set.field-0 c.in-Some.set c.args.values.now
    c.in_ok-set.ensures
    c.in-Some.is
