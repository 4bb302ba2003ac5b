use Rattle.std.proofs.Common.{◌≡◌, ◌<◌, ℕ}
use Rattle.facts.specs.declared.domain.source.Source.TheVariants as source
use Rattle.facts.specs.domain.Rows.{source_at}
use Rattle.facts.proofs.well_formed.starting.naming_source.Given as goal

abbrev pub invariant-loop-place : goal.invariant-loop-place
invariant-loop-place l = (n : ℕ) → n < l.place → source_at l.sources n ≡ source.None
