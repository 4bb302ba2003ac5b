use Rattle.std.proofs.Common.{◌<◌, ◌≤◌, ℕ}
use Rattle.facts.specs.declared.domain.span.Span.{Span}
use Rattle.facts.specs.domain.Rows.{span_at}
use Rattle.seq_program.specs.declared.instr.TheConstants.{MOST_TURNS}
use Rattle.facts.proofs.well_formed.misfitting.many_turns.Given as goal

abbrev pub invariant-loop-place : goal.invariant-loop-place
invariant-loop-place l = (n : ℕ) → n < l.place → Span.hi (span_at l.spans n) ≤ MOST_TURNS
