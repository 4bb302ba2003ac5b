use Rattle.std.proofs.Common.{◌<◌, ℕ, slice_index_or}
use Rattle.facts.specs.declared.domain.span.Span.{Span}
use Rattle.table_check.specs.text.Writable.{IsWordSpan}
use Rattle.table_check.proofs.text.typed.are_word_spans.Given as goal

abbrev pub invariant-loop-span : goal.invariant-loop-span
invariant-loop-span l =
    (k : ℕ) (d : Span) → k < l.span-index → IsWordSpan (slice_index_or l.spans k d)
