use Rattle.std.proofs.Common.{◌≡◌, length}
use Rattle.facts.specs.transfer.Edges.{forget, is_status_of}
use Rattle.facts.specs.domain.Mapped.{mapped}
use Rattle.facts.specs.duties.Touching.{touched_in}
use Rattle.facts.proofs.transfer.withdrawing.clear_status.Given as goal

abbrev pub invariant-loop-index : goal.invariant-loop-index
invariant-loop-index l =
    (l.sources
    ≡ mapped (forget (is_status_of (touched_in l.board l.pages l.target))) l.index l.fn.sources)
    × (length l.fn.sources ≡ 8)
