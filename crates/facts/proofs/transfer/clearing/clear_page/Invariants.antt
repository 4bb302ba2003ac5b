use Rattle.std.proofs.Common.{◌≡◌, length}
use Rattle.facts.specs.transfer.Edges.{forget, is_page_of}
use Rattle.facts.specs.domain.Mapped.{mapped}
use Rattle.facts.proofs.transfer.clearing.clear_page.Given as goal

abbrev pub invariant-loop-index : goal.invariant-loop-index
invariant-loop-index l =
    (l.sources ≡ mapped (forget (is_page_of l.target)) l.index l.fn.sources)
    × (length l.fn.sources ≡ 8)
