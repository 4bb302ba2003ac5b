use Rattle.std.proofs.Common.{◌≡◌, [], map, drop}
use Rattle.texts.specs.Hex.{pair_of}
use Rattle.table_check.specs.text.Saying.{ascending}
use Rattle.table_check.proofs.text.set_line.ascending_bytes.Given as goal

abbrev pub invariant-loop-word : goal.invariant-loop-word
invariant-loop-word l =
    ascending pair_of l.bytes.items l.least (map (λ w. w.now) (drop l.word-index l.words))
    ≡ ascending pair_of [] 0 (map (λ w. w.now) l.words)
