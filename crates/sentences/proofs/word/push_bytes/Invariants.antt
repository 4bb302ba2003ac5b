use Rattle.std.proofs.Common.{◌≡◌, ◌++◌, drop}
use Rattle.std.specs.Prelude.{string_bytes}
use Rattle.std.specs.List.{flat_map}
use Rattle.texts.specs.Hex.{pair_text}
use Rattle.sentences.proofs.word.push_bytes.Given as goal

abbrev pub invariant-loop-byte : goal.invariant-loop-byte
invariant-loop-byte l =
    string_bytes l.text
    ++ flat_map (λ byte. l.between ++ (l.before ++ pair_text byte)) (drop l.byte-index l.rest)
    ≡ string_bytes l.initial.text
    ++ flat_map (λ byte. l.between ++ (l.before ++ pair_text byte)) l.rest
