use Rattle.std.proofs.Common.{◌≡◌, ◌++◌, drop, string_bytes}
use Rattle.std.specs.List.{flat_map}
use Rattle.smbus.specs.Text.{repeated_words, spaced}
use Rattle.smbus.proofs.text.push_repeated.Given as goal

abbrev pub invariant-loop-segment : goal.invariant-loop-segment
invariant-loop-segment l =
    string_bytes l.text ++ spaced (flat_map repeated_words (drop l.segment-index l.segments))
    ≡ string_bytes l.fn.text ++ spaced (flat_map repeated_words l.segments)
