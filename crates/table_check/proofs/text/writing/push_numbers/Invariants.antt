use Rattle.std.proofs.Common.{◌≡◌, ◌++◌, drop, map, string_bytes}
use Rattle.std.specs.Fmt.{decimal}
use Rattle.table_check.specs.text.Written.{all_spaced}
use Rattle.table_check.proofs.text.writing.push_numbers.Given as goal

abbrev pub invariant-loop-number : goal.invariant-loop-number
invariant-loop-number l =
    string_bytes l.text ++ all_spaced (map decimal (drop l.number-index l.numbers))
    ≡ string_bytes l.fn.text ++ all_spaced (map decimal l.numbers)
