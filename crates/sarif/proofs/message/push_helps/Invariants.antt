use Rattle.std.proofs.Common.{◌≡◌, ◌++◌, drop, map, string_bytes}
use Rattle.sarif.specs.Messages.{helps_text}
use Rattle.sarif.proofs.message.push_helps.Given as goal

abbrev pub invariant-loop-help : goal.invariant-loop-help
invariant-loop-help l =
    string_bytes l.text ++ helps_text (map string_bytes (drop l.help-index l.helps))
    ≡ string_bytes l.fn.text ++ helps_text (map string_bytes l.helps)
