use Rattle.std.proofs.Common.{◌≡◌, ◌++◌, drop, map, string_bytes}
use Rattle.sarif.specs.Messages.{facts_text}
use Rattle.sarif.proofs.message.push_facts.Given as goal

abbrev pub invariant-loop-fact : goal.invariant-loop-fact
invariant-loop-fact l =
    string_bytes l.text ++ facts_text (map string_bytes (drop l.fact-index l.facts))
    ≡ string_bytes l.fn.text ++ facts_text (map string_bytes l.facts)
