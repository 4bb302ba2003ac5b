use Rattle.std.proofs.Common.{◌≡◌, ◌++◌, drop, map}
use Rattle.serde_json.specs.View.{view}
use Rattle.sarif.specs.Logs.{named, results_of}
use Rattle.sarif.proofs.log.results_of.Given as goal

abbrev pub invariant-loop-named : goal.invariant-loop-named
invariant-loop-named l =
    map view l.results.items ++ results_of (map named (drop l.named-index l.notes))
    ≡ results_of (map named l.notes)
