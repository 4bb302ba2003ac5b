use Rattle.std.proofs.Common.{◌≡◌, ◌&&◌, drop}
use Rattle.std.specs.Prelude.{map}
use Rattle.wires.specs.Levels.{level_of}
use Rattle.wires.specs.declared.lines.Sample.{Sample}
use Rattle.wires.proofs.lines.wired.Given as goal

abbrev pub invariant-loop-each : goal.invariant-loop-each
invariant-loop-each l =
    (l.lines.scl && level_of (map (λ (s : Sample). s.scl) (drop l.each-index l.driven))
    ≡ level_of (map (λ (s : Sample). s.scl) l.driven))
    × (l.lines.sda && level_of (map (λ (s : Sample). s.sda) (drop l.each-index l.driven))
    ≡ level_of (map (λ (s : Sample). s.sda) l.driven))
    × (l.lines.alert && level_of (map (λ (s : Sample). s.alert) (drop l.each-index l.driven))
    ≡ level_of (map (λ (s : Sample). s.alert) l.driven))
