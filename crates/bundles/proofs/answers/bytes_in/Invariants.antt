use Rattle.std.proofs.Common.{◌≡◌, ◌++◌, drop, map, option_map}
use Rattle.bundles.specs.Answers.{bytes_in}
use Rattle.bundles.proofs.answers.bytes_in.Given as goal

abbrev pub invariant-loop-part : goal.invariant-loop-part
invariant-loop-part l =
    option_map (λ more. l.bytes.items ++ more)
    (bytes_in (map (λ x. x.now) (drop l.part-index l.parts))) ≡ bytes_in (map (λ x. x.now) l.parts)
