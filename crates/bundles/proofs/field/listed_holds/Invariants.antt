use Rattle.std.proofs.Common.{◌≡◌, ◌≤◌, [], drop, map, All}
use Rattle.bundles.specs.HoldsRead.{holds_from}
use Rattle.bundles.proofs.field.listed_holds.Given as goal

abbrev pub invariant-loop-part : goal.invariant-loop-part
invariant-loop-part l = record {
  value : holds_from l.holds.items (map (λ x. x.now) (drop l.part-index l.parts))
      ≡ holds_from [] (map (λ x. x.now) l.parts);
  held : All (λ hold. hold ≤ 6999) l.holds.items;
}
