use Rattle.std.proofs.Common.{◌≡◌, ◌++◌, Bor, List, ℕ, drop, map}
use Rattle.sentences.specs.Rails.{names_of}
use Rattle.sentences.proofs.rails.names_of.Given as goal

abbrev pub invariant-loop-rail : goal.invariant-loop-rail
invariant-loop-rail l =
    map (λ (n : Bor (List ℕ)). n.now) l.names.items ++ names_of l.board (drop l.rail-index l.rails)
    ≡ names_of l.board l.rails
