use Rattle.std.proofs.Common.{◌≡◌, []}
use Rattle.board.specs.Elements.{texts_left}
use Rattle.board.specs.Named.{names}
use Rattle.board.specs.Rails.{needs_of}
use Rattle.board.proofs.rails.needs_of.Given as goal

abbrev pub invariant-loop-name : goal.invariant-loop-name
invariant-loop-name l =
    needs_of (names l.rails) l.rail l.needs.items (texts_left l.name-iterator)
    ≡ needs_of (names l.rails) l.rail [] (texts_left l.fn.texts)
