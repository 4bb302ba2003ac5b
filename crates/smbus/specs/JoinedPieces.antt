-- How a stream is cut into pieces doesn't matter.
use Rattle.std.specs.Prelude.{◌≡◌, ℕ, List, [], ◌∷◌, ◌++◌}
use Rattle.wires.specs.declared.event.Event.{Event}
use Rattle.smbus.specs.Shown.{Shown}
use Rattle.smbus.specs.Observers.{IsObserving, IsStopped, IsTaken, Observing}

-- two pieces that are taken one after the other are taken as one: the same frames, joined
abbrev pub PiecesJoin : Type 0
PiecesJoin = (a b c : Observing) (first later : List Event) (frames others : List Shown)
    → IsTaken a first frames b → IsTaken b later others c
    → IsTaken a (first ++ later) (frames ++ others) c

-- where the second of two pieces doesn't go on, they don't as one, at the same place
abbrev pub StopsJoin : Type 0
StopsJoin = (a b : Observing) (first later : List Event) (frames : List Shown) (place : ℕ)
    → IsObserving a → IsTaken a first frames b → IsStopped b later place
    → IsStopped a (first ++ later) place

-- a piece has one list of frames at most, and leaves one observer
abbrev pub PiecesAreUnique : Type 0
PiecesAreUnique = (a b c : Observing) (piece : List Event) (frames others : List Shown)
    → IsTaken a piece frames b → IsTaken a piece others c → (others ≡ frames) × (c ≡ b)

-- a frame begins in one piece and ends in the next, and another piece doesn't go on
abbrev pub SomeAreTaken : Type 0
SomeAreTaken = (a b c : Observing) × (first later stray : List Event) × (frame : Shown)
    × (place : ℕ) × IsObserving a × IsTaken a first [] b × IsTaken b later (frame ∷ []) c
    × IsStopped b stray place
