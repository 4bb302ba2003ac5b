-- Events that are those of some frames are read.
use Rattle.std.proofs.Common.{◌≡◌, ℕ, ◌+◌, List, length, drop, sym, subst, inl, inr, arith}
use Rattle.std.proofs.lemmas.List.{take-append-drop}
use Rattle.std.proofs.lemmas.Bool.{cases_lt}
use Rattle.wires.specs.declared.event.Event.{Event}
use Rattle.smbus.specs.Shown.{Shown}
use Rattle.smbus.specs.Frames.{AreFrames, FailsAt}

pub never_fails : (events : List Event) (frames : List Shown) (place : ℕ) → AreFrames events frames
    → FailsAt events place → ⊥
never_fails events frames place are fails = elim (cases_lt place (length events)) [
  | inl lt ↦ fails.here lt (
    frames,
    drop (place + 1) events,
    subst (λ (all : List Event). AreFrames all frames)
        (sym (take-append-drop (place + 1) events)) are,
  )
  | inr le ↦
      let end : place ≡ length events = omega (arith, fails.within) in
      fails.unfinished end frames are
]
