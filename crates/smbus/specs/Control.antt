-- Whether the bus is free, and how far a byte is. It decides which events go on, and keeps no
-- bytes.
use Rattle.std.specs.Prelude.{ℕ, ◌≡◌, ◌+◌, ◌==◌, ltb, if◌then◌else◌, Option}
use Rattle.std.specs.Prelude.{Some, None, List, [], ◌∷◌, ◌++◌, ◌≤◌, ◌≢◌, All, length, take, drop}
use Rattle.wires.specs.declared.event.Event.{Event}
use Rattle.wires.specs.declared.event.Event.TheVariants.{Start, Stop, Rise}
use Rattle.smbus.specs.declared.control.Control.{Control}
use Rattle.smbus.specs.declared.control.Control.TheVariants.{Free, Begun, Bits}

-- a START comes where the bus is free or behind a single high bit, a STOP behind a low one
abbrev pub control_step : Control → Event → Option Control
control_step Free Start = Some Begun
control_step Free Stop = None
control_step Free (Rise bit) = None
control_step Begun Start = None
control_step Begun Stop = None
control_step Begun (Rise bit) = Some (Bits 1 bit)
control_step (Bits count last) Start =
    if last then (if count == 1 then Some Begun else None) else None
control_step (Bits count last) Stop = if last then None else Some Free
control_step (Bits count last) (Rise bit) =
    if ltb count 9 then Some (Bits (count + 1) bit) else Some (Bits 1 bit)

abbrev pub then_control : (Control → Option Control) → Option Control → Option Control
then_control f None = None
then_control f (Some c) = f c

-- the control after events, and None where one of them doesn't go on
abbrev pub control_after : List Event → Control → Option Control
control_after [] c = Some c
control_after (e ∷ es) c = then_control (control_after es) (control_step c e)

-- the place behind the last STOP
pub record IsBehindStop (events : List Event) (place : ℕ) : Type 0 where
  pub within : place ≤ length events
  pub front : List Event
  pub ended : take place events ≡ front ++ Stop ∷ []
  pub no_stop : All (λ e. e ≢ Stop) (drop place events)
