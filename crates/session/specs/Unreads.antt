-- Reading of sections, whose first fault keeps what was read before it.
use Rattle.std.specs.Prelude.{◌≡◌, Result, Ok, Err}
use Rattle.texts.specs.declared.reading.ReadError.{ReadError}
use Rattle.texts.specs.declared.reading.ReadError.TheVariants as errors
use Rattle.bundles.specs.declared.fault.BundleFault.{BundleFault}
use Rattle.session.specs.declared.fault.InputFault.{InputFault}
use Rattle.session.specs.declared.fault.InputFault.TheVariants as faults
use Rattle.session.specs.declared.unread.Unread.{Unread}
use Rattle.session.specs.declared.unread.Unread.TheVariants as unread

-- the fault of an input of which nothing is done
abbrev pub fault_of : Unread → InputFault
fault_of (unread.Bundle fault) = faults.Bundle fault
fault_of (unread.Board fault) = faults.Board fault
fault_of (unread.Program board fault) = faults.Program fault

-- a bundle's error as an input's
abbrev pub of_bundle : ReadError BundleFault → ReadError Unread
of_bundle errors.Memory = errors.Memory
of_bundle (errors.Fault fault) = errors.Fault (unread.Bundle fault)

-- an error tells the fault that reading gives, unless memory ran out
abbrev pub Fails : {Y : Type 0} → ReadError Unread → Result Y InputFault → Type 0
Fails errors.Memory read = Unit {0}
Fails (errors.Fault x) read = read ≡ Err (fault_of x)

-- what a function returned, seen by view, is what reading gives, unless memory ran out
abbrev pub Reads : {X Y : Type 0} → (X → Y) → Result X (ReadError Unread) → Result Y InputFault
    → Type 0
Reads view (Ok x) read = read ≡ Ok (view x)
Reads view (Err e) read = Fails e read
