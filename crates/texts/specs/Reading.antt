-- Reading that ends at the first fault, of any type of fault.
use Rattle.std.specs.Prelude.{◌≡◌, ◌≢◌, Bool, Option, Some, None, Result, Ok, Err, if◌then◌else◌}
use Rattle.texts.specs.declared.reading.ReadError.{ReadError}
use Rattle.texts.specs.declared.reading.ReadError.TheVariants as errors

-- the second reading of what the first one read, or the first one's fault
infixl 10 ◌>>=◌
abbrev pub ◌>>=◌ : {F A B : Type 0} → Result A F → (A → Result B F) → Result B F
(Ok x) >>= f = f x
(Err e) >>= f = Err e

-- an error is the fault that reading gives, unless memory ran out
abbrev pub Fails : {F Y : Type 0} → ReadError F → Result Y F → Type 0
Fails errors.Memory read = Unit {0}
Fails (errors.Fault f) read = read ≡ Err f

-- what a function returned, seen by view, is what reading gives, unless memory ran out
abbrev pub Gives : {F X Y : Type 0} → (X → Y) → Result X (ReadError F) → Result Y F → Type 0
Gives view (Ok x) read = read ≡ Ok (view x)
Gives view (Err e) read = Fails e read

-- the same where a fault of its own says that memory ran out
abbrev pub GivesUnless : {F X Y : Type 0} → F → (X → Y) → Result X F → Result Y F → Type 0
GivesUnless memory view (Ok x) read = read ≡ Ok (view x)
GivesUnless memory view (Err e) read = e ≢ memory → read ≡ Err e

-- the value, or the fault where there is none
abbrev pub some_or : {F A : Type 0} → F → Option A → Result A F
some_or fault None = Err fault
some_or fault (Some x) = Ok x

-- the value where the test holds, else the fault
abbrev pub value_if : {F A : Type 0} → F → Bool → A → Result A F
value_if fault test x = if test then Ok x else Err fault
