-- What `frame_slots` works with: the frame of each form as the bytes that the controller sends
-- first, a repeated START where the form has one, and the bytes that a target returns. Nothing
-- public cites this: `Protocol` says what a frame is.
use Rattle.std.specs.Prelude.{ℕ, ◌≤◌, ◌+◌, ◌*◌, Bool, true, false, Option, Some, None, List, []}
use Rattle.std.specs.Prelude.{◌∷◌, length}
use Rattle.smbus.specs.declared.message.Form.{Form}
use Rattle.smbus.specs.declared.message.Form.TheVariants.{Quick, SendByte, ReceiveByte, WriteByte}
use Rattle.smbus.specs.declared.message.Form.TheVariants.{WriteWord, ReadByte, ReadWord}
use Rattle.smbus.specs.declared.message.Form.TheVariants.{ProcessCall, BlockWrite, BlockRead}
use Rattle.smbus.specs.declared.message.Form.TheVariants.{BlockProcessCall, Alert}
use Rattle.smbus.specs.declared.parts.Parts.{Parts}
use Rattle.smbus.specs.declared.parts.Written.{Written}
use Rattle.smbus.specs.declared.parts.Written.TheVariants as written
use Rattle.smbus.specs.declared.parts.Returned.{Returned}
use Rattle.smbus.specs.declared.parts.Returned.TheVariants as returned
use Rattle.smbus.specs.Asked.{Asked}
use Rattle.smbus.specs.Protocol.{Piece, low, high, direction_bit, got}
use Rattle.smbus.specs.Protocol.Piece.{Sent, Refused, Repeat}

abbrev parts : Written → Returned → Parts
parts before after = record { written = before; returned = after }

-- the frame of each form
abbrev pub parts_of : Form → Parts
parts_of (Quick is_read) = parts (written.Nothing is_read) returned.Nothing
parts_of SendByte = parts written.Code returned.Nothing
parts_of ReceiveByte = parts (written.Nothing true) returned.Byte
parts_of WriteByte = parts (written.Data 1) returned.Nothing
parts_of WriteWord = parts (written.Data 2) returned.Nothing
parts_of ReadByte = parts written.Code returned.Byte
parts_of ReadWord = parts written.Code returned.Word
parts_of ProcessCall = parts (written.Data 2) returned.Word
parts_of BlockWrite = parts written.Block returned.Nothing
parts_of BlockRead = parts written.Code returned.Block
parts_of BlockProcessCall = parts written.Block returned.Block
parts_of Alert = parts (written.Nothing true) returned.Byte

-- the bytes of the controller up to the repeated START, or all of them
abbrev pub written_bytes : Written → ℕ → ℕ → List ℕ → List ℕ
written_bytes (written.Nothing is_read) a code out = (2 * a + direction_bit is_read) ∷ []
written_bytes written.Code a code out = (2 * a) ∷ code ∷ []
written_bytes (written.Data count) a code out = (2 * a) ∷ code ∷ out
written_bytes written.Block a code out = (2 * a) ∷ code ∷ length out ∷ out

abbrev pub first_bytes_of : Form → ℕ → ℕ → List ℕ → List ℕ
first_bytes_of form a code out = written_bytes (parts_of form).written a code out

abbrev pub first_bytes : Asked → List ℕ
first_bytes m = first_bytes_of m.form m.address m.code m.out

-- between what is written and what is returned
abbrev pub is_between : Written → Returned → Bool
is_between (written.Nothing is_read) after = false
is_between before returned.Nothing = false
is_between before after = true

abbrev pub has_repeat_of : Parts → Bool
has_repeat_of p = is_between p.written p.returned

abbrev pub has_repeat : Form → Bool
has_repeat form = has_repeat_of (parts_of form)

-- the bytes of a target
abbrev pub bytes_back : Returned → ℕ → List ℕ → List ℕ
bytes_back returned.Nothing value block = []
bytes_back returned.Byte value block = low value ∷ []
bytes_back returned.Word value block = low value ∷ high value ∷ []
bytes_back returned.Block value block = length block ∷ block

abbrev pub returned_bytes : Form → ℕ → List ℕ → List ℕ
returned_bytes form value block = bytes_back (parts_of form).returned value block

-- the refusal, if any, is of a byte after so many
abbrev pub IsAfter : Option ℕ → ℕ → Type 0
IsAfter None count = Unit {0}
IsAfter (Some n) count = count ≤ n

-- what follows the controller's first bytes: with a repeated START the address, accepted or not
abbrev pub rest_of : Bool → Bool → ℕ → List ℕ → List Piece
rest_of false accepted a returned = got returned
rest_of true true a returned = Repeat ∷ Sent (2 * a + 1) ∷ got returned
rest_of true false a returned = Repeat ∷ Refused (2 * a + 1) ∷ []
