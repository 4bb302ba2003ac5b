-- How many slots the frame of a message has at most.
use Rattle.std.specs.Prelude.{ℕ, ◌+◌, ◌*◌}
use Rattle.smbus.specs.declared.message.Form.{Form}
use Rattle.smbus.specs.declared.message.Form.TheVariants.{Quick, SendByte, ReceiveByte, WriteByte}
use Rattle.smbus.specs.declared.message.Form.TheVariants.{WriteWord, ReadByte, ReadWord}
use Rattle.smbus.specs.declared.message.Form.TheVariants.{ProcessCall, BlockWrite, BlockRead}
use Rattle.smbus.specs.declared.message.Form.TheVariants.{BlockProcessCall, Alert}

-- nine for each byte (UM10204, 3.1.5 and 3.1.6), one for a repeated START, and one for the STOP,
-- where so many bytes of a block are sent and read
abbrev pub most_slots : Form → ℕ → ℕ → ℕ
most_slots (Quick is_read) sent read = 10
most_slots SendByte sent read = 19
most_slots ReceiveByte sent read = 19
most_slots WriteByte sent read = 28
most_slots WriteWord sent read = 37
most_slots ReadByte sent read = 38
most_slots ReadWord sent read = 47
most_slots ProcessCall sent read = 65
most_slots BlockWrite sent read = 28 + 9 * sent
most_slots BlockRead sent read = 38 + 9 * read
most_slots BlockProcessCall sent read = 47 + 9 * (sent + read)
most_slots Alert sent read = 19
