-- The words of forms, and which forms carry a command code.
use Rattle.std.specs.Prelude.{ℕ, List, [], ◌∷◌, Bool, true, false, Option, codes}
use Rattle.texts.specs.Words.{named_among}
use Rattle.smbus.specs.declared.message.Form.{Form}
use Rattle.smbus.specs.declared.message.Form.TheVariants.{Quick, SendByte, ReceiveByte, WriteByte}
use Rattle.smbus.specs.declared.message.Form.TheVariants.{WriteWord, ReadByte, ReadWord}
use Rattle.smbus.specs.declared.message.Form.TheVariants.{ProcessCall, BlockWrite, BlockRead}
use Rattle.smbus.specs.declared.message.Form.TheVariants.{BlockProcessCall, Alert}

-- the forms of messages to a target, by their words in messages, boards and programs (this
-- project's)
abbrev pub form_words : List (List ℕ × Form)
form_words =
    (codes "quickwrite", Quick false)
    ∷ (codes "quickread", Quick true)
    ∷ (codes "send", SendByte)
    ∷ (codes "receive", ReceiveByte)
    ∷ (codes "writebyte", WriteByte)
    ∷ (codes "writeword", WriteWord)
    ∷ (codes "readbyte", ReadByte)
    ∷ (codes "readword", ReadWord)
    ∷ (codes "call", ProcessCall)
    ∷ (codes "blockwrite", BlockWrite)
    ∷ (codes "blockread", BlockRead)
    ∷ (codes "blockcall", BlockProcessCall)
    ∷ []

unfoldable pub form_named : List ℕ → Option Form
form_named word = named_among word form_words

-- of a Send Byte the code is its data byte (SMBus 3.2, 6.5)
abbrev pub carries_code : Form → Bool
carries_code (Quick is_read) = false
carries_code ReceiveByte = false
carries_code Alert = false
carries_code other = true
