-- The words of forms, as messages, boards and programs have them.
use Rattle.std.specs.Prelude.{ℕ, List, true, false, codes}
use Rattle.smbus.specs.declared.message.Form.{Form}
use Rattle.smbus.specs.declared.message.Form.TheVariants.{Quick, SendByte, ReceiveByte, WriteByte}
use Rattle.smbus.specs.declared.message.Form.TheVariants.{WriteWord, ReadByte, ReadWord}
use Rattle.smbus.specs.declared.message.Form.TheVariants.{ProcessCall, BlockWrite, BlockRead}
use Rattle.smbus.specs.declared.message.Form.TheVariants.{BlockProcessCall, Alert}

abbrev pub form_word : Form → List ℕ
form_word (Quick false) = codes "quickwrite"
form_word (Quick true) = codes "quickread"
form_word SendByte = codes "send"
form_word ReceiveByte = codes "receive"
form_word WriteByte = codes "writebyte"
form_word WriteWord = codes "writeword"
form_word ReadByte = codes "readbyte"
form_word ReadWord = codes "readword"
form_word ProcessCall = codes "call"
form_word BlockWrite = codes "blockwrite"
form_word BlockRead = codes "blockread"
form_word BlockProcessCall = codes "blockcall"
form_word Alert = codes "alert"
