-- What can be driven in the step of a message.
use Rattle.std.specs.Prelude.{Option, Some, None}
use Rattle.smbus.specs.Asked.{Asked}
use Rattle.smbus.specs.Answered.{Answered}
use Rattle.smbus.specs.Contenders.{Contender}
use Rattle.smbus.specs.ContenderLaws.{CanStart}
use Rattle.smbus.specs.OneFrame.{CanBeSent}

-- the message can be sent, or the controller that wins over it can start
abbrev pub CanStand : Option Contender → Asked → Answered → Type 0
CanStand None m a = CanBeSent m a
CanStand (Some c) m a = CanStart c
