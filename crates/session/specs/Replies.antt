-- The reply to an input: a status, and what is written.
use Rattle.std.specs.Prelude.{ℕ, List}
use Rattle.session.specs.Faults.{fault_text}
use Rattle.session.specs.declared.fault.InputFault.{InputFault as Fault}
use Rattle.session.specs.declared.reply.Reply.{Reply as ReplyCode}
use Rattle.session.specs.declared.reply.Status.{Status}
use Rattle.session.specs.declared.reply.Status.TheVariants.{Accepted, Refused, InputFault}
use Rattle.session.specs.declared.reply.Status.TheVariants.{DeviceFault}

-- the exit status
abbrev pub code_of : Status → ℕ
code_of Accepted = 0
code_of Refused = 1
code_of InputFault = 2
code_of DeviceFault = 3

pub record Reply : Type 0 where
  pub status : Status
  pub text : List ℕ

abbrev pub reply_view : ReplyCode → Reply
reply_view reply = record { status = reply.status; text = reply.text.items }

-- the reply to an input with a fault
abbrev pub refusal : Fault → Reply
refusal fault = record { status = InputFault; text = fault_text fault }
