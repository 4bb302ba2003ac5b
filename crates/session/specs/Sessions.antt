-- The reply to all bytes of an input, and what is written of it.
use Rattle.std.specs.Prelude.{ℕ, ◌≡◌, Bool, not, nat_lt, List, length, Option, Some, None, Result}
use Rattle.std.specs.Prelude.{MatchResult, if◌then◌else◌}
use Rattle.std.specs.Str.{is_utf8}
use Rattle.std.specs.Io.KnownBytes.{Appends}
use Rattle.texts.specs.Reading.{◌>>=◌, some_or, value_if}
use Rattle.texts.specs.Sending.{AppendsBeginning}
use Rattle.session.specs.Intake.{kept_limit, IsReadWhole}
use Rattle.session.specs.Commands.{Task, task_in, IsReplyOf}
use Rattle.session.specs.Replies.{Reply, refusal}
use Rattle.session.specs.declared.reply.Status.{Status}
use Rattle.session.specs.declared.fault.InputFault.{InputFault}
use Rattle.session.specs.declared.fault.InputFault.TheVariants as faults
use Rattle.session.specs.Faults.{faulted}
use Rattle.bundles.specs.declared.fault.BundleFault.{BundleFault}
use Rattle.bundles.specs.declared.fault.BundleFault.TheVariants.{NoCommand, NotText, TooLarge}

-- the bytes where the test holds
abbrev pub text_if : Bool → List ℕ → Option (List ℕ)
text_if test bytes = if test then Some bytes else None

-- the bytes as a text, from what is kept of them and whether there were more
unfoldable pub kept_text : List ℕ → Bool → Result (List ℕ) BundleFault
kept_text bytes too_large = do
  small ← value_if TooLarge (not too_large) bytes
  some ← value_if NoCommand (nat_lt 0 (length small)) small
  some_or NotText (text_if (is_utf8 some) some)

-- what is asked for by the bytes that are kept
abbrev pub kept_task : List ℕ → Bool → Result Task InputFault
kept_task bytes too_large = faulted faults.Bundle (kept_text bytes too_large) >>= task_in

-- the bytes of an input as a text: at most 16 MiB, one at least, and UTF-8
abbrev pub text_in : List ℕ → Result (List ℕ) BundleFault
text_in input = kept_text input (nat_lt kept_limit (length input))

-- what all bytes of an input ask for
abbrev pub task_of : List ℕ → Result Task InputFault
task_of input = faulted faults.Bundle (text_in input) >>= task_in

abbrev pub IsReplyAfter : Result Task InputFault → Reply → Type 0
IsReplyAfter read reply =
    MatchResult read (λ task. IsReplyOf task reply) (λ fault. reply ≡ refusal fault)

-- the reply to what the input asks for, or to its first fault
abbrev pub IsReplyTo : List ℕ → Reply → Type 0
IsReplyTo input reply = IsReplyAfter (task_of input) reply

-- a whole reply was written, and nothing else
pub record IsAnswered (input : List ℕ) (old new : Option (List ℕ)) (ended : Status) : Type 0 where
  pub reply : Reply
  pub replies : IsReplyTo input reply
  pub written : Appends old new reply.text
  pub status : ended ≡ reply.status

-- a beginning of a reply was written, and nothing else
pub record IsBegun (input : List ℕ) (old new : Option (List ℕ)) : Type 0 where
  pub reply : Reply
  pub replies : IsReplyTo input reply
  pub written : AppendsBeginning old new reply.text

-- a reply to all bytes of a reader
pub record IsReplyToAll (first rest : Option (List ℕ)) (reply : Reply) : Type 0 where
  pub input : List ℕ
  pub read : IsReadWhole first rest input
  pub replies : IsReplyTo input reply

-- a reader was read to its end, and of the reply to its bytes no more than a beginning was written
pub record IsCutShort (first rest old new : Option (List ℕ)) : Type 0 where
  pub input : List ℕ
  pub read : IsReadWhole first rest input
  pub begun : IsBegun input old new
