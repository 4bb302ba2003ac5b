-- The replies to a search: the table that was found, the verdict on it, or where the search gave
-- up.
use Rattle.std.specs.Prelude.{◌≡◌, ◌⊎◌, ℕ, List, ◌++◌, codes, length}
use Rattle.std.specs.Fmt.{decimal}
use Rattle.table_check.specs.checker.Obligations.{IsVerdict}
use Rattle.table_check.specs.checker.SafeTables.{IsSafeVerdict}
use Rattle.table_check.specs.Tables.{Table}
use Rattle.table_check.specs.text.Lines.{table_text}
use Rattle.table_check.specs.text.Texts.{IsTextOf}
use Rattle.table_check.specs.text.Writable.{IsShaped}
use Rattle.table_check.specs.declared.checker.verdict.Verdict.{Verdict}
use Rattle.fact_search.specs.Finds.{IsFound, TellsCause}
use Rattle.fact_search.specs.Forward.{IsForward}
use Rattle.session.specs.declared.reply.Status.TheVariants.{Accepted, Refused}
use Rattle.session.specs.declared.sequence.Sequence.{Sequence}
use Rattle.session.specs.CheckReplies.{verdict_reply}
use Rattle.session.specs.Replies.{Reply}

-- `gave up place P`
abbrev pub gave_up_text : ℕ → List ℕ
gave_up_text place = codes "gave up place " ++ (decimal place ++ codes "\n")

abbrev pub gave_up_reply : ℕ → Reply
gave_up_reply place = record { status = Refused; text = gave_up_text place }

-- a table that a search may find: it can be written, and has a row or none for each place. Where
-- each jump leads on, it keeps the rule book if any table does, and a verdict on it tells the cause
pub record MayBeFound (s : Sequence) (table : Table) : Type 0 where
  pub shaped : IsShaped s.board table
  pub places : length table ≡ length s.program
  pub found : IsForward s.program → IsFound s.board s.program table
  pub cause : IsForward s.program → TellsCause s.board s.program table

-- the search gave up: some jump leads back
pub record GaveUp (s : Sequence) (reply : Reply) : Type 0 where
  pub place : ℕ
  pub back : IsForward s.program → ⊥
  pub replies : reply ≡ gave_up_reply place

-- a found table was printed, and would be read back
pub record Prints (s : Sequence) (reply : Reply) : Type 0 where
  pub table : Table
  pub found : MayBeFound s table
  pub text : IsTextOf s.board table reply.text
  pub replies : reply ≡ record { status = Accepted; text = table_text s.board table }

-- the checker's verdict on a found table; where it accepts, every run is safe
pub record IsVerified (s : Sequence) (reply : Reply) : Type 0 where
  pub table : Table
  pub found : MayBeFound s table
  pub verdict : Verdict
  pub judged : IsVerdict s.board s.program table verdict
  pub safe : IsSafeVerdict s.board s.program verdict
  pub replies : reply ≡ verdict_reply verdict

abbrev pub IsFindReply : Sequence → Reply → Type 0
IsFindReply s reply = Prints s reply ⊎ GaveUp s reply

abbrev pub IsVerifyReply : Sequence → Reply → Type 0
IsVerifyReply s reply = IsVerified s reply ⊎ GaveUp s reply
