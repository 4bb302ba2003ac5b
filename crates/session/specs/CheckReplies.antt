-- The reply to a check: the verdict on its table, or why there is none.
use Rattle.std.specs.Prelude.{◌≡◌, ◌⊎◌, ℕ, List, ◌++◌, codes}
use Rattle.std.specs.Fmt.{decimal}
use Rattle.texts.specs.Words.{lines_by_feed}
use Rattle.facts.specs.duties.RuleNames.{rule_name}
use Rattle.table_check.specs.declared.text.fault.TableFault.TheVariants.{BadLine}
use Rattle.table_check.specs.Tables.{Table}
use Rattle.table_check.specs.text.Texts.{IsFirstBadLine, IsTextOf}
use Rattle.table_check.specs.declared.checker.verdict.Verdict.{Verdict}
use Rattle.table_check.specs.declared.checker.verdict.Verdict.TheVariants as verdicts
use Rattle.table_check.specs.checker.Obligations.{IsVerdict}
use Rattle.table_check.specs.checker.SafeTables.{IsSafeVerdict}
use Rattle.session.specs.declared.fault.InputFault.TheVariants as faults
use Rattle.session.specs.declared.reply.Status.{Status}
use Rattle.session.specs.declared.reply.Status.TheVariants.{Accepted, Refused}
use Rattle.session.specs.Replies.{Reply, refusal}
use Rattle.session.specs.Trials.{Trial}

-- `accepted bound N`, or `refused place P rule K`
abbrev pub verdict_text : Verdict → List ℕ
verdict_text (verdicts.Accepted bound) = codes "accepted bound " ++ (decimal bound ++ codes "\n")
verdict_text (verdicts.Refused place rule) =
    codes "refused place "
    ++ (decimal place ++ (codes " rule " ++ (rule_name rule ++ codes "\n")))

abbrev pub verdict_status : Verdict → Status
verdict_status (verdicts.Accepted bound) = Accepted
verdict_status (verdicts.Refused place rule) = Refused

abbrev pub verdict_reply : Verdict → Reply
verdict_reply v = record { status = verdict_status v; text = verdict_text v }

-- the checker's verdict on the table that the text holds; where it accepts, every run is safe
pub record IsJudged (trial : Trial) (reply : Reply) : Type 0 where
  pub table : Table
  pub text : IsTextOf trial.board table trial.table
  pub verdict : Verdict
  pub judged : IsVerdict trial.board trial.program table verdict
  pub safe : IsSafeVerdict trial.board trial.program verdict
  pub replies : reply ≡ verdict_reply verdict

-- the text holds no table, from this line on
pub record IsUnread (trial : Trial) (reply : Reply) : Type 0 where
  pub line : ℕ
  pub bad : IsFirstBadLine trial.board (lines_by_feed trial.table) line
  pub replies : reply ≡ refusal (faults.Table (BadLine line))

abbrev pub IsCheckReply : Trial → Reply → Type 0
IsCheckReply trial reply = IsJudged trial reply ⊎ IsUnread trial reply
