-- The replies to what asks for a run: a run that is played, or one in which the program breaks a
-- rule. Each is the text of how the targets start and what they answer, which `%run` takes.
use Rattle.std.specs.Prelude.{◌≡◌, ◌≤◌, ◌+◌, ◌++◌, ◌⊎◌, ℕ, List, Some, None, codes}
use Rattle.std.specs.Prelude.{length}
use Rattle.std.specs.Fmt.{decimal}
use Rattle.bundles.specs.Answers.{Answers}
use Rattle.bundles.specs.AnswerTexts.{SaysAnswers}
use Rattle.bundles.specs.AnswerLineTexts.{comment_text, run_text, with_line}
use Rattle.facts.specs.duties.RuleNames.{rule_name}
use Rattle.simulator.specs.declared.machine.Ending.{Ending}
use Rattle.simulator.specs.declared.machine.Ending.TheVariants.{Running, Finished, Failed}
use Rattle.simulator.specs.Traces.{Trace}
use Rattle.run_monitor.specs.declared.breach.Breach.{Breach}
use Rattle.run_player.specs.declared.playing.TheConstants.{MOST_STEPS}
use Rattle.table_check.specs.checker.Obligations.{IsInductive}
use Rattle.table_check.specs.Tables.{Table}
use Rattle.session.specs.declared.reply.Status.TheVariants.{Accepted, Refused}
use Rattle.session.specs.declared.scenario.Scenario.{Scenario}
use Rattle.session.specs.declared.sequence.Sequence.{Sequence}
use Rattle.session.specs.Breaches.{Breaks}
use Rattle.session.specs.Replies.{Reply}
use Rattle.session.specs.Scenarios.{IsRunOf}

-- the run of a program on its board under these answers
abbrev pub scenario_with : Sequence → Answers → Scenario
scenario_with s answers =
    record { board = s.board; program = s.program; answers = answers }

-- ---- runs that are played

-- the comment below a run of so many steps behind which the program still runs
abbrev pub still_running : ℕ → List ℕ
still_running count = codes "still running after " ++ (decimal count ++ codes " steps")

abbrev pub with_ending : List ℕ → Ending → ℕ → List ℕ
with_ending text Running count = with_line text (comment_text (still_running count))
with_ending text Finished count = text
with_ending text Failed count = text

-- the text says a run, which ends as it tells
pub record SaysRun (s : Sequence) (text : List ℕ) : Type 0 where
  pub answers : Answers
  pub said : SaysAnswers text answers
  pub trace : Trace
  pub is_run : IsRunOf (scenario_with s answers) trace
  pub few : length answers.answers ≤ MOST_STEPS
  pub prints : text ≡ with_ending (run_text None answers) trace.last.ended (length answers.answers)

pub record IsPlayReply (s : Sequence) (reply : Reply) : Type 0 where
  pub says : SaysRun s reply.text
  pub status : reply.status ≡ Accepted

-- ---- runs that break a rule

-- `place P rule K`
abbrev pub breach_text : Breach → List ℕ
breach_text x =
    codes "place " ++ (decimal x.place ++ (codes " rule " ++ rule_name x.rule))

-- the text says a run whose last instruction breaks this rule, below a comment that names both
pub record SaysBreach (s : Sequence) (x : Breach) (text : List ℕ) : Type 0 where
  pub answers : Answers
  pub said : SaysAnswers text answers
  pub breaks : Breaks (scenario_with s answers) x
  pub last : length answers.answers ≡ x.index + 1
  pub prints : text ≡ run_text (Some (breach_text x)) answers

-- no table of the program keeps the rule book
abbrev pub HasNoTable : Sequence → Type 0
HasNoTable s = (t : Table) → IsInductive s.board s.program t → ⊥

-- a run that breaks a rule is told
pub record IsRefuted (s : Sequence) (reply : Reply) : Type 0 where
  pub breach : Breach
  pub says : SaysBreach s breach reply.text
  pub harms : HasNoTable s
  pub status : reply.status ≡ Accepted

abbrev pub no_run_reply : Reply
no_run_reply = record { status = Refused; text = codes "no run found\n" }

abbrev pub IsRefuteReply : Sequence → Reply → Type 0
IsRefuteReply s reply = IsRefuted s reply ⊎ (reply ≡ no_run_reply)
