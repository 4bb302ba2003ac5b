-- What a reply promises that accepts a program, and one to a search.
use Rattle.std.specs.Prelude.{◌≡◌, ◌≢◌, ℕ, List, Option, Some, None, IfSome, Ok}
use Rattle.std.specs.Io.KnownBytes.{Appends}
use Rattle.simulator.specs.Headline.{RunsAreSafe}
use Rattle.table_check.specs.declared.checker.verdict.Verdict.TheVariants.{Accepted}
use Rattle.fact_search.specs.Forward.{IsForward}
use Rattle.session.specs.declared.reply.Status.{Status}
use Rattle.session.specs.declared.reply.Status.TheVariants as statuses
use Rattle.session.specs.declared.sequence.Sequence.{Sequence}
use Rattle.session.specs.CheckReplies.{verdict_text}
use Rattle.session.specs.Commands.{Task, Check, Find, Verify}
use Rattle.session.specs.SearchReplies.{gave_up_text}
use Rattle.session.specs.Sessions.{task_of}

-- the program that is to be judged, on its board, where an input asks for a check or to verify
abbrev pub judged_in : Task → Option Sequence
judged_in (Check trial) = Some (record { board = trial.board; program = trial.program })
judged_in (Verify sequence) = Some sequence
judged_in _ = None

-- `accepted bound N` was written, and every run of the program on its board is safe within that
-- bound
abbrev pub IsPromised : Option (List ℕ) → Option (List ℕ) → Sequence → Type 0
IsPromised old new s =
    (bound : ℕ) × Appends old new (verdict_text (Accepted bound))
    × RunsAreSafe s.board s.program bound

-- what is judged and accepted is safe
abbrev pub IsKeptPromise : List ℕ → Option (List ℕ) → Option (List ℕ) → Status → Type 0
IsKeptPromise input old new status =
    (task : Task) → task_of input ≡ Ok task → status ≡ statuses.Accepted
    → IfSome (judged_in task) (λ s. IsPromised old new s)

-- the program for which a table is searched, on its board
abbrev pub searched_in : Task → Option Sequence
searched_in (Find sequence) = Some sequence
searched_in (Verify sequence) = Some sequence
searched_in _ = None

-- what was written isn't that the search gave up
abbrev pub IsNoGivingUp : Option (List ℕ) → Option (List ℕ) → Type 0
IsNoGivingUp old new =
    (text : List ℕ) × Appends old new text × ((place : ℕ) → text ≢ gave_up_text place)

-- the search doesn't give up where each jump of the program leads on
abbrev pub GivesUpOnLoopsAlone : List ℕ → Option (List ℕ) → Option (List ℕ) → Type 0
GivesUpOnLoopsAlone input old new =
    (task : Task) → task_of input ≡ Ok task
    → IfSome (searched_in task) (λ s. IsForward s.program → IsNoGivingUp old new)
