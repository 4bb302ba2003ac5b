-- The note on what became of an input: where it stands.
use Rattle.std.specs.Prelude.{◌≡◌, ◌≢◌, ℕ, List, Option, None, MatchOption, MatchResult, IsSomeAnd}
use Rattle.std.specs.Prelude.{codes, slice_get, string_bytes}
use Rattle.texts.specs.Words.{lines_by_feed}
use Rattle.board.specs.declared.fault.FaultKind.TheVariants.{Memory}
use Rattle.seq_program.specs.Faults.{line_of}
use Rattle.simulator.specs.declared.fault.RunFault.{RunFault}
use Rattle.bundles.specs.Bundles.{Section}
use Rattle.session.specs.declared.outcome.Outcome.{Outcome}
use Rattle.session.specs.declared.outcome.Outcome.TheVariants as outcomes
use Rattle.session.specs.declared.unread.Unread.{Unread}
use Rattle.session.specs.declared.unread.Unread.TheVariants as unread
use Rattle.session.specs.SectionTexts.{section_text}
use Rattle.table_check.specs.declared.checker.breach.Judgement.{Judgement}
use Rattle.table_check.specs.declared.checker.breach.Judgement.TheVariants as judgements
use Rattle.notes.specs.declared.level.Level.TheVariants.{Error}
use Rattle.notes.specs.declared.note.Note.{Note}
use Rattle.notes.specs.Notes.{IsOn}
use Rattle.run_notes.specs.AnswerPlaces.{run_line}
use Rattle.run_notes.specs.Messages.{message_line}
use Rattle.text_notes.specs.Boards.{IsOnSomeLine}
use Rattle.diagnostics.specs.DraftPlaces.{IsOnDraftFault}
use Rattle.diagnostics.specs.BundlePlaces.{IsOnFault}
use Rattle.diagnostics.specs.ProgramPlaces.{program_lines, IsOnRefusal, IsOnStop}

-- on a line of a program, if there is one to name
abbrev pub IsOnLine : List Section → Option ℕ → Option Note → Type 0
IsOnLine sections line note =
    MatchOption line (note ≡ None)
    (λ number. IsSomeAnd note (IsOn Error (codes "%program") number (program_lines sections)))

-- on the fault's own line
abbrev pub IsOnUnread : List ℕ → List Section → Unread → Option Note → Type 0
IsOnUnread text sections (unread.Bundle fault) note =
    IsSomeAnd note (IsOnFault text sections fault)
IsOnUnread text sections (unread.Board fault) note =
    fault.kind ≢ Memory → MatchOption (slice_get sections 0) (note ≡ None)
    (λ section. IsOnSomeLine (section_text section) note)
IsOnUnread text sections (unread.Program b fault) note = IsOnLine sections (line_of fault) note

-- on the line of a message
abbrev pub IsOnMessage : List Section → Option Note → Type 0
IsOnMessage sections note =
    MatchOption (slice_get sections 0) (note ≡ None)
    (λ section. IsSomeAnd note
    (IsOn Error (codes "%message") (message_line (lines_by_feed (section_text section)))
    (lines_by_feed (section_text section))))

-- on the line of the answers that has the fault, if it is one's
abbrev pub IsOnAnswers : List (List ℕ) → RunFault → Option Note → Type 0
IsOnAnswers lines fault note =
    MatchOption (run_line fault lines) (note ≡ None)
    (λ number. IsSomeAnd note (IsOn Error (codes "%answers") number lines))

abbrev pub IsOnRunFault : List Section → RunFault → Option Note → Type 0
IsOnRunFault sections fault note =
    MatchOption (slice_get sections 2) (note ≡ None)
    (λ section. IsOnAnswers (lines_by_feed (section_text section)) fault note)

-- a judgement that accepts has no note
abbrev pub IsOnJudgement : List Section → Judgement → Option Note → Type 0
IsOnJudgement sections (judgements.Accepted bound) note = note ≡ None
IsOnJudgement sections (judgements.Refused refusal) note =
    IsOnRefusal sections refusal note

-- what was asked for has no note, and a fault or a refusal is told on its own line
abbrev pub IsErrorOf : List ℕ → List Section → Outcome → Option Note → Type 0
IsErrorOf text sections (outcomes.Unread x) note = IsOnUnread text sections x note
IsErrorOf text sections (outcomes.Framed x) note =
    MatchResult x.told (λ _. note ≡ None) (λ _. IsOnMessage sections note)
IsErrorOf text sections (outcomes.Ran x) note =
    MatchResult x.told (λ _. note ≡ None) (λ fault. IsOnRunFault sections fault note)
IsErrorOf text sections (outcomes.Checked x) note =
    MatchResult x.judged (λ judged. IsOnJudgement sections judged.judgement note)
    (λ number. IsSomeAnd note
    (IsOn Error (codes "%table") number (lines_by_feed (string_bytes x.trial.table))))
IsErrorOf text sections (outcomes.Searched x) note =
    MatchResult x.found (λ _. note ≡ None) (λ place. IsOnStop sections place note)
IsErrorOf text sections (outcomes.Verified x) note =
    MatchResult x.judged (λ judged. IsOnJudgement sections judged.judgement note)
    (λ place. IsOnStop sections place note)
IsErrorOf text sections (outcomes.Played x) note = note ≡ None
IsErrorOf text sections (outcomes.Refuted x) note = note ≡ None
IsErrorOf text sections (outcomes.Drafted x) note =
    MatchResult x.told (λ _. note ≡ None)
    (λ fault. IsOnDraftFault sections (string_bytes x.planned.plan) fault note)
