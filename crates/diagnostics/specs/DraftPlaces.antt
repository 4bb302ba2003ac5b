-- The note on what can't be drafted: where it stands.
use Rattle.std.specs.Prelude.{◌≡◌, ℕ, List, Option, None, MatchOption, IsSomeAnd, codes, slice_get}
use Rattle.texts.specs.Words.{lines_by_feed}
use Rattle.bundles.specs.Bundles.{Section}
use Rattle.notes.specs.Notes.{IsOn}
use Rattle.notes.specs.declared.level.Level.TheVariants.{Error}
use Rattle.notes.specs.declared.note.Note.{Note}
use Rattle.session.specs.SectionTexts.{section_text}
use Rattle.session.specs.declared.draft_fault.DraftFault.{DraftFault}
use Rattle.session.specs.declared.draft_fault.DraftFault.TheVariants as faults
use Rattle.text_notes.specs.Boards.{IsOnSomeLine}

-- on a line of the board
abbrev pub IsOnBoard : List Section → Option Note → Type 0
IsOnBoard sections note =
    MatchOption (slice_get sections 0) (note ≡ None)
    (λ section. IsOnSomeLine (section_text section) note)

-- on the line of the plan that is no wish, or else on one of the board
abbrev pub IsOnDraftFault : List Section → List ℕ → DraftFault → Option Note → Type 0
IsOnDraftFault sections plan (faults.BadPlan fault) note =
    IsSomeAnd note (IsOn Error (codes "%plan") fault.line (lines_by_feed plan))
IsOnDraftFault sections plan (faults.Circle rail) note = IsOnBoard sections note
IsOnDraftFault sections plan (faults.NoEntry target form code) note = IsOnBoard sections note
IsOnDraftFault sections plan (faults.OverLimit rail) note = IsOnBoard sections note
IsOnDraftFault sections plan faults.TooLong note = IsOnBoard sections note
IsOnDraftFault sections plan (faults.NotAccepted place rule) note = IsOnBoard sections note
