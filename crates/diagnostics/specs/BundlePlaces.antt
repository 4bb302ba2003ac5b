-- The line of a bundle's fault: in the whole bundle, or in the section that has it.
use Rattle.std.specs.Prelude.{ℕ, ◌-◌, List, MatchOption, slice_get}
use Rattle.texts.specs.Words.{lines_by_feed}
use Rattle.bundles.specs.Bundles.{Section, header_text}
use Rattle.bundles.specs.declared.command.Header.{Header}
use Rattle.bundles.specs.declared.command.Header.TheVariants.{Message, Answers, Seed}
use Rattle.bundles.specs.declared.fault.BundleFault.{BundleFault}
use Rattle.bundles.specs.declared.fault.BundleFault.TheVariants as faults
use Rattle.session.specs.SectionTexts.{section_text}
use Rattle.text_notes.specs.BundleLines.{IsOnBundleLine, line_in}
use Rattle.notes.specs.declared.level.Level.TheVariants.{Error}
use Rattle.notes.specs.declared.note.Note.{Note}
use Rattle.notes.specs.Notes.{IsOn}

-- the note is on the line of a section that has this number in the bundle
abbrev pub IsOnPart : Header → Section → ℕ → Note → Type 0
IsOnPart header section line note =
    IsOn Error (header_text header) (line - (section.first_line - 1))
    (lines_by_feed (section_text section)) note

abbrev pub IsOnSectionLine : List ℕ → List Section → Header → ℕ → ℕ → Note → Type 0
IsOnSectionLine text sections header index line note =
    MatchOption (slice_get sections index) (IsOnBundleLine text line note)
    (λ section. IsOnPart header section line note)

-- in the section that has it, or on a line of the bundle
abbrev pub IsOnFault : List ℕ → List Section → BundleFault → Note → Type 0
IsOnFault text sections (faults.BadMessage line flaw) note =
    IsOnSectionLine text sections Message 0 line note
IsOnFault text sections (faults.BadAnswer line flaw) note =
    IsOnSectionLine text sections Answers 2 line note
IsOnFault text sections (faults.BadSeed line flaw) note =
    IsOnSectionLine text sections Seed 2 line note
IsOnFault text sections fault note = IsOnBundleLine text (line_in fault) note
