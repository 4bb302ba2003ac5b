-- Notes, and the one form in which they are printed.
use Rattle.std.specs.Prelude.{◌≡◌, ◌++◌, ◌&&◌, ℕ, List, [], Option, Some, None, flat_map, map}
use Rattle.std.specs.Prelude.{codes}
use Rattle.std.specs.Prelude.{option_copied, option_map, string_bytes, unwrap_or, if◌then◌else◌}
use Rattle.std.specs.Fmt.{decimal}
use Rattle.texts.specs.Words.{lines_by_feed}
use Rattle.notes.specs.declared.level.Level.{Level}
use Rattle.notes.specs.declared.level.Level.TheVariants.{Error, Warning, Info}
use Rattle.notes.specs.declared.note.Note.{Note}
use Rattle.notes.specs.Lines.{line_at}
use Rattle.notes.specs.Marks.{column_behind, mark_of}
use Rattle.notes.specs.ShownLines.{is_plain, IsShown}

abbrev pub level_word : Level → List ℕ
level_word Error = codes "error"
level_word Warning = codes "warning"
level_word Info = codes "note"

-- the first line of a text
abbrev pub one_line : List ℕ → List ℕ
one_line text = unwrap_or (line_at 1 (lines_by_feed text)) []

-- `:14` for a column, if it is known
abbrev pub column_text : Option ℕ → List ℕ
column_text None = []
column_text (Some column) = codes ":" ++ decimal column

-- `program.txt:3:14: error: `
abbrev pub head_in : List ℕ → Note → List ℕ
head_in name n =
    name ++ codes ":" ++ decimal n.line ++ column_text n.column ++ codes ": "
    ++ level_word n.level ++ codes ": "

-- a message in a line
abbrev pub said : List ℕ → List ℕ
said message = one_line message ++ codes "\n"

-- a line that is indented, if there is one
abbrev pub indented : Option (List ℕ) → List ℕ
indented None = []
indented (Some line) = codes "    " ++ line ++ codes "\n"

-- a line of what is known beside
abbrev pub noted : List ℕ → List ℕ
noted fact = codes "note: " ++ one_line fact ++ codes "\n"

-- a line of what may help
abbrev pub helped : List ℕ → List ℕ
helped help = codes "help: " ++ one_line help ++ codes "\n"

-- a line that names a page, if there is one
abbrev pub paged : Option (List ℕ) → List ℕ
paged None = []
paged (Some page) = codes "help: pmseq explain " ++ page ++ codes "\n"

-- the place and the message in a line, the source line, and a mark below the word
abbrev pub saying_in : List ℕ → Note → List ℕ
saying_in name n =
    head_in name n ++ said (string_bytes n.message) ++ indented (option_map string_bytes n.source)
    ++ indented (option_map string_bytes n.mark)

-- and below them what is known, help, and where there is more: a note on a file of this name
abbrev pub printed_in : List ℕ → Note → List ℕ
printed_in name n =
    saying_in name n ++ flat_map noted (map string_bytes n.facts.items)
    ++ flat_map helped (map string_bytes n.helps.items) ++ paged (option_copied n.page)

-- a note of a level on a line of a section, which has this number, and which it shows
pub record IsQuoting (level : Level) (section : List ℕ) (number : ℕ) (line : Option (List ℕ))
    (n : Note) : Type 0 where
  pub of_level : n.level ≡ level
  pub in_section : string_bytes n.section ≡ section
  pub on_line : n.line ≡ number
  pub shows : IsShown line (option_map string_bytes n.source)

-- the same on the line that has this number among all lines of the section
abbrev pub IsOn : Level → List ℕ → ℕ → List (List ℕ) → Note → Type 0
IsOn level section number lines n = IsQuoting level section number (line_at number lines) n

-- the mark below a word, where its line is shown as it is
abbrev pub mark_if_plain : List ℕ → List ℕ → Option (List ℕ)
mark_if_plain before word =
    if is_plain before && is_plain word then Some (mark_of before word) else None

-- the second note is on each line that the first is on
abbrev pub StaysOn : Note → Note → Type 0
StaysOn old new =
    (level : Level) (section : List ℕ) (number : ℕ) (line : Option (List ℕ))
    → IsQuoting level section number line old → IsQuoting level section number line new

-- the same note with the column of a word and a mark below it
pub record IsMarked (before word : List ℕ) (old new : Note) : Type 0 where
  pub column : new.column ≡ Some (column_behind before)
  pub mark : option_map string_bytes new.mark ≡ mark_if_plain before word
  pub rest : new ≡ record old { column = new.column; mark = new.mark }
