-- Texts are those of one table, and written tables read back.
use Rattle.std.proofs.Common.{◌≡◌, ℕ, true, List, [], ◌∷◌, ◌++◌, map, Some, None}
use Rattle.std.proofs.Common.{String, string_bytes, IfOk, Err}
use Rattle.std.proofs.Common.{Result, Ok, refl, sym, ap, ◌∙◌, lit<}
use Rattle.std.specs.List.{AllByRecursion, list_all, flat_map, join_with_byte}
use Rattle.std.proofs.lemmas.Bool.{and_from}
use Rattle.std.specs.declared.alloc.AllocError.{AllocError}
use Rattle.std.specs.declared.alloc.Global.{Global}
use Rattle.std.proofs.lemmas.List.{append_assoc, append-nil}
use Rattle.texts.specs.Words.{lines_by_feed}
use Rattle.board.specs.Boards.{Board}
use Rattle.board.specs.Valid.{IsBoard}
use Rattle.seq_program.specs.JoinedWords.{is_word, LinesReadBack}
use Rattle.table_check.specs.declared.text.fault.TableFault.{TableFault}
use Rattle.table_check.specs.Tables.{Table}
use Rattle.table_check.specs.text.Lines.{Words, words_of_table, line_of, ended, table_text}
use Rattle.table_check.specs.text.Lines.{head_words}
use Rattle.table_check.specs.declared.text.version.Version.TheVariants.{Second}
use Rattle.table_check.specs.text.Writable.{IsWritable, IsShaped, IsTyped}
use Rattle.table_check.specs.text.Texts.{IsTextOf}
use Rattle.table_check.specs.text.TextLaws.{TextsHaveOneTable, TablesHaveTexts, BoardsHaveTables}
use Rattle.table_check.specs.text.Written.{all_spaced, line_text, text_of}
use Rattle.table_check.specs.text.Passes.{Part, no_part}
use Rattle.table_check.proofs.Texts.Known.{KnownOfNumbers}
use Rattle.table_check.proofs.Texts.Stands.{ran, Stands, nothing_read}
use Rattle.table_check.proofs.Texts.Fills.{at, past}
use Rattle.table_check.proofs.Texts.LineWords.{IsLine, table_are_lines}
use Rattle.table_check.proofs.Texts.TableReads.{read_all, writable}
use Rattle.table_check.proofs.Texts.TableFaults.{completed_by}

-- ---- what is written

joined : (word : List ℕ) (words : Words) → line_of (word ∷ words) ≡ word ++ all_spaced words
joined word [] = sym (append-nil word)
joined word (next ∷ words) =
    ap (λ (rest : List ℕ). word ++ (32 ∷ rest)) (joined next words)

line_ended : (words : Words) → line_text words ≡ ended (line_of words)
line_ended [] = refl
line_ended (word ∷ words) =
    sym (append_assoc word (all_spaced words) (10 ∷ []))
    ∙ ap (λ (line : List ℕ). line ++ 10 ∷ []) (sym (joined word words))

texts_ended : (wss : List Words) → text_of wss ≡ flat_map ended (map line_of wss)
texts_ended [] = refl
texts_ended (words ∷ wss) =
    ap (λ (line : List ℕ). line ++ text_of wss) (line_ended words)
    ∙ ap (λ (rest : List ℕ). ended (line_of words) ++ rest) (texts_ended wss)

pub text_is : (b : Board) (t : Table) → text_of (words_of_table Second b t) ≡ table_text b t
text_is b t = texts_ended (words_of_table Second b t)

-- ---- its lines

together : (wss : List Words)
    → flat_map (λ (words : Words). join_with_byte 32 words ++ 10 ∷ []) wss
    ≡ flat_map ended (map line_of wss)
together [] = refl
together (words ∷ wss) =
    ap (λ (rest : List ℕ). ended (line_of words) ++ rest) (together wss)

line_words : (words : Words) → IsLine words → list_all is_word words ≡ true
line_words [] l = absurd l
line_words (word ∷ words) l = l

all_words : (wss : List Words) → AllByRecursion IsLine wss
    → list_all (list_all is_word) wss ≡ true
all_words [] all = refl
all_words (words ∷ wss) all = and_from _ _ (line_words words all.0) (all_words wss all.1)

pub written_back : LinesReadBack → TablesHaveTexts
written_back lines b t board w = (
  w,
  (
    Second,
    tt,
    ap lines_by_feed (sym (together (words_of_table Second b t)))
        ∙ lines (words_of_table Second b t)
        (all_words (words_of_table Second b t) (table_are_lines Second b t board w tt)),
  ),
)

pub text_read : LinesReadBack → (b : Board) (t : Table) (text : List ℕ) → IsBoard b → IsShaped b t
    → text ≡ table_text b t → IsTyped t → IsTextOf b t text
text_read lines b t text board shaped e typed = rw e (written_back lines b t board (shaped, typed))

-- ---- one table

abbrev read : Table → Result Table TableFault
read t = Ok t

same_table : (t u : Table) → read t ≡ read u → t ≡ u
same_table t u e = cc

pub one_table : KnownOfNumbers → TextsHaveOneTable
one_table laws b t u text board p q =
    same_table t u (sym (read_all laws b (lines_by_feed text) t board p)
    ∙ read_all laws b (lines_by_feed text) u board q)

-- ---- some table

pub some_table : KnownOfNumbers → LinesReadBack → BoardsHaveTables
some_table laws lines b board =
    let part : Part = no_part Second b in
    let good = nothing_read Second b board in
    let c = completed_by laws Second b [] part None refl board good in
    let before : Stands Second b (at Second [] part) (head_words 0 ∷ []) =
    record { version = refl; rows = tt; part = good; all = refl } in
    let s =
    ran laws Second b c.more (at Second [] part) (head_words 0 ∷ []) (past Second [] c.row) board
    before c.ran in
    let t : Table = Some c.row ∷ [] in
    let w : IsWritable b t = writable Second b t s.rows (lit< tt) in
    record {
      table = t;
      row = c.row;
      first = refl;
      text = table_text b t;
      is = written_back lines b t board w;
    }

-- ---- what a writer returned

abbrev Answer : Type 0
Answer = Result (String Global) AllocError

pub text_written : (b : Board) (t : Table) (r : Answer)
    → IfOk r (λ text. string_bytes text ≡ text_of (words_of_table Second b t))
    → IfOk r (λ text. string_bytes text ≡ table_text b t)
text_written b t (Ok text) e = e ∙ text_is b t
text_written b t (Err x) e = tt

pub reads_written : LinesReadBack → (b : Board) (t : Table) (r : Answer) → IsBoard b → IsShaped b t
    → IsTyped t → IfOk r (λ text. string_bytes text ≡ text_of (words_of_table Second b t))
    → IfOk r (λ text. IsTextOf b t (string_bytes text))
reads_written lines b t (Ok text) board shaped typed e =
    text_read lines b t (string_bytes text) board shaped (e ∙ text_is b t) typed
reads_written lines b t (Err x) board shaped typed e = tt
