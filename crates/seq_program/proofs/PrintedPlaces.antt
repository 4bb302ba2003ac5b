-- The lines of places in order: each adds its label and its instruction.
use Rattle.std.proofs.Common.{◌≡◌, ◌≢◌, ℕ, ◌+◌, ◌-◌, ◌<◌, ◌≤◌, true, false, List, [], ◌∷◌, ◌++◌}
use Rattle.std.proofs.Common.{length, map, take, get_or, Some, None, IfSome, codes, Result, Ok}
use Rattle.std.proofs.Common.{All, refl, ap, ◌∙◌, ◌==◌, arith}
use Rattle.std.specs.List.{list_all, join_with_byte, flat_map, enumerate_from}
use Rattle.std.specs.Str.{bytes_eq}
use Rattle.std.specs.Fmt.{decimal}
use Rattle.std.proofs.lemmas.Bool.{and_from}
use Rattle.std.proofs.lemmas.Bool.Decides.{nat_tests}
use Rattle.std.proofs.lemmas.Fmt.{decimal_injective}
use Rattle.std.proofs.lemmas.List.{append-nil, append_assoc, length-append, take-append-le}
use Rattle.std.proofs.lemmas.List.{get_or_push}
use Rattle.std.proofs.lemmas.List.Elements.{All-head, All-tail}
use Rattle.std.proofs.Math.Seq.{take-length}
use Rattle.texts.specs.Reading.{◌>>=◌}
use Rattle.board.specs.Boards.{Board}
use Rattle.seq_program.specs.declared.fault.ProgramFault.{ProgramFault}
use Rattle.seq_program.specs.declared.instr.Instr.{Instr}
use Rattle.seq_program.specs.Operands.{label_of}
use Rattle.seq_program.specs.Labels.{Label, words_on, label_name, label_in, places_on, labels_from}
use Rattle.seq_program.specs.Labels.{label_named, place_of}
use Rattle.seq_program.specs.Passes.{InstrsSoFar, after_words, after_line, after_lines}
use Rattle.seq_program.specs.Valid.{jump_in}
use Rattle.seq_program.specs.PrintedWords.{place_name}
use Rattle.seq_program.specs.Printed.{words_in, place_lines}
use Rattle.seq_program.specs.JoinedWords.{is_word}
use Rattle.seq_program.proofs.JoinedWords.{word-append, words_back}
use Rattle.seq_program.proofs.PrintedNumbers.{place_word, label_back}
use Rattle.seq_program.proofs.PrintedCommands.{bytes_eq-apart}

-- the label of a place, which stands before the line of the place's instruction
abbrev pub line_at : ℕ → ℕ
line_at place = place + place + 1

abbrev pub label_at : ℕ → Label
label_at place = record { name = place_name place; place = place; line = line_at place }

-- all labels from a place on
abbrev pub printed_labels : ℕ → List Instr → List Label
printed_labels place [] = []
printed_labels place (i ∷ instrs) = label_at place ∷ printed_labels (place + 1) instrs

abbrev pub with_instr : InstrsSoFar → Instr → InstrsSoFar
with_instr pass i = record { instrs = pass.instrs ++ i ∷ []; unknown = pass.unknown }

-- the label of its jump leads to its place
abbrev pub IsFound : List Label → Instr → Type 0
IsFound labels i = IfSome (jump_in i) (λ p. place_of labels (place_name p) ≡ Some p)

-- an instruction's words are words and no label, and read as the instruction
pub record ReadsBack (board : Board) (i : Instr) : Type 0 where
  pub words : list_all is_word (words_in board i) ≡ true
  pub unlabeled : label_in (words_in board i) ≡ None
  pub placed : places_on (words_in board i) None ≡ 1
  pub read : (labels : List Label) (n : ℕ) (pass : InstrsSoFar) → IsFound labels i
      → length pass.instrs < 1024
      → after_words board labels n pass (words_in board i) ≡ Ok (with_instr pass i)

-- labels of different places differ
same_tail : (a : ℕ) (x y : List ℕ) → a ∷ x ≡ a ∷ y → x ≡ y
same_tail a x y e = cc

pub names_apart : (j k : ℕ) → j < 1024 → k < 1024 → j ≢ k
    → bytes_eq (place_name j) (place_name k) ≡ false
names_apart j k few less other =
    bytes_eq-apart (place_name j) (place_name k) (λ e. other
    (decimal_injective j k (omega arith) (omega arith) (same_tail 112 (decimal j) (decimal k) e)))

-- the word of a label
abbrev label_word : ℕ → List ℕ
label_word place = place_name place ++ codes ":"

label_is_word : (place : ℕ) → place < 1024 → is_word (label_word place) ≡ true
label_is_word place few = word-append (place_name place) (codes ":") (place_word place few) refl

named : (name : List ℕ) → label_name (name ++ 58 ∷ []) ≡ label_of name
named name =
    let size : length (name ++ 58 ∷ []) ≡ length name + 1 = length-append name (58 ∷ []) in
    let last : length (name ++ 58 ∷ []) - 1 ≡ length name = omega (arith, size) in
    let colon : get_or (name ++ 58 ∷ []) (length name) 0 ≡ 58 =
    get_or_push name 58 0 (length name) refl in
    let front : take (length name) (name ++ 58 ∷ []) ≡ name =
    take-append-le (length name) name (58 ∷ []) (omega arith) ∙ take-length name in
    rw (last, colon, front) refl

label_alone : (place : ℕ) → place < 1024
    → label_in (label_word place ∷ []) ≡ Some (place_name place)
label_alone place few = named (place_name place) ∙ label_back place few

same_line : (n : ℕ) → (n == n) ≡ true
same_line n = grind (arith, nat_tests)

label_read : (board : Board) (labels : List Label) (place : ℕ) (pass : InstrsSoFar) → place < 1024
    → label_named (place_name place) labels ≡ Some (label_at place)
    → after_words board labels (line_at place) pass (label_word place ∷ []) ≡ Ok pass
label_read board labels place pass few found =
    rw (label_alone place few, found, same_line (line_at place)) refl

-- a line is read by its words
line_read : (board : Board) (labels : List Label) (n : ℕ) (pass : InstrsSoFar)
    (words : List (List ℕ))
    → list_all is_word words ≡ true
    → after_line board labels n pass (join_with_byte 32 words)
    ≡ after_words board labels n pass words
unfolding after_line
line_read board labels n pass words t = ap (after_words board labels n pass) (words_back words t)

next : {A B : Type 0} (r : Result A ProgramFault) (x : A) (f : A → Result B ProgramFault) → r ≡ Ok x
    → (r >>= f) ≡ f x
next r x f e = ap (λ s. s >>= f) e

abbrev pub texts_from : Board → ℕ → List Instr → List (List ℕ)
texts_from board place instrs =
    map (join_with_byte 32) (flat_map (place_lines board) (enumerate_from place instrs))

-- the labels that two lines add
label_added : (n place : ℕ) (line name : List ℕ) (more : List (List ℕ))
    → label_in (words_on line) ≡ Some name
    → labels_from n place (line ∷ more)
    ≡ record { name = name; place = place; line = n } ∷ labels_from (n + 1) (place + 0) more
label_added n place line name more e = rw e refl

place_added : (n place : ℕ) (line : List ℕ) (more : List (List ℕ))
    → label_in (words_on line) ≡ None → places_on (words_on line) None ≡ 1
    → labels_from n place (line ∷ more) ≡ labels_from (n + 1) (place + 1) more
place_added n place line more e one = rw (e, one) refl

pub labels_read : (board : Board) (instrs : List Instr) (place : ℕ)
    → place + length instrs ≤ 1024 → All (ReadsBack board) instrs
    → labels_from (line_at place) place (texts_from board place instrs)
    ≡ printed_labels place instrs
labels_read board [] place few back = refl
labels_read board (i ∷ instrs) place few back =
    let own : ReadsBack board i = All-head (ReadsBack board) i instrs back in
    let more : List (List ℕ) = texts_from board (place + 1) instrs in
    let label : words_on (join_with_byte 32 (label_word place ∷ [])) ≡ label_word place ∷ [] =
    words_back (label_word place ∷ [])
    (and_from _ _ (label_is_word place (omega arith)) refl) in
    let words : words_on (join_with_byte 32 (words_in board i)) ≡ words_in board i =
    words_back (words_in board i) own.words in
    let here : place + 0 ≡ place = omega arith in
    let lines : line_at place + 1 + 1 ≡ line_at (place + 1) = omega arith in
    label_added (line_at place) place (join_with_byte 32 (label_word place ∷ []))
    (place_name place) (join_with_byte 32 (words_in board i) ∷ more)
    (ap label_in label ∙ label_alone place (omega arith))
    ∙ ap (λ (ls : List Label). label_at place ∷ ls)
    (ap (λ p. labels_from (line_at place + 1) p (join_with_byte 32 (words_in board i) ∷ more)) here
    ∙ place_added (line_at place + 1) place (join_with_byte 32 (words_in board i)) more
    (ap label_in words ∙ own.unlabeled) (ap (λ ws. places_on ws None) words ∙ own.placed)
    ∙ ap (λ n. labels_from n (place + 1) more) lines
    ∙ labels_read board instrs (place + 1) (omega arith)
    (All-tail (ReadsBack board) i instrs back))

-- the lines of the places from one on, whose labels are these
abbrev AreNamed : List Label → ℕ → ℕ → Type 0
AreNamed labels place count = (p : ℕ) → place ≤ p → p < place + count
    → label_named (place_name p) labels ≡ Some (label_at p)

abbrev pub pass_with : List Instr → InstrsSoFar → InstrsSoFar
pass_with instrs pass = record { instrs = instrs; unknown = pass.unknown }

pub places_read : (board : Board) (labels : List Label) (instrs : List Instr) (place : ℕ)
    (pass : InstrsSoFar) → length pass.instrs ≡ place → place + length instrs ≤ 1024
    → AreNamed labels place (length instrs) → All (ReadsBack board) instrs
    → All (IsFound labels) instrs
    → after_lines board labels (line_at place) pass (texts_from board place instrs)
    ≡ Ok (pass_with (pass.instrs ++ instrs) pass)
places_read board labels [] place pass here few named back found = rw (append-nil pass.instrs) refl
places_read board labels (i ∷ instrs) place pass here few named back found =
    let less : place < 1024 = omega arith in
    let own : ReadsBack board i = All-head (ReadsBack board) i instrs back in
    let after : InstrsSoFar = with_instr pass i in
    let lines : line_at place + 1 + 1 ≡ line_at (place + 1) = omega arith in
    let first : after_line board labels (line_at place) pass
    (join_with_byte 32 (label_word place ∷ [])) ≡ Ok pass =
    line_read board labels (line_at place) pass (label_word place ∷ [])
    (and_from _ _ (label_is_word place less) refl)
    ∙ label_read board labels place pass less (named place (omega arith) (omega arith)) in
    let second : after_line board labels (line_at place + 1) pass
    (join_with_byte 32 (words_in board i)) ≡ Ok after =
    line_read board labels (line_at place + 1) pass (words_in board i) own.words
    ∙ own.read labels (line_at place + 1) pass (All-head (IsFound labels) i instrs found)
    (omega arith) in
    let size : length (pass.instrs ++ i ∷ []) ≡ length pass.instrs + 1 =
    length-append pass.instrs (i ∷ []) in
    let more : after_lines board labels (line_at (place + 1)) after
    (texts_from board (place + 1) instrs) ≡ Ok (pass_with (after.instrs ++ instrs) after) =
    places_read board labels instrs (place + 1) after (omega arith) (omega arith)
    (λ p least most. named p (omega arith) (omega arith)) (All-tail (ReadsBack board) i instrs back)
    (All-tail (IsFound labels) i instrs found) in
    next _ pass (λ p. after_lines board labels (line_at place + 1) p
    (join_with_byte 32 (words_in board i) ∷ texts_from board (place + 1) instrs)) first
    ∙ next _ after
    (λ p. after_lines board labels (line_at place + 1 + 1) p
    (texts_from board (place + 1) instrs)) second
    ∙ ap (λ n. after_lines board labels n after (texts_from board (place + 1) instrs)) lines
    ∙ more
    ∙ ap (λ (is : List Instr). Ok (pass_with is pass)) (append_assoc pass.instrs (i ∷ []) instrs)

-- all words are words
pub all_words : (board : Board) (instrs : List Instr) (place : ℕ) → place + length instrs ≤ 1024
    → All (ReadsBack board) instrs
    → list_all (list_all is_word) (flat_map (place_lines board) (enumerate_from place instrs))
    ≡ true
all_words board [] place few back = refl
all_words board (i ∷ instrs) place few back =
    and_from _ _ (and_from _ _ (label_is_word place (omega arith)) refl)
    (and_from _ _ (All-head (ReadsBack board) i instrs back).words
    (all_words board instrs (place + 1) (omega arith) (All-tail (ReadsBack board) i instrs back)))
