-- A printed line reads back where what stands behind its first word does.
use Rattle.std.proofs.Common.{◌≡◌, ℕ, ◌+◌, ◌-◌, ◌<◌, ◌==◌, true, List, [], ◌∷◌, ◌++◌}
use Rattle.std.proofs.Common.{length, take, slice_index_or, Option, Some, None, IfSome, codes}
use Rattle.std.proofs.Common.{Ok, refl, ap, subst, ◌∙◌, arith}
use Rattle.std.specs.List.{list_all}
use Rattle.std.proofs.lemmas.Bool.{and_from, lt-ltb, eq-eqb}
use Rattle.std.proofs.lemmas.List.{length-append, get_or_at, get_or-append-add, take-append-le}
use Rattle.std.proofs.lemmas.List.Folds.{list_all-append}
use Rattle.std.proofs.Math.Seq.{take-length}
use Rattle.board.specs.Boards.{Board}
use Rattle.seq_program.specs.declared.instr.Instr.{Instr}
use Rattle.seq_program.specs.declared.line_word.MessageWord.{MessageWord}
use Rattle.seq_program.specs.declared.line_word.JumpWord.{JumpWord}
use Rattle.seq_program.specs.declared.line_word.PlainWord.{PlainWord}
use Rattle.seq_program.specs.declared.line.LineInstr.{LineInstr}
use Rattle.seq_program.specs.Labels.{Label, places_on, place_of}
use Rattle.seq_program.specs.Labels.{label_in as label_on}
use Rattle.seq_program.specs.Lines.{message_word, jump_word, plain_word, label_in, else_label}
use Rattle.seq_program.specs.Lines.{split_else, split_label}
use Rattle.seq_program.specs.Lines.{message_line, jump_line, plain_line, message_of, jump_of}
use Rattle.seq_program.specs.Lines.{instr_of}
use Rattle.seq_program.specs.Passes.{InstrsSoFar, after_instr, after_words}
use Rattle.seq_program.specs.Valid.{jump_in}
use Rattle.seq_program.specs.WordCounts.{message_count, jump_count}
use Rattle.seq_program.specs.PrintedWords.{place_name}
use Rattle.seq_program.specs.Printed.{else_words, words_in}
use Rattle.seq_program.specs.JoinedWords.{is_word}
use Rattle.seq_program.proofs.PrintedNumbers.{place_word, label_back}
use Rattle.seq_program.proofs.PrintedPlaces.{ReadsBack, IsFound, with_instr}

-- the words before `else`
split_back : (n : ℕ) (front : List (List ℕ)) (place : ℕ) → place < 1024
    → split_else n (front ++ else_words place) ≡ Ok (front, place_name place)
unfolding split_else else_label label_in
split_back n front place few =
    let size : length (front ++ else_words place) ≡ length front + 2 =
    length-append front (else_words place) in
    let at_word : length (front ++ else_words place) - 2 ≡ length front = omega (arith, size) in
    let at_label : length (front ++ else_words place) - 1 ≡ length front + 1 =
    omega (arith, size) in
    let word : slice_index_or (front ++ else_words place) (length front) [] ≡ codes "else" =
    get_or_at front (codes "else") (place_name place ∷ []) [] (length front) refl in
    let last : slice_index_or (front ++ else_words place) (length front + 1) [] ≡ place_name place =
    get_or-append-add front (else_words place) 1 [] in
    let before : take (length front) (front ++ else_words place) ≡ front =
    take-append-le (length front) front (else_words place) (omega arith) ∙ take-length front in
    rw (at_word, at_label, word, last, before, label_back place few) refl

-- the words before a label at the end
label_split_back : (n : ℕ) (front : List (List ℕ)) (place : ℕ) → place < 1024
    → split_label n (front ++ place_name place ∷ []) ≡ Ok (front, place_name place)
unfolding split_label label_in
label_split_back n front place few =
    let size : length (front ++ place_name place ∷ []) ≡ length front + 1 =
    length-append front (place_name place ∷ []) in
    let at_label : length (front ++ place_name place ∷ []) - 1 ≡ length front =
    omega (arith, size) in
    let last : slice_index_or (front ++ place_name place ∷ []) (length front) []
    ≡ place_name place =
    get_or_at front (place_name place) [] [] (length front) refl in
    let before : take (length front) (front ++ place_name place ∷ []) ≡ front =
    take-append-le (length front) front (place_name place ∷ []) (omega arith)
    ∙ take-length front in
    rw (at_label, last, before, label_back place few) refl

-- a line has as many words as its first word tells
counted : (front back : List (List ℕ)) (k count : ℕ) → length back ≡ k
    → length front + k ≡ count → (length (front ++ back) == count) ≡ true
counted front back k count b e =
    eq-eqb (length (front ++ back)) count
    (length-append front back ∙ (ap (λ j. length front + j) b ∙ e))

-- an instruction whose label is known
abbrev known : Instr → LineInstr
known i = record { instr = i; is_known = true }

-- a line adds its instruction
instr_read : (board : Board) (labels : List Label) (n : ℕ) (pass : InstrsSoFar) (i : Instr)
    (word : List ℕ) (words : List (List ℕ)) → label_on (word ∷ words) ≡ None
    → instr_of board labels n word words ≡ Ok (known i) → length pass.instrs < 1024
    → after_words board labels n pass (word ∷ words) ≡ Ok (with_instr pass i)
unfolding after_instr
instr_read board labels n pass i word words alone e few =
    rw (alone, e, lt-ltb (length pass.instrs) 1024 few) refl

read_back : (board : Board) (i : Instr) (word : List ℕ) (words : List (List ℕ))
    → words_in board i ≡ word ∷ words → label_on (word ∷ words) ≡ None
    → list_all is_word (word ∷ words) ≡ true
    → ((labels : List Label) (n : ℕ) → IsFound labels i
    → instr_of board labels n word words ≡ Ok (known i)) → ReadsBack board i
read_back board i word words same alone t said = record {
  words = ap (list_all is_word) same ∙ t;
  unlabeled = ap label_on same ∙ alone;
  placed = ap (λ ws. places_on ws None) same;
  read = λ labels n pass found room.
      ap (after_words board labels n pass) same
      ∙ instr_read board labels n pass i word words alone (said labels n found) room;
}

-- a jump's label
found_at : (labels : List Label) (o : Option ℕ) (place : ℕ) → o ≡ Some place
    → IfSome o (λ p. place_of labels (place_name p) ≡ Some p)
    → place_of labels (place_name place) ≡ Some place
found_at labels None place e found = absurd cc
found_at labels (Some p) place e found =
    let same : p ≡ place = cc in
    subst (λ q. place_of labels (place_name q) ≡ Some q) same found

message_read : (board : Board) (labels : List Label) (n : ℕ) (i : Instr) (w : MessageWord)
    (word : List ℕ) (front : List (List ℕ)) (place : ℕ) → message_word word ≡ Some w
    → place < 1024 → place_of labels (place_name place) ≡ Some place
    → length front + 2 ≡ message_count w → message_line board n w place front ≡ Ok i
    → instr_of board labels n word (front ++ else_words place) ≡ Ok (known i)
unfolding instr_of message_of
message_read board labels n i w word front place e few found count said =
    rw (
      e,
      counted front (else_words place) 2 (message_count w) refl count,
      split_back n front place few,
      found,
      said,
    ) refl

pub message_back : (board : Board) (i : Instr) (w : MessageWord) (word first : List ℕ)
    (rest : List (List ℕ)) (place : ℕ)
    → words_in board i ≡ word ∷ ((first ∷ rest) ++ else_words place) → message_word word ≡ Some w
    → length (first ∷ rest) + 2 ≡ message_count w
    → jump_in i ≡ Some place → place < 1024 → list_all is_word (word ∷ first ∷ rest) ≡ true
    → ((n : ℕ) → message_line board n w place (first ∷ rest) ≡ Ok i) → ReadsBack board i
message_back board i w word first rest place same e count jumps few t said =
    read_back board i word ((first ∷ rest) ++ else_words place) same refl
    (list_all-append is_word (word ∷ first ∷ rest) (else_words place)
    ∙ and_from _ _ t (and_from _ _ (place_word place few) refl))
    (λ labels n found. message_read board labels n i w word (first ∷ rest) place e few
    (found_at labels (jump_in i) place jumps found) count (said n))

jump_read : (board : Board) (labels : List Label) (n : ℕ) (i : Instr) (w : JumpWord)
    (word : List ℕ) (front : List (List ℕ)) (place : ℕ) → message_word word ≡ None
    → jump_word word ≡ Some w → place < 1024 → place_of labels (place_name place) ≡ Some place
    → length front + 1 ≡ jump_count w → jump_line n w place front ≡ Ok i
    → instr_of board labels n word (front ++ place_name place ∷ []) ≡ Ok (known i)
unfolding instr_of jump_of
jump_read board labels n i w word front place none e few found count said =
    rw (
      none,
      e,
      counted front (place_name place ∷ []) 1 (jump_count w) refl count,
      label_split_back n front place few,
      found,
      said,
    ) refl

pub jump_back : (board : Board) (i : Instr) (w : JumpWord) (word : List ℕ)
    (front : List (List ℕ)) (place : ℕ)
    → words_in board i ≡ word ∷ (front ++ place_name place ∷ []) → message_word word ≡ None
    → jump_word word ≡ Some w → length front + 1 ≡ jump_count w → jump_in i ≡ Some place
    → label_on (word ∷ (front ++ place_name place ∷ [])) ≡ None → place < 1024
    → list_all is_word (word ∷ front) ≡ true
    → ((n : ℕ) → jump_line n w place front ≡ Ok i) → ReadsBack board i
jump_back board i w word front place same none e count jumps alone few t said =
    read_back board i word (front ++ place_name place ∷ []) same alone
    (list_all-append is_word (word ∷ front) (place_name place ∷ [])
    ∙ and_from _ _ t (and_from _ _ (place_word place few) refl))
    (λ labels n found. jump_read board labels n i w word front place none e few
    (found_at labels (jump_in i) place jumps found) count (said n))

plain_read : (board : Board) (labels : List Label) (n : ℕ) (i : Instr) (w : PlainWord)
    (word : List ℕ) (words : List (List ℕ)) → message_word word ≡ None → jump_word word ≡ None
    → plain_word word ≡ Some w → plain_line n w words ≡ Ok i
    → instr_of board labels n word words ≡ Ok (known i)
unfolding instr_of
plain_read board labels n i w word words none still e said = rw (none, still, e, said) refl

pub plain_back : (board : Board) (i : Instr) (w : PlainWord) (word : List ℕ)
    (words : List (List ℕ)) → words_in board i ≡ word ∷ words → message_word word ≡ None
    → jump_word word ≡ None → plain_word word ≡ Some w → label_on (word ∷ words) ≡ None
    → list_all is_word (word ∷ words) ≡ true
    → ((n : ℕ) → plain_line n w words ≡ Ok i) → ReadsBack board i
plain_back board i w word words same none still e alone t said =
    read_back board i word words same alone t
    (λ labels n found. plain_read board labels n i w word words none still e (said n))
