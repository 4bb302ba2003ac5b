-- What a note says, as one text.
use Rattle.std.specs.Prelude.{ℕ, List, ◌++◌, codes, flat_map, map, string_bytes}
use Rattle.notes.specs.declared.note.Note.{Note}

abbrev pub facts_text : List (List ℕ) → List ℕ
facts_text facts = flat_map (λ fact. codes "\nnote: " ++ fact) facts

abbrev pub helps_text : List (List ℕ) → List ℕ
helps_text helps = flat_map (λ help. codes "\nhelp: " ++ help) helps

-- the message, what is known beside and what may help, a line each
abbrev pub message_text : Note → List ℕ
message_text n =
    string_bytes n.message
    ++ (facts_text (map string_bytes n.facts.items)
    ++ helps_text (map string_bytes n.helps.items))
