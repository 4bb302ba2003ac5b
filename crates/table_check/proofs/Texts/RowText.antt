-- The text of a row, written part by part.
use Rattle.std.proofs.Common.{◌≡◌, ◌++◌, ◌∷◌, ℕ, [], List, append_assoc}
use Rattle.std.proofs.lemmas.Grind.{flat_map-append}
use Rattle.std.proofs.lemmas.List.{append-nil}
use Rattle.table_check.specs.text.Lines.{Words}
use Rattle.table_check.specs.text.Written.{line_text, text_of}

pub row_written : (start head_text page_text protect_text good_text register_text : List ℕ)
    (counter_text lost_text whole : List ℕ) (head good lost ticks : Words)
    (pages protects registers counters : List Words)
    → head_text ≡ start ++ line_text head → page_text ≡ head_text ++ text_of pages
    → protect_text ≡ page_text ++ text_of protects → good_text ≡ protect_text ++ line_text good
    → register_text ≡ good_text ++ text_of registers
    → counter_text ≡ register_text ++ text_of counters
    → lost_text ≡ counter_text ++ line_text lost → whole ≡ lost_text ++ line_text ticks
    → whole
    ≡ start
    ++ text_of (head
    ∷ (pages ++ (protects ++ (good ∷ (registers ++ (counters ++ (lost ∷ ticks ∷ [])))))))
row_written _ _ _ _ _ _ _ _ _ head good lost ticks pages protects registers counters h p q g r c l
    t =
    rw (t, l, c, r, g, q, p, h) (simp (flat_map-append, append_assoc, append-nil))
