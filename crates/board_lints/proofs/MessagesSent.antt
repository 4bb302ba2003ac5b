-- The messages of a program, one place after another.
use Rattle.std.proofs.Common.{◌≡◌, ◌<◌, ◌++◌, ◌+◌, ◌∙◌, ℕ, List, [], ◌∷◌, Some, None, length}
use Rattle.std.proofs.Common.{drop, sym, ap, option_and_then, replicate}
use Rattle.std.proofs.lemmas.List.{append_assoc, at_drop_more}
use Rattle.std.proofs.lemmas.Option.{slice_get-get_or}
use Rattle.smbus.specs.Asked.{Asked}
use Rattle.board.specs.Boards.{Board}
use Rattle.seq_program.specs.declared.instr.Instr.{Instr}
use Rattle.seq_program.specs.declared.instr.Instr.TheVariants as instr
use Rattle.seq_program.specs.Messages.{message_of}
use Rattle.board_lints.specs.Reasons.{joined, message_at, sent_by}

from_place : (b : Board) (p : List Instr) (k : ℕ) → k < length p
    → sent_by b (drop k p) ≡ joined (message_at b p k) (sent_by b (drop (k + 1) p))
from_place b p k lt =
    at_drop_more (sent_by b) p k instr.End lt
    ∙ ap (λ o. joined (option_and_then (λ i. message_of b i (replicate 8 0)) o)
    (sent_by b (drop (k + 1) p))) (sym (slice_get-get_or p k instr.End lt))

pub one_sent : (b : Board) (p : List Instr) (k : ℕ) (ms : List Asked) (m : Asked) → k < length p
    → message_at b p k ≡ Some m
    → (ms ++ m ∷ []) ++ sent_by b (drop (k + 1) p) ≡ ms ++ sent_by b (drop k p)
one_sent b p k ms m lt e =
    append_assoc ms (m ∷ []) (sent_by b (drop (k + 1) p))
    ∙ ap (λ later. ms ++ later)
    (sym (from_place b p k lt ∙ ap (λ o. joined o (sent_by b (drop (k + 1) p))) e))

pub none_sent : (b : Board) (p : List Instr) (k : ℕ) → k < length p → message_at b p k ≡ None
    → sent_by b (drop (k + 1) p) ≡ sent_by b (drop k p)
none_sent b p k lt e =
    sym (from_place b p k lt ∙ ap (λ o. joined o (sent_by b (drop (k + 1) p))) e)
