use Rattle.std.proofs.Common.{◌||◌, ◌∙◌, Bor, ℕ, List, ap, refl}
use Rattle.std.specs.List.{list_any}
use Rattle.std.specs.Str.{bytes_eq}
use Rattle.program_lints.specs.UnusedLabels.{is_among}
use Rattle.program_lints.proofs.LineEnds.{last_word, with_word}
use Rattle.program_lints.proofs.unused_label.add_end.Goals as goal

pub returns-in_ok-insert : goal.returns-in_ok-insert
returns-in_ok-insert c =
    λ name. ap (λ (words : List (Bor (List ℕ))). list_any (λ w. bytes_eq name w.now) words)
    c.in_ok-insert.ensures.keys
    ∙ with_word name c.args.ends.now.keys _ _ refl
    ∙ ap (λ b. is_among c.args.ends.now name || b)
    (last_word name c.args.words.now c.in-len2-up.len_at_least)
