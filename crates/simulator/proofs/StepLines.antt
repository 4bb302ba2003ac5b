-- The lines of steps, one more.
use Rattle.std.proofs.Common.{ℕ, List, [], ◌∷◌, ◌++◌, refl, sym, ap, ◌∙◌, append_assoc}
use Rattle.std.proofs.lemmas.List.{append-nil}
use Rattle.simulator.specs.Machines.{Entry}
use Rattle.simulator.specs.TraceTexts.{IsLine, AreLines}

pub line_more : (entries : List Entry) (text : List ℕ) (e : Entry) (line : List ℕ)
    → AreLines entries text → IsLine e line → AreLines (entries ++ e ∷ []) (text ++ line)
line_more [] text e line lines is = (line, [], is, refl, rw lines (sym (append-nil line)))
line_more (x ∷ entries) text e line lines is =
    let first = lines.0 in
    let rest = lines.1 in (
      first,
      rest ++ line,
      lines.2,
      line_more entries rest e line lines.3 is,
      ap (λ (t : List ℕ). t ++ line) lines.4 ∙ append_assoc first rest line,
    )
