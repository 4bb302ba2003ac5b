use Rattle.std.proofs.Common.{◌≡◌, codes, sym}
use Rattle.std.proofs.lemmas.Slice.Eq.{bytes_eq-Decides}
use Rattle.bundles.proofs.Silence.{dash_is_silence}
use Rattle.bundles.proofs.answer_lines.answer_line_of.Goals as goal

pub returns-then-eq-clause-value : goal.returns-then-eq-clause-value
returns-then-eq-clause-value c =
    let dash : c.args.line.now ≡ codes "-" =
    (bytes_eq-Decides c.args.line.now (codes "-")).0 (sym c.if-eq.ensures) in
    rw (dash, c.silent.ensures) (dash_is_silence c.args.number)
