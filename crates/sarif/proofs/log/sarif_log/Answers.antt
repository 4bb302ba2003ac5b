use Rattle.std.proofs.Common.{◌≡◌, ◌≤◌, ◌∙◌, Some, ap, map, string_bytes, subst, sym}
use Rattle.std.proofs.lemmas.Result.{IfOk-weaker}
use Rattle.serde_json.specs.Data.{Data, array, depth}
use Rattle.serde_json.specs.Read.{read, max_depth}
use Rattle.serde_json.specs.View.{items_of, view}
use Rattle.sarif.specs.Logs.{log_of, log_with, named}
use Rattle.sarif.proofs.Shallow.{log_depth}
use Rattle.sarif.proofs.log.sarif_log.Goals as goal

pub returns : goal.returns
returns c =
    let version = c.args.version.now in
    let notes = map named c.args.notes.now in
    let is : view c.in_ok-log.log ≡ log_of version notes =
    c.in_ok-log.ensures
    ∙ ap (log_with version) c.from-results.ensures
    ∙ ap (λ ds. log_with version (array (items_of ds))) c.in_ok-results_of.ensures in
    IfOk-weaker c.to_string.result _
    (λ text. read (string_bytes text) ≡ Some (log_of version notes))
    (λ text back.
    back (subst (λ (d : Data). depth d ≤ max_depth) (sym is) (log_depth version notes))
    ∙ ap Some is)
    c.to_string.ensures.reads_back
