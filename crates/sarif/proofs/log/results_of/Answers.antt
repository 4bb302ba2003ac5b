use Rattle.std.proofs.Common.{◌≡◌, ◌+◌, ◌++◌, ◌∷◌, ◌∙◌, List, ap, drop, map, subst, sym}
use Rattle.std.proofs.lemmas.List.{at_drop_more}
use Rattle.serde_json.specs.Data.{Data}
use Rattle.serde_json.specs.View.{view}
use Rattle.serde_json.specs.declared.value.Value.{Value}
use Rattle.notes.specs.declared.print.InFile.{InFile}
use Rattle.sarif.specs.Logs.{named, result_of, results_of}
use Rattle.sarif.proofs.Pushed.{one_more}
use Rattle.sarif.proofs.log.results_of.Goals as goal

pub loop-named-preserved : goal.loop-named-preserved
loop-named-preserved c =
    let xs = c.args.notes.now in
    let i = c.loop-named.named-index in
    let x = c.named-item.result in
    let All : List InFile → List Data = λ l. results_of (map named l) in
    let later = All (drop (i + 1) xs) in
    let P : List Value → Type 0 = λ items. map view items ++ later ≡ All xs in
    subst P (sym c.in_ok-push.ensures.items)
    (one_more c.loop-named.results.items c.in_ok-result_of.field-0
    (result_of x.name.now x.note.now) (All (drop i xs)) later (All xs) c.loop-named.invariant
    (at_drop_more All xs i x c.loop-named-test.true
    ∙ ap (λ (y : InFile). result_of y.name.now y.note.now ∷ later) (sym c.named-item.is))
    c.in_ok-result_of.ensures)
