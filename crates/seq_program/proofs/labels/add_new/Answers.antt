use Rattle.std.proofs.Common.{◌≡◌, ◌∙◌, ap, map, None, false, string_bytes}
use Rattle.std.specs.String.{string_eq}
use Rattle.indexmap.specs.IndexMap.{get}
use Rattle.indexmap.proofs.CallerLemmas.{insert_entry-new}
use Rattle.seq_program.specs.Labels.{has_label}
use Rattle.seq_program.specs.PassViews.{label_view, labels_view}
use Rattle.seq_program.proofs.LabelEntries.{absent_label, label_view-push}
use Rattle.seq_program.proofs.labels.add_new.Goals as goal

pub returns-clause-added : goal.returns-clause-added
returns-clause-added c =
    let k = c.in_ok-from_str.field-0 in
    let has : has_label (string_bytes k) (labels_view c.args.labels.now) ≡ false =
    rw c.in_ok-from_str.ensures.ok c.requires in
    let none : get string_eq c.args.labels.now k ≡ None =
    absent_label (string_bytes k) c.args.labels.now.entries has in
    ap (map label_view) (c.in_ok-insert.ensures.entries
    ∙ insert_entry-new string_eq c.args.labels.now k c.args.at none)
    ∙ label_view-push c.args.labels.now.entries k c.args.name.now c.args.at
    c.in_ok-from_str.ensures.ok
