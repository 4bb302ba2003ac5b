use Rattle.std.proofs.Common.{◌∙◌, ap, option_map, refl}
use Rattle.seq_program.specs.declared.labels.LabelAt.{LabelAt}
use Rattle.seq_program.specs.Labels.{Label}
use Rattle.seq_program.proofs.LabelEntries.{lookup-label_named}
use Rattle.seq_program.proofs.labels.place_of.Goals as goal

pub returns-in_err-get : goal.returns-in_err-get
returns-in_err-get c =
    c.from_residual.ensures
    ∙ ap (option_map (λ (at : LabelAt). at.place)) c.in_err-get.ensures.value
    ∙ lookup-label_named (λ (at : LabelAt). at.place) (λ (l : Label). l.place) (λ e. refl)
    c.args.name.now c.args.labels.now.entries

pub returns : goal.returns
returns c =
    ap (option_map (λ (at : LabelAt). at.place)) c.in_ok-get.ensures.value
    ∙ lookup-label_named (λ (at : LabelAt). at.place) (λ (l : Label). l.place) (λ e. refl)
    c.args.name.now c.args.labels.now.entries
