use Rattle.std.proofs.Common.{◌∙◌, ap, is_some, unwrap_or, sym}
use Rattle.seq_program.proofs.ValidPrograms.{known_is_among}
use Rattle.seq_program.specs.PassViews.{labels_view}
use Rattle.seq_program.proofs.line.jump_to.Goals as goal

pub returns-clause-among : goal.returns-clause-among
returns-clause-among c = λ known count below.
    let place = c.unwrap_or.ensures ∙ ap (λ o. unwrap_or o 0) c.place_of-place.ensures in
    let test = c.is_some.ensures ∙ ap (λ o. is_some o) c.place_of-place.ensures in
    rw place (known_is_among (labels_view c.args.labels.now) c.args.name.now (sym test ∙ known)
    count below)
