use Rattle.std.proofs.Common.{◌∙◌, ap}
use Rattle.facts.specs.domain.Sets.{Set, gains, pages_in}
use Rattle.program_lints.proofs.Selected.{both_select}
use Rattle.program_lints.proofs.selecting.all_select.Goals as goal

pub returns-then-page-lt32 : goal.returns-then-page-lt32
returns-then-page-lt32 c = λ t stored has.
    both_select (pages_in c.with-then-page-lt32.result) c.args.page stored
    (c.with-then-page-lt32.ensures ∙ ap (λ (s : Set). gains s 0xFF)
    (c.with.ensures ∙ ap (λ (s : Set). gains s c.args.page) c.empty.ensures))
    (c.covers.ensures.exact.0 t stored has)
