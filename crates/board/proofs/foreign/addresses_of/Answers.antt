use Rattle.std.proofs.Common.{List, ℕ, ap, sym, ◌∙◌}
use Rattle.toml.specs.View.{view}
use Rattle.board.specs.Foreign.{new_foreign}
use Rattle.board.proofs.AddressesRead.{address_refused}
use Rattle.board.proofs.BytesRead.{passed_on_unless}
use Rattle.board.proofs.foreign.addresses_of.Goals as goal

pub returns-in_err-address : goal.returns-in_err-address
returns-in_err-address c =
    passed_on_unless (λ v. v.items) c.from_residual.result c.in_err-address.field-0.0 _
    c.from_residual.ensures.1
    (λ real. address_refused c.args.targets.now c.loop-value.addresses.items c.args.values.now
    c.loop-value.value-index c.value-item.result c.in_err-address.field-0.0 _
    c.loop-value-test.true c.value-item.is
    (ap (λ (done : List ℕ). new_foreign c.args.targets.now done (view c.value-item.result))
    (sym c.as_slice.ensures.value) ∙ c.in_err-address.ensures real)
    c.loop-value.invariant)
