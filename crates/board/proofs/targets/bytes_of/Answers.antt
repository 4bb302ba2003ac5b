use Rattle.std.proofs.Common.{◌≡◌, ok_or, length, ap, sym, ◌∙◌, arith}
use Rattle.std.proofs.lemmas.List.{at_drop_all}
use Rattle.toml.specs.View.{items_view}
use Rattle.board.specs.declared.fault.FaultKind.TheVariants.{BadStart}
use Rattle.board.specs.Sites.{item_fault}
use Rattle.board.specs.Targets.{bytes_of}
use Rattle.board.proofs.BytesRead.{byte_read, byte_refused, passed_on, out_of_memory}
use Rattle.board.proofs.targets.bytes_of.Goals as goal

pub loop-value-init : goal.loop-value-init
loop-value-init c = rw c.new-bytes.ensures.items

pub loop-value-preserved : goal.loop-value-preserved
loop-value-preserved c =
    let place : c.len.result ≡ length c.loop-value.bytes.items =
    omega (arith, c.len.ensures, c.loop-value.bytes.ok.0) in
    rw c.in_ok-push.ensures.items
    (byte_read c.args.place c.args.key c.loop-value.bytes.items c.args.values.now
    c.loop-value.value-index c.value-item.result c.in_ok-byte.byte c.at_item-bad.result _
    c.loop-value-test.true c.value-item.is
    (c.at_item-bad.ensures ∙ ap (item_fault BadStart c.args.place c.args.key) place)
    (ap (λ o. ok_or o c.at_item-bad.result) (sym c.byte_in.ensures)
    ∙ (sym c.ok_or.ensures.value ∙ c.in_ok-byte.was))
    c.loop-value.invariant)

pub returns : goal.returns
returns c =
    sym c.loop-value.invariant
    ∙ at_drop_all
    (λ vs. bytes_of c.args.place c.args.key c.loop-value.bytes.items (items_view vs))
    c.args.values.now c.loop-value.value-index c.loop-value-test.false

pub returns-in_err-byte : goal.returns-in_err-byte
returns-in_err-byte c =
    let place : c.len.result ≡ length c.loop-value.bytes.items =
    omega (arith, c.len.ensures, c.loop-value.bytes.ok.0) in
    passed_on (λ v. v.items) c.from_residual.result c.in_err-byte.field-0.0 _
    c.from_residual.ensures.1
    (byte_refused c.args.place c.args.key c.loop-value.bytes.items c.args.values.now
    c.loop-value.value-index c.value-item.result c.at_item-bad.result c.in_err-byte.field-0.0 _
    c.loop-value-test.true c.value-item.is
    (c.at_item-bad.ensures ∙ ap (item_fault BadStart c.args.place c.args.key) place)
    (ap (λ o. ok_or o c.at_item-bad.result) (sym c.byte_in.ensures)
    ∙ (sym c.ok_or.ensures.value ∙ c.in_err-byte.was))
    c.loop-value.invariant)

pub returns-in_err-push : goal.returns-in_err-push
returns-in_err-push c =
    out_of_memory (λ v. v.items) c.from_residual-in_err-push.result _
    c.from_residual-in_err-push.ensures.1
