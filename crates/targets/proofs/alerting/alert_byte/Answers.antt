use Rattle.std.proofs.Common.{◌≡◌, Some, [], List, drop, ◌+◌, ◌∙◌, refl, sym, ap}
use Rattle.std.proofs.lemmas.List.{drop_all}
use Rattle.std.proofs.lemmas.Option.{slice_get_read}
use Rattle.wires.specs.Bits.{bit}
use Rattle.board.specs.Boards.{Target}
use Rattle.targets.specs.States.{BusState}
use Rattle.targets.specs.Alerting.{address_byte}
use Rattle.targets.specs.Least.{lesser, least_with}
use Rattle.targets.proofs.AlertBytes.{bytes_from, drop_at, sent_at, quiet_at}
use Rattle.targets.proofs.AlertBytes.{wire_is_least, wire_is_sent}
use Rattle.targets.proofs.alerting.alert_byte.Goals as goal
use Rattle.targets.proofs.alerting.alert_byte.Goals.{then-is_set, else-is_set}

pub loop-index-preserved : goal.loop-index-preserved
loop-index-preserved c =
    let i = c.loop-index.index in
    let s = c.args.state.now in
    let t = c.target-item.result in
    let within = rw c.targets-target-items.ensures.targets at c.loop-index-test.true in
    let is = rw c.targets-target-items.ensures.targets at c.target-item.is in
    let later : List Target = drop (i + 1) c.args.board.now.targets in
    let d = drop_at c.args.board.now.targets i t
    (sym (slice_get_read c.args.board.now.targets _ i t refl within is)) in
    let kept = rw d at c.loop-index.invariant in
    let seen : c.state.inside.alerting ≡ s.alerting =
    ap (λ (s : BusState). s.alerting) c.state.view_is in
    let tested : bit s.alerting i ≡ c.is_set.result =
    ap (λ n. bit n i) (sym seen) ∙ sym c.is_set.ensures in
    elim c.if-is_set.branch [
      | then-is_set w ↦
          let e : c.if-is_set.least ≡ Some (lesser c.loop-index.least (address_byte t)) = cc in
          ap (λ o. least_with o (bytes_from s (i + 1) later)) e
          ∙ (sym (sent_at s c.loop-index.least i t later (tested ∙ w.if-is_set.true)) ∙ kept)
      | else-is_set w ↦
          ap (λ o. least_with o (bytes_from s (i + 1) later)) w.least-is
          ∙ (sym (quiet_at s c.loop-index.least i t later (tested ∙ w.if-is_set.false)) ∙ kept)
    ]

pub returns : goal.returns
returns c =
    let all = rw c.targets-target-items.ensures.targets at c.loop-index-test.false in
    let d : drop c.loop-index.index c.args.board.now.targets ≡ [] =
    drop_all c.loop-index.index c.args.board.now.targets all in
    let least = rw d at c.loop-index.invariant in
    record {
      byte =
          wire_is_least c.least_byte_wins.ensures c.args.board.now c.args.state.now
          c.loop-index.least c.targets-target-items.ensures.board least;
      sent = wire_is_sent c.args.board.now c.args.state.now c.loop-index.least least;
      board = c.targets-target-items.ensures.board;
    }
