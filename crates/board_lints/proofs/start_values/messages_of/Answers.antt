use Rattle.std.proofs.Common.{◌++◌, ◌+◌, ◌∙◌, sym, ap, drop}
use Rattle.board_lints.specs.Reasons.{sent_by}
use Rattle.board_lints.proofs.MessagesSent.{one_sent, none_sent}
use Rattle.board_lints.proofs.start_values.messages_of.Goals.{in-Some+in_ok-push, in_default}
use Rattle.board_lints.proofs.start_values.messages_of.Goals as goal

pub loop-place-preserved : goal.loop-place-preserved
loop-place-preserved c =
    let b = c.args.board.now in
    let p = c.args.program.now in
    let k = c.loop-place.place in
    let within = rw c.places-place-end.ensures.count at c.loop-place-test.true in
    elim c.match-branch-2.branch [
      | in-Some+in_ok-push w ↦
          ap (λ v. v.items ++ sent_by b (drop (k + 1) p)) w.messages-is
          ∙ ap (λ ms. ms ++ sent_by b (drop (k + 1) p)) w.in_ok-push.ensures.items
          ∙ one_sent b p k c.loop-place.messages.items w.in-Some.message within
          (sym c.in_ok-message.ensures ∙ w.in-Some.is)
          ∙ c.loop-place.invariant
      | in_default w ↦
          ap (λ v. v.items ++ sent_by b (drop (k + 1) p)) w.messages-is
          ∙ ap (λ later. c.loop-place.messages.items ++ later)
          (none_sent b p k within (sym c.in_ok-message.ensures ∙ w.in_default.is))
          ∙ c.loop-place.invariant
    ]
