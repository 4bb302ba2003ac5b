use Rattle.std.proofs.Common.{All, ℕ, List, sym, subst}
use Rattle.std.specs.Prelude.{IsTrue}
use Rattle.std.proofs.lemmas.List.{take_all}
use Rattle.board_lints.specs.Ready.{is_ready}
use Rattle.board_lints.proofs.circle.stuck_need.Goals as goal

pub unreachable-requires-2 : goal.unreachable-requires-2
unreachable-requires-2 c =
    let P : List ℕ → Type 0 = λ needs.
    All (λ need. IsTrue (is_ready c.args.ready.now need)) needs in
    let needs = c.needs-need-items.result.now in
    let all : P needs =
    subst P (take_all c.loop-need.need-index needs c.loop-need-test.false) c.loop-need.invariant in
    cc (
      c.requires.all c.args.rail c.in-Some.stuck.now (sym c.in-Some.ensures)
          (subst P c.needs-need-items.ensures all),
      c.requires.stuck,
    )
