use Rattle.std.proofs.Common.{List, ◌<◌, ◌≡◌, false, length, sym, ap, subst, ◌∙◌, arith}
use Rattle.board.specs.Boards.{Rail}
use Rattle.board_lints.specs.Ready.{is_ready, AreRails}
use Rattle.board_lints.proofs.Circles.{more_rails}
use Rattle.board_lints.proofs.ready.with_rail.Goals as goal

pub returns-clause-rails : goal.returns-clause-rails
returns-clause-rails c =
    let b = c.args.board.now in
    let count = ap (λ (rails : List Rail). length rails) c.rails.ensures.rails in
    let within : c.args.rail < length b.rails =
    omega (arith, c.if-rail-rails.false, count) in
    let new : is_ready c.args.rails.items c.args.rail ≡ false =
    rw c.deref.ensures.value at (sym c.is_ready.ensures ∙ c.if-is_ready.false) in
    subst (AreRails b) (sym c.in_ok-push.ensures.items)
    (more_rails b c.args.rails.items c.args.rail c.requires new within)
