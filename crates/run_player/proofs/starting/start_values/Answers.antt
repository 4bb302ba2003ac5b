use Rattle.run_player.proofs.Listed.{may_start}
use Rattle.run_player.proofs.starting.start_values.Goals as goal

pub returns : goal.returns
returns c =
    may_start c.args.board.now c.in_ok-pages.pages.items c.in_ok-protects.protects.items
    c.in_ok-pages.ensures c.in_ok-protects.ensures
