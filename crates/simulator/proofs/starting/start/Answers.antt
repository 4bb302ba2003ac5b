use Rattle.std.proofs.Common.{refl}
use Rattle.simulator.proofs.starting.start.Goals as goal

pub returns-clause-belongs : goal.returns-clause-belongs
returns-clause-belongs c = λ p is. record {
  place = is.some;
  bus =
      c.states_belong.ensures.starts c.args.board.now _ c.board_is_valid.ensures
      (c.if-not-starts.ensures.0 refl);
}
