use Rattle.std.proofs.Common.{◌<◌, length}
use Rattle.board_lints.specs.Reasons.{TakesIn}
use Rattle.board_lints.specs.Ready.{is_ready, AreRails}
use Rattle.board_lints.proofs.ToldLints.{ToldSoFar}
use Rattle.board_lints.proofs.circle.push_circles_from.Given as goal

abbrev pub invariant-loop : goal.invariant-loop
invariant-loop l = record {
  rails : AreRails l.board l.ready.items;
  all : TakesIn l.board (is_ready l.ready.items);
  more : length l.fn.lints.items < length l.lints.items;
  told : ToldSoFar l.board l.fn.lints.items l.lints.items l.ready.items;
}
