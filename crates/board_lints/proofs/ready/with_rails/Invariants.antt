use Rattle.std.proofs.Common.{take}
use Rattle.board_lints.specs.Ready.{AreRails, AreAmong}
use Rattle.board_lints.proofs.ready.with_rails.Given as goal

abbrev pub invariant-loop-other : goal.invariant-loop-other
invariant-loop-other l = record {
  rails : AreRails l.board l.more.items;
  kept : AreAmong l.fn.rails.items l.more.items;
  has : AreAmong (take l.other-index l.others) l.more.items;
}
