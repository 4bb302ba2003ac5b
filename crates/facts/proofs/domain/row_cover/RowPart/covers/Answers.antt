use Rattle.std.proofs.Common.{rules}
use Rattle.facts.proofs.Coded.RowCovering.{rows_cover, row_covers}
use Rattle.facts.proofs.Sound.RowChanges.{covers_admits}
use Rattle.facts.specs.domain.Rows.{row_view}
use Rattle.facts.proofs.domain.row_cover.RowPart.covers.Goals as goal

pub returns-clause-sound : goal.returns-clause-sound
returns-clause-sound c = λ covers at admits.
    covers_admits at.board (row_view c.args.self.now) (row_view c.args.other.now) at.machine
    at.history
    (rows_cover at.board c.args.self.now c.args.other.now (c.parts_cover.ensures.0 covers)) admits

pub returns-clause-rows : goal.returns-clause-rows
returns-clause-rows c = λ b s u.
    row_covers b c.args.self.now c.args.other.now c.parts_cover.result
    (search rules) s.pages u.pages s.protects u.protects c.parts_cover.ensures
