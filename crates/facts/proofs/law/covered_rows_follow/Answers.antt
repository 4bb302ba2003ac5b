use Rattle.facts.proofs.Sound.RowChanges.{covers_admits}
use Rattle.facts.proofs.Covered.LostEdges.{edges_follow, edges_stay_shaped}
use Rattle.facts.proofs.Covered.Covers.{covers_trans}
use Rattle.facts.proofs.Covered.KeptDuties.{duties_are_kept}
use Rattle.facts.proofs.Witness.Steps.{some_row_is_wider}
use Rattle.facts.proofs.Covered.ElseRows.{else_edges_cover}
use Rattle.facts.proofs.law.covered_rows_follow.Goals as goal

pub returns-clause-duties : goal.returns-clause-duties
returns-clause-duties c = duties_are_kept

pub returns-clause-edges : goal.returns-clause-edges
returns-clause-edges c = edges_follow

pub returns-clause-shapes : goal.returns-clause-shapes
returns-clause-shapes c = edges_stay_shaped

pub returns-clause-some : goal.returns-clause-some
returns-clause-some c =
    some_row_is_wider edges_stay_shaped c.small_programs_are_judged.ensures.some_clearing

pub returns-clause-admits : goal.returns-clause-admits
returns-clause-admits c = covers_admits

pub returns-clause-otherwise : goal.returns-clause-otherwise
returns-clause-otherwise c = else_edges_cover

pub returns-clause-goes_on : goal.returns-clause-goes_on
returns-clause-goes_on c = covers_trans
