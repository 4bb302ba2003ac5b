-- What is to blame where an edge or an instruction breaks a rule.
use Rattle.std.proofs.Common.{◌≡◌, ◌∙◌, ◌+◌, ℕ, Some, None, List, [], All, map, take}
use Rattle.std.proofs.Common.{sym, ap, subst, inl, inr, slice_get}
use Rattle.std.specs.Prelude.{Option, option_map, IfSome, IsTrue}
use Rattle.std.proofs.lemmas.Option.{slice_get-map, slice_get_within, get_or_from_slice_get}
use Rattle.board.specs.Boards.{Board}
use Rattle.seq_program.specs.declared.instr.Instr.{Instr}
use Rattle.seq_program.specs.Programs.{is_end}
use Rattle.facts.specs.declared.domain.row.Row.{Row as CodeRow}
use Rattle.facts.specs.declared.duties.rule.Rule.{Rule}
use Rattle.facts.specs.domain.Rows.{Row, RowCovers}
use Rattle.facts.specs.transfer.Edges.{Edge}
use Rattle.facts.specs.transfer.TimedEdges.{timed_edges}
use Rattle.facts.specs.transfer.Ways.{timed_view}
use Rattle.facts.proofs.Coded.Firsts.{one_more}
use Rattle.table_check.specs.Tables.{Table, row_of}
use Rattle.table_check.specs.declared.checker.breach.Breach.{Breach}
use Rattle.table_check.specs.declared.checker.breach.Breach.TheVariants as breach
use Rattle.table_check.specs.checker.Breaches.{KeepsEdge, BreaksEdge, BreaksFirst, BreaksAt}
use Rattle.table_check.specs.checker.Breaches.{BreaksThere, IsToBlame}
use Rattle.table_check.specs.checker.Looking.{EndsUnpaid, FindsUnpaid, at_both, at_place, fault_at}
use Rattle.table_check.specs.checker.Obligations.{IsFirstFault, of_row}
use Rattle.table_check.proofs.Broken.{of_one, kept, unpaid}
use Rattle.table_check.proofs.Lacking.{unpaid_fails}
use Rattle.table_check.proofs.Places.{none_some}

-- an edge whose ticks may not fall
pub paid_or_not : (b : Board) (p : List Instr) (t : Table) (place : ℕ) (next : Row) (index : ℕ)
    (e : Edge × ℕ) (found : Option Breach) → Some next ≡ row_of t e.0.to
    → RowCovers b next e.0.row → FindsUnpaid b next index e found
    → IsFirstFault b p t (of_one place e.1 e.0) (option_map (fault_at place) found)
paid_or_not b p t place next index e None there covers h =
    kept b p t place e.1 e.0 next there covers h
paid_or_not b p t place next index e
    (Some (breach.Unpaid edge to spot needed left)) there covers h =
    unpaid b p t place e.1 e.0 next there covers
    (unpaid_fails b e.1 next e.0.row spot needed left h.2)
paid_or_not b p t place next index e (Some breach.Length) there covers h = absurd h
paid_or_not b p t place next index e (Some (breach.Shape part)) there covers h = absurd h
paid_or_not b p t place next index e (Some breach.NoStart) there covers h = absurd h
paid_or_not b p t place next index e (Some (breach.Start part)) there covers h = absurd h
paid_or_not b p t place next index e (Some (breach.Duty v)) there covers h = absurd h
paid_or_not b p t place next index e (Some (breach.NoRow edge to)) there covers h = absurd h
paid_or_not b p t place next index e (Some (breach.Uncovered edge to part)) there covers h =
    absurd h
paid_or_not b p t place next index e (Some (breach.UnpaidEnd spot)) there covers h = absurd h

pub unpaid_breaks : (b : Board) (t : Table) (next : Row) (index : ℕ) (e : Edge × ℕ)
    (found : Option Breach) → Some next ≡ row_of t e.0.to → FindsUnpaid b next index e found
    → IfSome found (BreaksEdge b t index e)
unpaid_breaks b t next index e None there h = tt
unpaid_breaks b t next index e (Some (breach.Unpaid edge to spot needed left)) there h =
    (h.0, h.1, (next, ap (row_of t) h.1 ∙ sym there, h.2))
unpaid_breaks b t next index e (Some breach.Length) there h = absurd h
unpaid_breaks b t next index e (Some (breach.Shape part)) there h = absurd h
unpaid_breaks b t next index e (Some breach.NoStart) there h = absurd h
unpaid_breaks b t next index e (Some (breach.Start part)) there h = absurd h
unpaid_breaks b t next index e (Some (breach.Duty v)) there h = absurd h
unpaid_breaks b t next index e (Some (breach.NoRow edge to)) there h = absurd h
unpaid_breaks b t next index e (Some (breach.Uncovered edge to part)) there h = absurd h
unpaid_breaks b t next index e (Some (breach.UnpaidEnd spot)) there h = absurd h

-- an edge keeps K6 and K7 where no fault is told of it
pub no_fault_keeps : (b : Board) (p : List Instr) (t : Table) (place : ℕ) (e : Edge × ℕ)
    → IsFirstFault b p t (of_one place e.1 e.0) None → KeepsEdge b t e
no_fault_keeps b p t place e (inl (covered, inl h)) = (covered, h.0)
no_fault_keeps b p t place e (inl (covered, inr h)) = absurd (none_some _ h.1)
no_fault_keeps b p t place e (inr h) = absurd (none_some _ h.1)

pub fault_breaks : (b : Board) (p : List Instr) (t : Table) (place : ℕ) (e : Edge × ℕ)
    (f : ℕ × Rule) → IsFirstFault b p t (of_one place e.1 e.0) (Some f) → KeepsEdge b t e → ⊥
fault_breaks b p t place e f (inl (covered, inl h)) k = absurd (none_some f (sym h.1))
fault_breaks b p t place e f (inl (covered, inr h)) k = h.0 k.1
fault_breaks b p t place e f (inr h) k = h.0 k.0

-- edges of the code, one after another
viewed : (es : List (ℕ × CodeRow × ℕ)) (n : ℕ) (e : ℕ × CodeRow × ℕ) → slice_get es n ≡ Some e
    → slice_get (map timed_view es) n ≡ Some (timed_view e)
viewed es n e here = slice_get-map timed_view es n ∙ ap (option_map timed_view) here

pub keeps_more : (b : Board) (t : Table) (es : List (ℕ × CodeRow × ℕ)) (n : ℕ)
    (e : ℕ × CodeRow × ℕ) → slice_get es n ≡ Some e
    → All (KeepsEdge b t) (take n (map timed_view es)) → KeepsEdge b t (timed_view e)
    → All (KeepsEdge b t) (take (n + 1) (map timed_view es))
keeps_more b t es n e here all k =
    let there = viewed es n e here in
    one_more (KeepsEdge b t) (map timed_view es) n (timed_view e)
    (slice_get_within (map timed_view es) n (timed_view e) there)
    (sym (get_or_from_slice_get (map timed_view es) n (timed_view e) (timed_view e) there)) all k

pub first_breaks : (b : Board) (t : Table) (es : List (ℕ × CodeRow × ℕ)) (n : ℕ)
    (e : ℕ × CodeRow × ℕ) (by : Breach) (f : ℕ × Rule) → slice_get es n ≡ Some e
    → All (KeepsEdge b t) (take n (map timed_view es))
    → IsFirstFault b [] t (of_one 0 e.2 (timed_view e).0) (Some f)
    → BreaksEdge b t n (timed_view e) by → BreaksFirst b t (map timed_view es) by
first_breaks b t es n e by f here all fault breaks = record {
  index = n;
  edge = timed_view e;
  first = record {
    here = viewed es n e here;
    fails = fault_breaks b [] t 0 (timed_view e) f fault;
    before = all;
  };
  breaks = breaks;
}

-- what breaks an edge is to blame for the instruction
pub edge_breaks_there : (b : Board) (t : Table) (place : ℕ) (i : Instr) (row : Row) (by : Breach)
    → BreaksFirst b t (timed_edges b place i row) by → BreaksAt b t place i row by
edge_breaks_there b t place i row breach.Length h = h
edge_breaks_there b t place i row (breach.Shape part) h = h
edge_breaks_there b t place i row breach.NoStart h = h
edge_breaks_there b t place i row (breach.Start part) h = h
edge_breaks_there b t place i row (breach.Duty v) h = absurd h.breaks
edge_breaks_there b t place i row (breach.NoRow edge to) h = h
edge_breaks_there b t place i row (breach.Uncovered edge to part) h = h
edge_breaks_there b t place i row (breach.Unpaid edge to spot needed left) h = h
edge_breaks_there b t place i row (breach.UnpaidEnd spot) h = absurd h.breaks

-- an end
pub end_breaks_there : (b : Board) (t : Table) (place : ℕ) (i : Instr) (row : Row)
    (found : Option Breach) → IsTrue (is_end i) → IfSome found (EndsUnpaid b row)
    → IfSome found (BreaksAt b t place i row)
end_breaks_there b t place i row None is h = tt
end_breaks_there b t place i row (Some (breach.UnpaidEnd spot)) is h = (is, h)
end_breaks_there b t place i row (Some breach.Length) is h = absurd h
end_breaks_there b t place i row (Some (breach.Shape part)) is h = absurd h
end_breaks_there b t place i row (Some breach.NoStart) is h = absurd h
end_breaks_there b t place i row (Some (breach.Start part)) is h = absurd h
end_breaks_there b t place i row (Some (breach.Duty v)) is h = absurd h
end_breaks_there b t place i row (Some (breach.NoRow edge to)) is h = absurd h
end_breaks_there b t place i row (Some (breach.Uncovered edge to part)) is h = absurd h
end_breaks_there b t place i row (Some (breach.Unpaid edge to spot needed left)) is h = absurd h

-- and what is to blame for the instruction is to blame at its place
there : (b : Board) (p : List Instr) (t : Table) (place : ℕ) (i : Instr) (row : Row) (by : Breach)
    → slice_get p place ≡ Some i → row_of t place ≡ Some row → BreaksAt b t place i row by
    → BreaksThere b p t place by
there b p t place i row by here known h = record {
  instr = i;
  row = row;
  here = here;
  known = known;
  breaks = h;
}

pub to_blame_there : (b : Board) (p : List Instr) (t : Table) (place : ℕ) (i : Instr) (row : Row)
    (by : Breach) → slice_get p place ≡ Some i → row_of t place ≡ Some row
    → BreaksAt b t place i row by → IsToBlame b p t place by
to_blame_there b p t place i row breach.Length here known h = absurd h.breaks
to_blame_there b p t place i row (breach.Shape part) here known h = absurd h.breaks
to_blame_there b p t place i row breach.NoStart here known h = absurd h.breaks
to_blame_there b p t place i row (breach.Start part) here known h = absurd h.breaks
to_blame_there b p t place i row (breach.Duty v) here known h =
    there b p t place i row (breach.Duty v) here known h
to_blame_there b p t place i row (breach.NoRow edge to) here known h =
    there b p t place i row (breach.NoRow edge to) here known h
to_blame_there b p t place i row (breach.Uncovered edge to part) here known h =
    there b p t place i row (breach.Uncovered edge to part) here known h
to_blame_there b p t place i row (breach.Unpaid edge to spot needed left) here known h =
    there b p t place i row (breach.Unpaid edge to spot needed left) here known h
to_blame_there b p t place i row (breach.UnpaidEnd spot) here known h =
    there b p t place i row (breach.UnpaidEnd spot) here known h

-- what is owed at a place is what its instruction owes at its row
pub owed_there : (b : Board) (p : List Instr) (t : Table) (place : ℕ) (i : Instr) (row : Row)
    (found : Option (ℕ × Rule)) → Some i ≡ slice_get p place → Some row ≡ row_of t place
    → IsFirstFault b p t (of_row b place i row) found
    → IsFirstFault b p t (at_place b p t place) found
owed_there b p t place i row found here known h =
    let P : Option Instr → Type 0 = λ o.
    IsFirstFault b p t (at_both b place o (row_of t place)) found in
    let Q : Option Row → Type 0 = λ o. IsFirstFault b p t (at_both b place (Some i) o) found in
    subst P here (subst Q known h)
