-- What the places of small tables owe: a row's obligations, and those of the places after it.
use Rattle.std.proofs.Common.{◌≤◌, ◌+◌, ℕ, zero, suc, Option, Some, None, List, [], ◌∷◌}
use Rattle.std.proofs.Common.{◌++◌, map, refl, inl}
use Rattle.std.proofs.lemmas.Bool.{false≢true}
use Rattle.seq_program.specs.declared.instr.Instr.{Instr}
use Rattle.seq_program.specs.declared.instr.Instr.TheVariants as to
use Rattle.facts.specs.declared.duties.rule.Rule.{Rule}
use Rattle.facts.specs.declared.duties.rule.Rule.TheVariants.{K1, K2, K3, K4, K5}
use Rattle.facts.specs.declared.domain.source.Source.{Source}
use Rattle.facts.specs.declared.domain.span.Span.{Span}
use Rattle.facts.specs.domain.Sets.{Set}
use Rattle.facts.specs.domain.Rows.{Row}
use Rattle.seq_program.specs.Requests.{Transaction, Request, request_in}
use Rattle.facts.specs.duties.Duties.{ReadsOnePage, IsUnprotected, Meets, MeetsSent, duties}
use Rattle.facts.specs.transfer.Edges.{Edge}
use Rattle.facts.specs.transfer.TimedEdges.{timed}
use Rattle.table_check.specs.Tables.{Table}
use Rattle.table_check.specs.checker.Obligations.{Obligation, Duty, AllHold, IsFirstFault, of_row}
use Rattle.table_check.specs.checker.Obligations.{of_edges, of_places}
use Rattle.table_check.specs.checker.SmallTables.{two_rails, row_at}
use Rattle.table_check.proofs.SmallTables.KnownRows.{is_zero, Leads, pays_end}

-- ---- duties that every message meets, since PAGE and WRITE_PROTECT are 0

pub reads_one_page : (good : Set) (span : Span) (s : Source) (base i : ℕ) (r : Transaction)
    → ReadsOnePage (row_at good span s base) i r
reads_one_page good span s base zero r paged reads = refl
reads_one_page good span s base (suc zero) r paged reads = refl
reads_one_page good span s base (suc (suc i)) r paged reads = refl

pub is_unprotected : (good : Set) (span : Span) (s : Source) (base i : ℕ) (r : Transaction)
    → IsUnprotected (row_at good span s base) i r
is_unprotected good span s base zero r writes protect stored = rw (is_zero protect stored) refl
is_unprotected good span s base (suc zero) r writes protect stored =
    rw (is_zero protect stored) refl
is_unprotected good span s base (suc (suc i)) r writes protect stored = absurd (false≢true stored)

sends_alone : (good : Set) (span : Span) (s : Source) (base : ℕ) (o : Option Request)
    → MeetsSent two_rails (row_at good span s base) o K2
sends_alone good span s base None = tt
sends_alone good span s base (Some m) = reads_one_page good span s base m.target m.transaction

sends_freely : (good : Set) (span : Span) (s : Source) (base : ℕ) (o : Option Request)
    → MeetsSent two_rails (row_at good span s base) o K3
sends_freely good span s base None = tt
sends_freely good span s base (Some m) = is_unprotected good span s base m.target m.transaction

-- ---- places

-- the other duties are met, and then two edges lead on
pub leads_on : (p : List Instr) (t : Table) (place worst : ℕ) (i : Instr) (good : Set)
    (span : Span) (s : Source) (base : ℕ) (e f : Edge)
    → Meets two_rails (row_at good span s base) i K1
    → Meets two_rails (row_at good span s base) i K4
    → Meets two_rails (row_at good span s base) i K5 → Leads t worst e → Leads t worst f
    → AllHold two_rails p t
    (map (Duty place i (row_at good span s base)) duties
    ++ of_edges place (timed worst (e ∷ f ∷ [])))
leads_on p t place worst i good span s base e f k1 k4 k5 on off =
    let k2 = sends_alone good span s base (request_in i) in
    let k3 = sends_freely good span s base (request_in i) in
    (k1, (k2, (k3, (k4, (k5, (on.0, (on.1, (off.0, (off.1, tt)))))))))

pub ends : (p : List Instr) (t : Table) (place : ℕ) (good : Set) (span : Span) (s : Source)
    (base : ℕ) → 1 ≤ base
    → AllHold two_rails p t (of_row two_rails place to.End (row_at good span s base))
ends p t place good span s base enough =
    (tt, (tt, (tt, (tt, (tt, (pays_end good span s base enough, tt))))))

pub fails : (p : List Instr) (t : Table) (place : ℕ) (good : Set) (span : Span) (s : Source)
    (base : ℕ) → 1 ≤ base
    → AllHold two_rails p t (of_row two_rails place to.Fail (row_at good span s base))
fails p t place good span s base enough =
    (tt, (tt, (tt, (tt, (tt, (pays_end good span s base enough, tt))))))

-- ---- one after another

both_hold : (p : List Instr) (t : Table) (xs ys : List Obligation) → AllHold two_rails p t xs
    → AllHold two_rails p t ys → AllHold two_rails p t (xs ++ ys)
both_hold p t [] ys h k = k
both_hold p t (x ∷ xs) ys h k = (h.0, both_hold p t xs ys h.1 k)

-- a row's obligations, and those of the places after it
pub and_then : (p : List Instr) (t : Table) (place : ℕ) (i : Instr) (is' : List Instr) (row : Row)
    (rows : Table) → AllHold two_rails p t (of_row two_rails place i row)
    → AllHold two_rails p t (of_places two_rails (place + 1) is' rows)
    → AllHold two_rails p t (of_places two_rails place (i ∷ is') (Some row ∷ rows))
and_then p t place i is' row rows here rest =
    both_hold p t (of_row two_rails place i row) (of_places two_rails (place + 1) is' rows) here
    rest

-- a fault further on
pub past : (p : List Instr) (t : Table) (xs ys : List Obligation) (found : Option (ℕ × Rule))
    → AllHold two_rails p t xs → IsFirstFault two_rails p t ys found
    → IsFirstFault two_rails p t (xs ++ ys) found
past p t [] ys found h k = k
past p t (x ∷ xs) ys found h k = inl (h.0, past p t xs ys found h.1 k)
