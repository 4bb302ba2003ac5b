-- A flat table that was accepted, for a program that sends a message over which another controller
-- may win.
use Rattle.std.proofs.Common.{◌≡◌, ◌<◌, ◌≤◌, ◌+◌, ℕ, zero, suc, Some, List, [], ◌∷◌, drop}
use Rattle.std.proofs.Common.{replicate, slice_index_or, refl, sym, subst, ◌∙◌, inl, arith}
use Rattle.std.proofs.Common.{lit≤, lit<}
use Rattle.std.specs.Prelude.{IsTrue, None, IfSome}
use Rattle.std.specs.List.{All}
use Rattle.std.proofs.lemmas.Bool.{false≢true}
use Rattle.std.proofs.lemmas.List.Elements.{All-from_recursion, All-replicate}
use Rattle.board.specs.Valid.{is_page_value}
use Rattle.seq_program.specs.declared.instr.Instr.{Instr}
use Rattle.seq_program.specs.declared.instr.Instr.TheVariants as instr
use Rattle.seq_program.specs.Valid.{IsInstr, IsProgram, jump_in}
use Rattle.facts.specs.declared.domain.source.Source.TheVariants as source
use Rattle.facts.specs.declared.domain.span.Span.{Span}
use Rattle.facts.specs.domain.Sets.{Set, empty, only}
use Rattle.facts.specs.domain.Rows.{Row, IsRow, IsSetOf, IsSource, IsSpan, InSpans, RowCovers}
use Rattle.facts.specs.domain.Rows.{SpansCover, no_span, most_ticks, set_at}
use Rattle.facts.specs.duties.Duties.{one}
use Rattle.facts.specs.transfer.Edges.{edge, a_byte}
use Rattle.facts.specs.transfer.Ticks.{frame_ticks}
use Rattle.facts.specs.well_formed.Starts.{HoldsStarts}
use Rattle.table_check.specs.FlatTables.{IsFlatRow, IsFlat}
use Rattle.table_check.specs.Tables.{Table, row_of}
use Rattle.table_check.specs.checker.FirstVersion.{SomeFlatCase, worst_ticks, uncounted}
use Rattle.table_check.specs.checker.FirstVersion.{uncounted_places}
use Rattle.table_check.specs.checker.Obligations.{Obligation, AllHold, IsFirstFault}
use Rattle.table_check.specs.checker.Rules.{IsCovered, Pays, PaysEnd}
use Rattle.table_check.proofs.OneTarget.{board, is_board, alone, the_target}
use Rattle.table_check.proofs.Places.{some_same, none_some}
use Rattle.table_check.proofs.SmallTables.KnownRows.{is_zero}

-- ---- a program that asks who alerts

abbrev asks : Instr
asks = instr.Alert 0 2

abbrev program : List Instr
program = asks ∷ instr.End ∷ instr.Fail ∷ []

is_program : IsProgram program
is_program =
    let jumps = λ (i : Instr). IfSome (jump_in i) (λ place. place < 3) in
    record {
      some = lit≤ tt;
      few = lit≤ tt;
      each = All-from_recursion IsInstr program (lit< tt, (tt, (tt, tt)));
      jumps = All-from_recursion jumps program (lit< tt, (tt, (tt, tt)));
      last = refl;
    }

-- ---- its table

-- so many ticks are left, registers hold bytes, and any number of arbitrations was lost
abbrev row : ℕ → Row
row base = record {
  pages = only 0 ∷ [];
  protects = only 0 ∷ [];
  good = empty;
  regs = replicate 8 a_byte;
  sources = replicate 8 source.None;
  counters = replicate 4 (one 0);
  lost = record { lo = 0; hi = 2 };
  base = base;
  coeffs = replicate 4 0;
  lost_coeff = 0;
}

-- the longest frame of another controller takes 86 ticks, and the message fewer
abbrev table : Table
table = Some (row 87) ∷ Some (row 1) ∷ Some (row 1) ∷ []

flat : (base : ℕ) (r : Row) → Some (row base) ≡ Some r → IsFlatRow board r
flat base r e =
    subst (IsFlatRow board) (some_same (row base) r e) (record { lost = refl; lost_coeff = refl })

is_flat : IsFlat board table
is_flat zero r at = flat 87 r at
is_flat (suc zero) r at = flat 1 r at
is_flat (suc (suc zero)) r at = flat 1 r at
is_flat (suc (suc (suc n))) r at = absurd (none_some r at)

abbrev zeros : List Set
zeros = only 0 ∷ []

is_row : (base : ℕ) → base ≤ most_ticks → IsRow board (row base)
is_row base most = record {
  page_sets = refl;
  protect_sets = refl;
  pages = the_target (λ i t. IsSetOf (λ v. IsTrue (is_page_value t.pages v)) (set_at zeros i))
      (record { some = (0, refl); each = λ v k. rw (is_zero v k) refl });
  protects = λ i lt.
      let first : i ≡ 0 = omega (arith, lt) in
      rw first (record { some = (0, refl); each = λ v k. rw (is_zero v k) refl });
  good = λ d k. absurd (false≢true k);
  reg_count = refl;
  regs = λ r lt. All-replicate IsSpan 8 a_byte (omega arith) r no_span lt;
  reg_range = λ r lt. All-replicate (λ x. x.hi < 65536) 8 a_byte (lit< tt) r no_span lt;
  source_count = refl;
  sources = λ r lt. All-replicate (IsSource board) 8 source.None tt r source.None lt;
  counter_count = refl;
  counters = λ c lt.
      All-replicate (λ x. IsSpan x × (x.hi ≤ 1000)) 4 (one 0) (omega arith, omega arith) c no_span
      lt;
  lost = omega arith;
  lost_range = omega arith;
  base = most;
  coeff_count = refl;
  coeffs = λ c lt. All-replicate (λ k. k ≤ most_ticks) 4 0 (omega arith) c 0 lt;
  lost_coeff = omega arith;
}

no_source : (n r : ℕ) → slice_index_or (replicate n source.None) r source.None ≡ source.None
no_source zero r = refl
no_source (suc n) zero = refl
no_source (suc n) (suc r) = no_source n r

zeros_inside : (n high : ℕ)
    → InSpans (replicate n (record { lo = 0; hi = high })) (replicate n 0)
zeros_inside zero high = tt
zeros_inside (suc n) high = ((omega arith, omega arith), zeros_inside n high)

holds_starts : HoldsStarts board (row 87)
holds_starts =
    let zero_is_in = alone (λ v. IsTrue (only 0 v)) 0 refl in
    record {
      pages = the_target (λ i t. All (λ v. IsTrue (set_at zeros i v)) t.start_pages) zero_is_in;
      protects =
          the_target (λ i t. All (λ v. IsTrue (set_at zeros i v)) t.start_protects) zero_is_in;
      good = λ d k. false≢true k;
      regs = zeros_inside 8 255;
      counters = zeros_inside 4 0;
      sources = no_source 8;
      lost = (omega arith, omega arith);
      lost_coeff = refl;
    }

-- ---- what it owes

spans_cover : (n : ℕ) (s : Span) → SpansCover (replicate n s) (replicate n s)
spans_cover zero s = tt
spans_cover (suc n) s = ((omega arith, omega arith), spans_cover n s)

covers : RowCovers board (row 1) (row 87)
covers = record {
  pages = λ i lt v k. k;
  protects = λ i lt v k. k;
  good = λ v k. k;
  regs = spans_cover 8 a_byte;
  sources = λ x. inl (no_source 8 x);
  counters = spans_cover 4 (one 0);
  lost = (omega arith, omega arith);
}

enough : worst_ticks board asks + 1 ≤ 87
unfolding frame_ticks
enough = lit≤ tt

-- an edge's row is covered, and pays for the message or the frame in its place
leads : (to : ℕ) → row_of table to ≡ Some (row 1)
    → IsCovered board table (edge to (row 87))
    × Pays board table (worst_ticks board asks) (edge to (row 87))
leads to at = ((row 1, at, covers), pays)
  where
    pays : Pays board table (worst_ticks board asks) (edge to (row 87))
    pays next there counters inside lost here =
        let same : row 1 ≡ next = some_same (row 1) next (sym at ∙ there) in
        rw (← same) (omega (arith, enough))

pays_end : PaysEnd board (row 1)
pays_end counters inside lost here = omega arith

-- what the places from one on owe: no instruction has duties, and those that end have no edges
abbrev From : ℕ → Type 0
From n = AllHold board program table (uncounted_places board n (drop n program) (drop n table))

at_fail : From 2
at_fail = (tt, (tt, (tt, (tt, (tt, (pays_end, tt))))))

at_end : From 1
at_end = (tt, (tt, (tt, (tt, (tt, (pays_end, at_fail))))))

at_asks : From 0
at_asks =
    let done = leads 1 refl in
    let failed = leads 2 refl in
    (tt, (tt, (tt, (tt, (tt, (done.0, (done.1, (failed.0, (failed.1, at_end)))))))))

all_hold : AllHold board program table (uncounted board program table)
all_hold =
    let first = is_row 87 (lit≤ tt) in
    let end = is_row 1 (lit≤ tt) in
    (refl, (first, (end, (end, ((row 87, refl, holds_starts), at_asks)))))

none_fails : (os : List Obligation) → AllHold board program table os
    → IsFirstFault board program table os None
none_fails [] h = refl
none_fails (o ∷ os) h = inl (h.0, none_fails os h.1)

pub some_flat_case : SomeFlatCase
some_flat_case = record {
  board = board;
  program = program;
  table = table;
  bound = 87;
  place = 0;
  instr = asks;
  is_board = is_board;
  is_program = is_program;
  contended = lit< tt;
  there = refl;
  sends = refl;
  flat = is_flat;
  accepted = (None, none_fails (uncounted board program table) all_hold, refl);
}
