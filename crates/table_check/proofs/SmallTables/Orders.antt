-- Rails that are turned on in order, and a need that is withdrawn.
use Rattle.std.proofs.Common.{◌≤◌, ◌+◌, ℕ, Some, List, [], ◌∷◌}
use Rattle.std.proofs.Common.{drop, refl, inl, inr, arith, lit≤, lit<}
use Rattle.std.proofs.lemmas.Bool.{false≢true, eqb-true}
use Rattle.pmbus_table.specs.Codes.{operation_code, status_word_code}
use Rattle.seq_program.specs.declared.instr.Instr.{Instr}
use Rattle.seq_program.specs.declared.instr.Instr.TheVariants as to
use Rattle.seq_program.specs.declared.instr.Width.TheVariants as width
use Rattle.seq_program.specs.declared.instr.Written.TheVariants as written
use Rattle.facts.specs.declared.duties.rule.Rule.TheVariants.{K5}
use Rattle.facts.specs.declared.domain.source.Source.TheVariants as source
use Rattle.facts.specs.domain.Sets.{empty, only}
use Rattle.facts.specs.domain.Rows.{Row, IsRow, most_ticks}
use Rattle.seq_program.specs.Requests.{write}
use Rattle.facts.specs.duties.Duties.{HasNeeds}
use Rattle.facts.specs.transfer.Edges.{good_bits}
use Rattle.table_check.specs.Tables.{Table}
use Rattle.table_check.specs.checker.Rules.{Starts}
use Rattle.table_check.specs.checker.Obligations.{Start, AllHold, IsInductive, IsFirstFault}
use Rattle.table_check.specs.checker.Obligations.{IsVerdict}
use Rattle.table_check.specs.declared.checker.verdict.Verdict.TheVariants.{Refused}
use Rattle.table_check.specs.checker.Obligations.{shapes, of_row, of_places}
use Rattle.table_check.specs.checker.SmallTables.{two_rails, small_rail, known_row, any_row}
use Rattle.table_check.specs.checker.SmallTables.{reported_row, a_word, ordered_program}
use Rattle.table_check.specs.checker.SmallTables.{ordered_table}
use Rattle.table_check.specs.checker.SmallTables.{withdrawn_program, withdrawn_table}
use Rattle.table_check.proofs.SmallTables.KnownRows.{is_row, is_known_row, holds_starts}
use Rattle.table_check.proofs.SmallTables.Enabling.{first_on, asks, looks, second_on, first_off}
use Rattle.table_check.proofs.SmallTables.Enabling.{turned}
use Rattle.table_check.proofs.SmallTables.Owed.{reads_one_page, is_unprotected, ends, fails}
use Rattle.table_check.proofs.SmallTables.Owed.{and_then, past}

-- ---- rows

is_any_row : (base : ℕ) → base ≤ most_ticks → IsRow two_rails (any_row base)
is_any_row base most =
    is_row empty a_word source.None base (λ d x. absurd (false≢true x)) (lit≤ tt) (lit< tt) tt most

is_reported_row : (base : ℕ) → base ≤ most_ticks → IsRow two_rails (reported_row empty base)
is_reported_row base most =
    is_row empty a_word (source.Status 0) base (λ d x. absurd (false≢true x)) (lit≤ tt) (lit< tt)
    (lit< tt) most

is_good_row : (base : ℕ) → base ≤ most_ticks → IsRow two_rails (reported_row (only 0) base)
is_good_row base most =
    is_row (only 0) a_word (source.Status 0) base (λ d x. let none = eqb-true d 0 x in
    omega (arith, none)) (lit≤ tt) (lit< tt) (lit< tt) most

-- ---- in order

-- what the places from one on owe
abbrev From : List Instr → Table → ℕ → Type 0
From p t place = AllHold two_rails p t (of_places two_rails place (drop place p) (drop place t))

ordered_last : From ordered_program ordered_table 5
ordered_last =
    let p = ordered_program in
    let t = ordered_table in
    and_then p t 5 to.End (drop 6 p) (any_row 1) (drop 6 t)
    (ends p t 5 empty a_word source.None 1 (lit≤ tt))
    (and_then p t 6 to.Fail [] (any_row 1) [] (fails p t 6 empty a_word source.None 1 (lit≤ tt)) tt)

ordered_second : From ordered_program ordered_table 3
ordered_second =
    let p = ordered_program in
    let t = ordered_table in
    and_then p t 3 to.Fail (drop 4 p) (any_row 1) (drop 4 t)
    (fails p t 3 empty a_word source.None 1 (lit≤ tt))
    (and_then p t 4 (to.Write 1 operation_code (written.Byte 0x80) 6) (drop 5 p)
    (reported_row (only 0) 87) (drop 5 t) (second_on p t 87 1 1 6 refl refl (lit≤ tt) (lit≤ tt))
    ordered_last)

ordered_first : From ordered_program ordered_table 0
ordered_first =
    let p = ordered_program in
    let t = ordered_table in
    and_then p t 0 (to.Write 0 operation_code (written.Byte 0x80) 6) (drop 1 p) (known_row 317)
    (drop 1 t) (first_on p t 317 231 1 6 refl refl (lit≤ tt) (lit≤ tt))
    (and_then p t 1 (to.Read 0 status_word_code width.Word 0 6) (drop 2 p) (known_row 231)
    (drop 2 t) (asks p t 231 88 1 6 refl refl (lit≤ tt) (lit≤ tt))
    (and_then p t 2 (to.If 0 good_bits 0 4) (drop 3 p) (reported_row empty 88) (drop 3 t)
    (looks p t 88 87 1 refl refl (lit≤ tt) (lit≤ tt)) ordered_second))

pub in_order : IsInductive two_rails ordered_program ordered_table
in_order =
    let first = is_known_row 317 (lit≤ tt) in
    let asking = is_known_row 231 (lit≤ tt) in
    let looking = is_reported_row 88 (lit≤ tt) in
    let good = is_good_row 87 (lit≤ tt) in
    let end = is_any_row 1 (lit≤ tt) in
    let start : Starts two_rails ordered_table = (known_row 317, refl, holds_starts 317) in
    (refl, (first, (asking, (looking, (end, (good, (end, (end, (start, ordered_first)))))))))

-- ---- out of order

-- the places from one on have the fault that the second rail is turned on while its need isn't good
abbrev Told : ℕ → Type 0
Told place =
    let p = withdrawn_program in
    let t = withdrawn_table in
    IsFirstFault two_rails p t (of_places two_rails place (drop place p) (drop place t))
    (Some (5, K5))

not_good : HasNeeds two_rails (any_row 300) 1 (write operation_code (written.Byte 0x80)) → ⊥
not_good needs =
    absurd (false≢true (needs refl refl 1 (small_rail 1 3300000 (0 ∷ [])) refl refl 0 0 (lit< tt)))

told_at_five : Told 5
told_at_five =
    let sent = turned (any_row 300) 1 0x41 0x80 refl (lit≤ tt) refl in
    let alone = reads_one_page empty a_word source.None 300 1
    (write operation_code (written.Byte 0x80)) in
    let free = is_unprotected empty a_word source.None 300 1
    (write operation_code (written.Byte 0x80)) in
    inl (sent, inl (alone, inl (free, inl (tt, inr (not_good, refl)))))

further : (place : ℕ) (i : Instr) (is' : List Instr) (row : Row) (rows : Table)
    → AllHold two_rails withdrawn_program withdrawn_table (of_row two_rails place i row)
    → IsFirstFault two_rails withdrawn_program withdrawn_table
    (of_places two_rails (place + 1) is' rows) (Some (5, K5))
    → IsFirstFault two_rails withdrawn_program withdrawn_table
    (of_places two_rails place (i ∷ is') (Some row ∷ rows)) (Some (5, K5))
further place i is' row rows here rest =
    past withdrawn_program withdrawn_table (of_row two_rails place i row)
    (of_places two_rails (place + 1) is' rows) (Some (5, K5)) here rest

told_at_three : Told 3
told_at_three =
    let p = withdrawn_program in
    let t = withdrawn_table in
    further 3 to.Fail (drop 4 p) (any_row 1) (drop 4 t)
    (fails p t 3 empty a_word source.None 1 (lit≤ tt))
    (further 4 (to.Write 0 operation_code (written.Byte 0x00) 7) (drop 5 p)
    (reported_row (only 0) 500) (drop 5 t) (first_off p t 500 300 1 7 refl refl (lit≤ tt) (lit≤ tt))
    told_at_five)

told : Told 0
told =
    let p = withdrawn_program in
    let t = withdrawn_table in
    further 0 (to.Write 0 operation_code (written.Byte 0x80) 7) (drop 1 p) (known_row 1000)
    (drop 1 t) (first_on p t 1000 800 1 7 refl refl (lit≤ tt) (lit≤ tt))
    (further 1 (to.Read 0 status_word_code width.Word 0 7) (drop 2 p) (known_row 800)
    (drop 2 t) (asks p t 800 600 1 7 refl refl (lit≤ tt) (lit≤ tt))
    (further 2 (to.If 0 good_bits 0 4) (drop 3 p) (reported_row empty 600) (drop 3 t)
    (looks p t 600 500 1 refl refl (lit≤ tt) (lit≤ tt)) told_at_three))

rows_are_shaped : AllHold two_rails withdrawn_program withdrawn_table (shapes 0 withdrawn_table)
rows_are_shaped =
    let first = is_known_row 1000 (lit≤ tt) in
    let asking = is_known_row 800 (lit≤ tt) in
    let looking = is_reported_row 600 (lit≤ tt) in
    let good = is_good_row 500 (lit≤ tt) in
    let off = is_any_row 300 (lit≤ tt) in
    let end = is_any_row 1 (lit≤ tt) in
    (first, (asking, (looking, (end, (good, (off, (end, (end, tt))))))))

pub need_is_withdrawn : IsVerdict two_rails withdrawn_program withdrawn_table (Refused 5 K5)
need_is_withdrawn =
    let p = withdrawn_program in
    let t = withdrawn_table in
    let os = Start ∷ of_places two_rails 0 p t in
    let start : Starts two_rails t = (known_row 1000, refl, holds_starts 1000) in
    let found = past p t (shapes 0 t) os (Some (5, K5)) rows_are_shaped
    (inl (start, told)) in
    (Some (5, K5), inl (refl, found), refl)
