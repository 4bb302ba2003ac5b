-- A voltage within its limit, and one over it.
use Rattle.std.proofs.Common.{◌≡◌, ℕ, Some, []}
use Rattle.std.proofs.Common.{drop, refl, subst, inl, arith, lit≤, lit<, rules, replicate}
use Rattle.std.specs.Prelude.{IsTrue}
use Rattle.std.proofs.lemmas.Bool.{or_left, false≢true}
use Rattle.smbus.specs.declared.message.Form.TheVariants.{WriteWord}
use Rattle.pmbus_table.specs.Codes.{vout_command_code}
use Rattle.pmbus_table.specs.Voltage.{IsWithin}
use Rattle.seq_program.specs.declared.instr.Instr.TheVariants as to
use Rattle.seq_program.specs.declared.instr.Written.TheVariants as written
use Rattle.facts.specs.declared.duties.rule.Rule.TheVariants.{K4}
use Rattle.facts.specs.declared.domain.source.Source.TheVariants as source
use Rattle.facts.specs.domain.Sets.{empty}
use Rattle.pmbus_table.specs.Codes.{all_pages}
use Rattle.facts.specs.domain.Rows.{set_at}
use Rattle.seq_program.specs.Requests.{write}
use Rattle.facts.specs.duties.Duties.{one, touches, MayBeSent, CommandsWithinLimits}
use Rattle.facts.specs.transfer.Edges.{edge}
use Rattle.facts.specs.transfer.Ticks.{frame_ticks}
use Rattle.table_check.specs.Tables.{Table, row_of}
use Rattle.table_check.specs.checker.Rules.{Starts}
use Rattle.table_check.specs.checker.Obligations.{AllHold, IsInductive, of_row}
use Rattle.table_check.specs.checker.SmallTables.{two_rails, small_target, small_rail}
use Rattle.table_check.specs.checker.SmallTables.{voltage_program}
use Rattle.table_check.specs.checker.SmallTables.{voltage_table, entry, known_row}
use Rattle.table_check.proofs.Places.{some_same}
use Rattle.table_check.proofs.ByPlace.{by_place}
use Rattle.table_check.proofs.SmallTables.KnownRows.{each_rail, is_known_row, zeros_inside}
use Rattle.table_check.proofs.SmallTables.KnownRows.{holds_starts, Leads, leads}
use Rattle.table_check.proofs.SmallTables.Owed.{leads_on, ends, fails, and_then}

-- the second rail isn't touched
limits : (base : ℕ) → CommandsWithinLimits two_rails (known_row base) 0
    (write vout_command_code (written.Word 4505))
limits base carries t d r at rail =
    each_rail
    (λ d r. IsTrue (touches (known_row base) 0 r) → IsWithin 4505 t.exponent r.limit_uv)
    (λ touched.
    subst (λ t. IsWithin 4505 t.exponent 1100000) (some_same (small_target 0x40) t at)
    (record { least = search rules; most = search rules; below = omega arith }))
    (λ touched. absurd (false≢true touched)) d r rail

sent : (base : ℕ)
    → MayBeSent two_rails (known_row base) 0 (write vout_command_code (written.Word 4505))
sent base = record {
  target = small_target 0x40;
  at = refl;
  entry = entry WriteWord vout_command_code;
  listed = refl;
  in_entry = (lit≤ tt, lit≤ tt);
  known = tt;
}

-- what is known doesn't change, and a message of a word takes 113 ticks at most
goes : (to : ℕ) → row_of (voltage_table 114) to ≡ Some (known_row 1)
    → Leads (voltage_table 114) 113 (edge to (known_row 114))
goes to at =
    leads (voltage_table 114) 113 to empty empty (one 0) (one 0) source.None source.None 1 114 at
    (λ d k. k) (lit≤ tt, lit≤ tt) (inl refl) (lit≤ tt)

sends : AllHold two_rails (voltage_program 4505) (voltage_table 114)
    (of_row two_rails 0 (to.Write 0 vout_command_code (written.Word 4505) 2) (known_row 114))
unfolding frame_ticks
sends =
    leads_on (voltage_program 4505) (voltage_table 114) 0 113
    (to.Write 0 vout_command_code (written.Word 4505) 2) empty (one 0) source.None 114
    (edge 1 (known_row 114)) (edge 2 (known_row 114)) (sent 114) (limits 114) tt (goes 1 refl)
    (goes 2 refl)

pub within_the_limit : IsInductive two_rails (voltage_program 4505) (voltage_table 114)
within_the_limit =
    let p = voltage_program 4505 in
    let t = voltage_table 114 in
    let first = is_known_row 114 (lit≤ tt) in
    let last = is_known_row 1 (lit≤ tt) in
    let start : Starts two_rails t = (known_row 114, refl, holds_starts 114) in
    let places = and_then p t 0 (to.Write 0 vout_command_code (written.Word 4505) 2) (drop 1 p)
    (known_row 114) (drop 1 t) sends
    (and_then p t 1 to.End (drop 2 p) (known_row 1) (drop 2 t)
    (ends p t 1 empty (one 0) source.None 1 (lit≤ tt))
    (and_then p t 2 to.Fail [] (known_row 1) [] (fails p t 2 empty (one 0) source.None 1 (lit≤ tt))
    tt)) in
    (refl, (first, (last, (last, (start, places)))))

-- the ticks don't fall where there is one less
pub without_a_tick : IsInductive two_rails (voltage_program 4505) (voltage_table 113) → ⊥
unfolding frame_ticks
without_a_tick keeps =
    let both = (by_place two_rails (voltage_program 4505) (voltage_table 113)).0 keeps in
    let i = to.Write 0 vout_command_code (written.Word 4505) 2 in
    let falls = (both.0.goes_on 0 i (known_row 113) refl refl
    (both.1 0 i (known_row 113) refl refl)).falls (edge 1 (known_row 113)) 113 (inl (refl, refl))
    (known_row 1) refl (replicate 4 0) (zeros_inside 4) 0 (omega arith, omega arith) in
    absurd (omega (arith, falls))

-- place 0 has a row that holds every start, so PAGE may be the rail's
pub over_the_limit : (t : Table) → IsInductive two_rails (voltage_program 4506) t → ⊥
over_the_limit t keeps =
    let both = (by_place two_rails (voltage_program 4506) t).0 keeps in
    let start = both.0.start in
    let pages = set_at start.0.pages 0 in
    let touched = or_left (pages 0) (pages all_pages)
    (start.2.pages 0 (small_target 0x40) refl 0 0 (lit< tt)) in
    let within = both.1 0 (to.Write 0 vout_command_code (written.Word 4506) 2) start.0 refl start.1
    K4 refl (small_target 0x40) 0 (small_rail 0 1100000 []) refl refl touched in
    let below = within.below in
    absurd (omega (arith, below))
