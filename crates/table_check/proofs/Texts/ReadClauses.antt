-- What reading answers, by what the lines are read as.
use Rattle.std.proofs.Common.{◌≡◌, ◌≤◌, ◌<◌, ◌^◌, ℕ, length, Result, Ok, Err, IfOk, IfErr, refl}
use Rattle.std.proofs.Common.{sym}
use Rattle.std.proofs.Common.{◌∙◌}
use Rattle.board.specs.Boards.{Board}
use Rattle.board.specs.Valid.{IsBoard}
use Rattle.table_check.specs.declared.text.fault.TableFault.{TableFault}
use Rattle.table_check.specs.declared.text.fault.TableFault.TheVariants as fault
use Rattle.table_check.specs.declared.table.Table.{Table as CodeTable}
use Rattle.table_check.specs.text.Faults.{Gives}
use Rattle.table_check.specs.Tables.{Table, table_view}
use Rattle.table_check.specs.text.Texts.{Lines, AreLinesOf, FindsTable, CarriesFirst}
use Rattle.table_check.specs.text.Passes.{table_in}
use Rattle.table_check.proofs.Texts.Known.{KnownOfNumbers}
use Rattle.table_check.proofs.Texts.TableReads.{read_only, read_all}
use Rattle.table_check.proofs.Texts.TableFaults.{read_wrong}

abbrev Answer : Type 0
Answer = Result CodeTable TableFault

pub ok_of : KnownOfNumbers → (b : Board) (lines : Lines) (r : Answer) → IsBoard b
    → length lines < 2 ^ 64
    → Gives table_view r (table_in b lines) → IfOk r (λ t. AreLinesOf b (table_view t) lines)
ok_of laws b lines (Ok t) board small g =
    read_only laws b lines (table_view t) board small g
ok_of laws b lines (Err e) board small g = tt

abbrev read : Table → Result Table TableFault
read t = Ok t

same_table : (t u : Table) → read t ≡ read u → t ≡ u
same_table t u e = cc

no_fault : (t : Table) (e : TableFault) → Err e ≡ read t → ⊥
no_fault t e p = cc

not_memory : (n : ℕ) → fault.BadLine n ≡ fault.Memory → ⊥
not_memory n e = cc

pub all_of : KnownOfNumbers → (b : Board) (lines : Lines) (r : Answer) → IsBoard b
    → Gives table_view r (table_in b lines) → FindsTable b lines r
all_of laws b lines (Ok u) board g = λ t are.
    same_table (table_view u) t (sym g ∙ read_all laws b lines t board are)
all_of laws b lines (Err fault.Memory) board g = λ t are. refl
all_of laws b lines (Err (fault.BadLine n)) board g = λ t are.
    absurd
    (no_fault t (fault.BadLine n) (sym (g (not_memory n)) ∙ read_all laws b lines t board are))

pub bad_of : KnownOfNumbers → (b : Board) (lines : Lines) (r : Answer) → IsBoard b
    → length lines ≤ 2 ^ 63
    → Gives table_view r (table_in b lines) → IfErr r (λ e. CarriesFirst b lines e)
bad_of laws b lines (Ok t) board small g = tt
bad_of laws b lines (Err fault.Memory) board small g = tt
bad_of laws b lines (Err (fault.BadLine n)) board small g =
    read_wrong laws b lines n board small (g (not_memory n))
