use Rattle.std.proofs.Common.{◌≡◌, ◌++◌, drop, string_bytes}
use Rattle.table_check.specs.Tables.{rows_view}
use Rattle.table_check.specs.declared.text.version.Version.TheVariants.{Second}
use Rattle.table_check.specs.text.Lines.{lines_from}
use Rattle.table_check.specs.text.Written.{text_of}
use Rattle.table_check.proofs.text.writing.push_rows.Given as goal

abbrev pub invariant-loop-place : goal.invariant-loop-place
invariant-loop-place l =
    string_bytes l.text
    ++ text_of (lines_from Second l.board l.place (rows_view (drop l.place l.rows)))
    ≡ string_bytes l.fn.text ++ text_of (lines_from Second l.board 0 (rows_view l.rows))
