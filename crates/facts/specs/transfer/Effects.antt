-- The code's words for what a message does. No public contract cites this: `Edges` says what is
-- asked.
use Rattle.std.specs.Prelude.{◌≡◌, ℕ, IsTrue}
use Rattle.board.specs.Boards.{Board}
use Rattle.facts.specs.declared.transfer.effect.Effect.{Effect as CodeEffect}
use Rattle.facts.specs.declared.transfer.effect.Effect.TheVariants as code
use Rattle.facts.specs.declared.domain.source.Source.TheVariants as source
use Rattle.facts.specs.declared.domain.span.Span.{Span}
use Rattle.pmbus_table.specs.Codes.{page_code, write_protect_code}
use Rattle.seq_program.specs.declared.instr.Written.TheVariants as written
use Rattle.facts.specs.domain.Sets.{only, is_page, is_protect}
use Rattle.facts.specs.domain.Rows.{Row, set_at}
use Rattle.seq_program.specs.Requests.{Content, Value, Transaction, code_in}
use Rattle.facts.specs.transfer.Edges.{Effect, SetsPage, SetsProtect, TurnsOff, ReadsStatus}
use Rattle.facts.specs.transfer.Edges.{ReadsPage}
use Rattle.facts.specs.transfer.Edges.{ReadsProtect, Loads, Nothing, with_page, with_protect}
use Rattle.facts.specs.transfer.Edges.{with_reg}
use Rattle.facts.specs.transfer.Edges.{without_touched, status_source, bounds}

abbrev pub effect_view : CodeEffect → Effect
effect_view (code.SetsPage value) = SetsPage value
effect_view (code.SetsProtect value) = SetsProtect value
effect_view code.TurnsOff = TurnsOff
effect_view (code.ReadsStatus register) = ReadsStatus register
effect_view (code.ReadsPage register) = ReadsPage register
effect_view (code.ReadsProtect register) = ReadsProtect register
effect_view (code.Loads register) = Loads register
effect_view code.Nothing = Nothing

-- what is written is a value of its kind
abbrev pub IsOfKind : CodeEffect → Type 0
IsOfKind (code.SetsPage value) = IsTrue (is_page value)
IsOfKind (code.SetsProtect value) = IsTrue (is_protect value)
IsOfKind _ = Unit {0}

-- the row after a message that is done and that reads so much
abbrev pub done_with : Board → Row → ℕ → Span → Effect → Row
done_with b row i s (SetsPage value) = with_page row i (only value)
done_with b row i s (SetsProtect value) = with_protect row i (only value)
done_with b row i s TurnsOff = without_touched b row i
done_with b row i s (ReadsStatus register) =
    with_reg (without_touched b row i) register s (status_source b row i)
done_with b row i s (ReadsPage register) =
    with_reg row register (bounds (set_at row.pages i)) (source.Page i)
done_with b row i s (ReadsProtect register) =
    with_reg row register (bounds (set_at row.protects i)) (source.Protect i)
done_with b row i s (Loads register) = with_reg row register s source.None
done_with b row i s Nothing = row

-- a byte that is written to PAGE or to WRITE_PROTECT is one of its values
abbrev pub IsKindOf : ℕ → ℕ → Type 0
IsKindOf code value =
    (code ≡ page_code → IsTrue (is_page value))
    × (code ≡ write_protect_code → IsTrue (is_protect value))

abbrev pub IsContentOfKinds : ℕ → Content → Type 0
IsContentOfKinds code (Value (written.Byte value)) = IsKindOf code value
IsContentOfKinds code _ = Unit {0}

abbrev pub IsOfKinds : Transaction → Type 0
IsOfKinds x = IsContentOfKinds (code_in x) x.content
