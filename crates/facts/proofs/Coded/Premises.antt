-- What an instruction's edges ask, from what is known of its row and from its first duty.
use Rattle.std.proofs.Common.{◌≡◌, ◌∙◌, ◌<◌, ◌≤◌, ◌==◌, ◌||◌, ℕ, length, Option, Some}
use Rattle.std.proofs.Common.{sym, subst, IsTrue, arith}
use Rattle.std.proofs.Common.{nat_lt, true}
use Rattle.std.proofs.lemmas.Bool.Decides.{nat_tests}
use Rattle.std.proofs.lemmas.List.{length-map}
use Rattle.pmbus_table.specs.Protect.{is_protection}
use Rattle.board.specs.Boards.{Target, Board}
use Rattle.board.specs.Valid.{IsBoard, IsTarget}
use Rattle.seq_program.specs.declared.instr.Written.TheVariants as written
use Rattle.facts.specs.declared.domain.row.Row.{Row as CodeRow}
use Rattle.facts.specs.declared.domain.source.Source.{Source}
use Rattle.facts.specs.declared.domain.source.Source.TheVariants as source
use Rattle.facts.specs.declared.duties.rule.Rule.TheVariants.{K1}
use Rattle.facts.specs.domain.Sets.{is_protect, pages_in, protects_in}
use Rattle.seq_program.specs.Requests.{Content, Nothing, Value, Block, Transaction, Request}
use Rattle.seq_program.specs.Requests.{code_in}
use Rattle.facts.specs.domain.Rows.{Row, row_view, IsRow, IsSource, source_at}
use Rattle.facts.specs.duties.Duties.{MeetsSent, MayBeSent, IsKnownContent}
use Rattle.facts.specs.transfer.Effects.{IsContentOfKinds, IsOfKinds}
use Rattle.facts.specs.transfer.Ways.{IsFit, IsNamedIn, IsOfFew}
use Rattle.facts.proofs.Shared.Places.{all_at}

page_kind : (pages value : ℕ) → pages ≤ 32 → (nat_lt value pages || value == 255) ≡ true
    → (nat_lt value 32 || value == 255) ≡ true
page_kind pages value few is = grind (arith, nat_tests)

protect_kind : (value : ℕ) → IsTrue (is_protection value) → IsTrue (is_protect value)
protect_kind value is = grind (arith, nat_tests)

of_kinds : (t : Target) (code : ℕ) (content : Content) → t.pages ≤ 32
    → IsKnownContent t code content → IsContentOfKinds code content
of_kinds t code (Value (written.Byte value)) few known =
    ((λ e. page_kind t.pages value few (known.0 e)), (λ e. protect_kind value (known.1 e)))
of_kinds t code (Value (written.Word value)) few known = tt
of_kinds t code (Value (written.Register register)) few known = tt
of_kinds t code Nothing few known = tt
of_kinds t code (Block bytes) few known = tt

-- the first duty of a request
pub first_duty : (b : Board) (row : Row) (o : Option Request) (r : Request) → Some r ≡ o
    → MeetsSent b row o K1 → MayBeSent b row r.target r.transaction
first_duty b row o r is met = subst (λ y. MeetsSent b row y K1) (sym is) met

pub kinds : (b : Board) (row : Row) (r : Request) → IsBoard b
    → MayBeSent b row r.target r.transaction → IsOfKinds r.transaction
kinds b row r is met =
    of_kinds met.target (code_in r.transaction) (Transaction.content r.transaction)
    (all_at IsTarget b.targets r.target met.target is.targets met.at).few_pages met.known

pub page_count : (b : Board) (row : CodeRow) → IsRow b (row_view row)
    → length row.pages.items ≡ length b.targets
page_count b row is = sym (length-map row.pages.items pages_in) ∙ is.page_sets

pub protect_count : (b : Board) (row : CodeRow) → IsRow b (row_view row)
    → length row.protects.items ≡ length b.targets
protect_count b row is = sym (length-map row.protects.items protects_in) ∙ is.protect_sets

named_in : (b : Board) (row : CodeRow) (s : Source) → IsRow b (row_view row) → IsSource b s
    → IsNamedIn row s
named_in b row source.None is h = tt
named_in b row (source.Status d) is h = tt
named_in b row (source.Page i) is h = subst (λ n. i < n) (sym (page_count b row is)) h
named_in b row (source.Protect i) is h = subst (λ n. i < n) (sym (protect_count b row is)) h

of_few : (b : Board) (s : Source) → IsBoard b → IsSource b s → IsOfFew s
of_few b source.None is h = tt
of_few b (source.Status d) is h = let few = is.few_rails in omega (arith, few, h)
of_few b (source.Page i) is h = tt
of_few b (source.Protect i) is h = tt

pub fit : (b : Board) (row : CodeRow) → IsBoard b → IsRow b (row_view row) → IsFit row
fit b row is row_is =
    record {
      base = row_is.base;
      coeffs = row_is.coeffs;
      lost_coeff = row_is.lost_coeff;
      named = λ r lt. named_in b row (source_at row.sources r) row_is (row_is.sources r lt);
      few = λ r lt. of_few b (source_at row.sources r) is (row_is.sources r lt);
    }
