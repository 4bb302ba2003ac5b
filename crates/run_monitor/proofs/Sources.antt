-- Duties don't ask where values come from.
use Rattle.std.proofs.Common.{◌≡◌, ℕ, zero, suc, Option, Some, None, replicate, refl}
use Rattle.std.specs.Prelude.{slice_index_or}
use Rattle.board.specs.Boards.{Allow, Board}
use Rattle.seq_program.specs.declared.instr.Instr.{Instr}
use Rattle.seq_program.specs.declared.instr.Written.TheVariants as written
use Rattle.facts.specs.declared.duties.rule.Rule.{Rule}
use Rattle.facts.specs.declared.duties.rule.Rule.TheVariants.{K1, K2, K3, K4, K5, K6, K7, K8, K9}
use Rattle.facts.specs.declared.domain.source.Source.TheVariants as source
use Rattle.facts.specs.duties.Duties.{Meets, MeetsSent, MeetsAt, MayBeSent, IsTaken, LimitsOf}
use Rattle.facts.specs.duties.Duties.{EnablesInOrder}
use Rattle.seq_program.specs.Requests.{Content, Nothing, Value, Block, Transaction, Request}
use Rattle.seq_program.specs.Requests.{request_in, code_in}
use Rattle.facts.specs.domain.Rows.{Row}

abbrev pub from_nowhere : Row → Row
from_nowhere row = record row { sources = replicate 8 source.None }

taken : (row : Row) (e : Allow) (content : Content) (g : Option ℕ) → IsTaken row e content g
    → IsTaken (from_nowhere row) e content g
taken row e (Value (written.Byte value)) None k = k
taken row e (Value (written.Word value)) None k = k
taken row e (Value (written.Register register)) None k = k
taken row e (Block bytes) None k = k
taken row e Nothing None k = k
taken row e content (Some register) k = k

may_be_sent : (b : Board) (row : Row) (i : ℕ) (r : Transaction) → MayBeSent b row i r
    → MayBeSent b (from_nowhere row) i r
may_be_sent b row i r k = record {
  target = k.target;
  at = k.at;
  entry = k.entry;
  listed = k.listed;
  in_entry = taken row k.entry r.content r.register k.in_entry;
  known = k.known;
}

within_limits : (b : Board) (row : Row) (i c : ℕ) (content : Content) (g : Option ℕ)
    → LimitsOf b row i c content g → LimitsOf b (from_nowhere row) i c content g
within_limits b row i c (Value (written.Byte value)) None k = k
within_limits b row i c (Value (written.Word value)) None k = k
within_limits b row i c (Value (written.Register register)) None k = k
within_limits b row i c (Block bytes) None k = k
within_limits b row i c Nothing None k = k
within_limits b row i c content (Some register) k = k

has_needs : (b : Board) (row : Row) (i c : ℕ) (content : Content) → EnablesInOrder b row i c content
    → EnablesInOrder b (from_nowhere row) i c content
has_needs b row i c (Value (written.Byte value)) k = k
has_needs b row i c (Value (written.Word value)) k = k
has_needs b row i c (Value (written.Register register)) k = k
has_needs b row i c (Block bytes) k = k
has_needs b row i c Nothing k = k

meets_at : (b : Board) (row : Row) (i : ℕ) (r : Transaction) (rule : Rule) → MeetsAt b row i r rule
    → MeetsAt b (from_nowhere row) i r rule
meets_at b row i r K1 k = may_be_sent b row i r k
meets_at b row i r K2 k = k
meets_at b row i r K3 k = k
meets_at b row i r K4 k = within_limits b row i (code_in r) r.content r.register k
meets_at b row i r K5 k = has_needs b row i (code_in r) r.content k
meets_at b row i r K6 k = tt
meets_at b row i r K7 k = tt
meets_at b row i r K8 k = tt
meets_at b row i r K9 k = tt

meets_sent : (b : Board) (row : Row) (s : Option Request) (rule : Rule) → MeetsSent b row s rule
    → MeetsSent b (from_nowhere row) s rule
meets_sent b row None rule k = tt
meets_sent b row (Some s) rule k = meets_at b row s.target s.transaction rule k

pub meets : (b : Board) (row : Row) (i : Instr) (rule : Rule) → Meets b row i rule
    → Meets b (from_nowhere row) i rule
meets b row i rule k = meets_sent b row (request_in i) rule k

-- where none is named, none is
none_in : (n r : ℕ) → slice_index_or (replicate n source.None) r source.None ≡ source.None
none_in zero r = refl
none_in (suc n) zero = refl
none_in (suc n) (suc r) = none_in n r

pub no_source : (r : ℕ) → slice_index_or (replicate 8 source.None) r source.None ≡ source.None
no_source r = none_in 8 r
