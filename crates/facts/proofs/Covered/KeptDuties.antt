-- A row has no failing duty where one that covers it has none.
use Rattle.std.proofs.Common.{◌≡◌, ℕ, ◌<◌, ◌⊎◌, List, length, sym, ◌∙◌, inl, inr, arith, Bool}
use Rattle.std.proofs.Common.{true, false}
use Rattle.std.proofs.lemmas.Bool.{cases_Bool, false≢true}
use Rattle.std.specs.Prelude.{IsTrue, All, slice_index_or, Option, Some, None, IfSome}
use Rattle.board.specs.Boards.{Allow, Board}
use Rattle.seq_program.specs.declared.instr.Instr.{Instr}
use Rattle.seq_program.specs.declared.instr.Instr.TheVariants as instr
use Rattle.seq_program.specs.declared.instr.Written.{Written}
use Rattle.seq_program.specs.declared.instr.Written.TheVariants as written
use Rattle.seq_program.specs.Valid.{IsOnBoard}
use Rattle.seq_program.specs.Requests.{Content, Nothing, Value, Block, Transaction, Request}
use Rattle.seq_program.specs.Requests.{request_in, code_in}
use Rattle.facts.specs.declared.duties.rule.Rule.{Rule}
use Rattle.facts.specs.declared.duties.rule.Rule.TheVariants.{K1, K2, K3, K4, K5, K6, K7, K8, K9}
use Rattle.pmbus_table.specs.Codes.{all_pages}
use Rattle.facts.specs.domain.Rows.{Row, set_at, SpanCovers, RowCovers}
use Rattle.facts.specs.duties.Duties.{MeetsAt, MeetsSent, IsTaken, IsWithinLimits, LimitsOf}
use Rattle.facts.specs.duties.Duties.{EnablesInOrder, written_span}
use Rattle.facts.specs.FactLaws.{DutiesAreKept}
use Rattle.facts.proofs.Covered.Covers.{SpansCover-at}
use Rattle.facts.proofs.Covered.RowMoves.{touches_covers}

written_covers : (b : Board) (s u : Row) (v : Written) → RowCovers b s u
    → SpanCovers (written_span s v) (written_span u v)
written_covers b s u (written.Byte n) k = (omega arith, omega arith)
written_covers b s u (written.Word n) k = (omega arith, omega arith)
written_covers b s u (written.Register r) k = SpansCover-at s.regs u.regs r k.regs

content_kept : (b : Board) (s u : Row) (e : Allow) (content : Content) (g : Option ℕ)
    → RowCovers b s u → IsTaken s e content g → IsTaken u e content g
content_kept b s u e (Value v) None k h =
    let o = written_covers b s u v k in (omega (arith, h.0, o.0), omega (arith, h.1, o.1))
content_kept b s u e Nothing None k h = h
content_kept b s u e (Block bytes) None k h = h
content_kept b s u e content (Some r) k h = h

All_good : (f g : ℕ → Bool) (ns : List ℕ) → ((n : ℕ) → f n ≡ true → g n ≡ true)
    → All (λ n. IsTrue (f n)) ns → All (λ n. IsTrue (g n)) ns
All_good f g ns w h i d lt = w (slice_index_or ns i d) (h i d lt)

limits_kept : (b : Board) (s u : Row) (i : ℕ) (v : Written) → RowCovers b s u
    → i < length b.targets
    → IsWithinLimits b s i (written_span s v) → IsWithinLimits b u i (written_span u v)
limits_kept b s u i v c at' h t d r there rail reached =
    let k = h t d r there rail (touches_covers b s u i (Some r) c at' reached) in
    let less = (written_covers b s u v c).1 in
    record { least = k.least; most = k.most; below = omega (arith, less, k.below) }

sets_kept : (b : Board) (s u : Row) (i c : ℕ) (content : Content) (g : Option ℕ) → RowCovers b s u
    → i < length b.targets → LimitsOf b s i c content g → LimitsOf b u i c content g
sets_kept b s u i c (Value (written.Byte n)) None k at' h = tt
sets_kept b s u i c (Value (written.Word n)) None k at' h =
    λ carries. limits_kept b s u i (written.Word n) k at' (h carries)
sets_kept b s u i c (Value (written.Register r)) None k at' h =
    λ carries. limits_kept b s u i (written.Register r) k at' (h carries)
sets_kept b s u i c Nothing None k at' h = tt
sets_kept b s u i c (Block bytes) None k at' h = tt
sets_kept b s u i c content (Some r) k at' h = tt

needs_kept : (b : Board) (s u : Row) (i c : ℕ) (content : Content) → RowCovers b s u
    → i < length b.targets → EnablesInOrder b s i c content → EnablesInOrder b u i c content
needs_kept b s u i c (Value (written.Byte n)) k at' h = λ e on d r there reached.
    All_good s.good u.good r.needs k.good (h e on d r there (touches_covers b s u i (Some r) k
    at' reached))
needs_kept b s u i c (Value (written.Word n)) k at' h = tt
needs_kept b s u i c (Value (written.Register r)) k at' h = tt
needs_kept b s u i c Nothing k at' h = tt
needs_kept b s u i c (Block bytes) k at' h = tt

pub met_kept : (b : Board) (s u : Row) (i : ℕ) (r : Transaction) (rule : Rule) → RowCovers b s u
    → i < length b.targets → MeetsAt b s i r rule → MeetsAt b u i r rule
met_kept b s u i r K1 c at' h = record {
  target = h.target;
  at = h.at;
  entry = h.entry;
  listed = h.listed;
  in_entry = content_kept b s u h.entry r.content r.register c h.in_entry;
  known = h.known;
}
met_kept b s u i r K2 c at' h = λ paged reads. one (h paged reads)
    (cases_Bool (set_at u.pages i all_pages))
  where
    one : set_at s.pages i all_pages ≡ false
        → (set_at u.pages i all_pages ≡ true) ⊎ (set_at u.pages i all_pages ≡ false)
        → set_at u.pages i all_pages ≡ false
    one n (inl e) = absurd (false≢true (sym n ∙ c.pages i at' all_pages e))
    one n (inr e) = e
met_kept b s u i r K3 c at' h = λ counts p inside. h counts p (c.protects i at' p inside)
met_kept b s u i r K4 c at' h = sets_kept b s u i (code_in r) r.content r.register c at' h
met_kept b s u i r K5 c at' h = needs_kept b s u i (code_in r) r.content c at' h
met_kept b s u i r K6 c at' h = tt
met_kept b s u i r K7 c at' h = tt
met_kept b s u i r K8 c at' h = tt
met_kept b s u i r K9 c at' h = tt

sent_kept : (b : Board) (s u : Row) (o : Option Request) (rule : Rule) → RowCovers b s u
    → IfSome o (λ x. x.target < length b.targets) → MeetsSent b s o rule → MeetsSent b u o rule
sent_kept b s u None rule c at' h = tt
sent_kept b s u (Some x) rule c at' h = met_kept b s u x.target x.transaction rule c at' h

-- the target of what is sent is the instruction's
pub sent_on : (n : ℕ) (i : Instr) → IsOnBoard n i → IfSome (request_in i) (λ x. x.target < n)
sent_on n (instr.Quick t read l) k = k
sent_on n (instr.Send t c l) k = k
sent_on n (instr.Receive t r l) k = k
sent_on n (instr.Write t c v l) k = k
sent_on n (instr.Read t c w r l) k = k
sent_on n (instr.Call t c v r l) k = k
sent_on n (instr.BlockWrite t c bytes l) k = k
sent_on n (instr.BlockRead t c r l) k = k
sent_on n (instr.BlockCall t c bytes r l) k = k
sent_on n (instr.Alert r l) k = tt
sent_on n (instr.IfAlert l) k = tt
sent_on n (instr.Set r v) k = tt
sent_on n (instr.Add r v) k = tt
sent_on n (instr.If r m v l) k = tt
sent_on n (instr.Above r v l) k = tt
sent_on n (instr.Count c v) k = tt
sent_on n (instr.Again c l) k = tt
sent_on n (instr.Wait t) k = tt
sent_on n (instr.Goto l) k = tt
sent_on n instr.End k = tt
sent_on n instr.Fail k = tt

pub duties_are_kept : DutiesAreKept
duties_are_kept b i s u rule said w h = sent_kept b s u (request_in i) rule w.covers
    (sent_on (length b.targets) i said.1) h
