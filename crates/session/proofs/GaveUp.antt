-- A table or a verdict isn't read as giving up: they begin with other letters.
use Rattle.std.proofs.Common.{◌≢◌, ℕ, List, [], ◌∷◌, Some, None, sym, ap, subst}
use Rattle.std.proofs.Common.{inl, inr, slice_index, arith}
use Rattle.std.specs.Prelude.{Option, Result, IfSome}
use Rattle.std.specs.Io.KnownBytes.{Appends}
use Rattle.board.specs.Boards.{Board}
use Rattle.table_check.specs.text.Lines.{table_text}
use Rattle.table_check.specs.Tables.{Table}
use Rattle.table_check.specs.declared.checker.verdict.Verdict.{Verdict}
use Rattle.table_check.specs.declared.checker.verdict.Verdict.TheVariants as verdicts
use Rattle.fact_search.specs.Forward.{IsForward}
use Rattle.session.specs.declared.fault.InputFault.{InputFault}
use Rattle.session.specs.declared.sequence.Sequence.{Sequence}
use Rattle.session.specs.CheckReplies.{verdict_text}
use Rattle.session.specs.Commands.{Task, Frame, Run, Wave, Check, Find, Verify, Play, Refute}
use Rattle.session.specs.Commands.{Draft}
use Rattle.session.specs.Commands.{IsReplyOf}
use Rattle.session.specs.Promises.{GivesUpOnLoopsAlone, searched_in}
use Rattle.session.specs.Replies.{Reply}
use Rattle.session.specs.SearchReplies.{gave_up_text, IsFindReply, IsVerifyReply}
use Rattle.session.specs.Sessions.{IsReplyAfter, IsReplyTo}

-- the first letter, 0 where there is none
abbrev first : List ℕ → ℕ
first text = slice_index text 0

abbrev IsApart : List ℕ → Type 0
IsApart text = (place : ℕ) → text ≢ gave_up_text place

apart : (text : List ℕ) → first text ≢ 103 → IsApart text
apart text differs place same = differs (ap first same)

table_apart : (b : Board) (t : Table) → IsApart (table_text b t)
table_apart b [] = apart (table_text b []) (λ e. omega (arith, e))
table_apart b (None ∷ rows) = apart (table_text b (None ∷ rows)) (λ e. omega (arith, e))
table_apart b (Some row ∷ rows) = apart (table_text b (Some row ∷ rows)) (λ e. omega (arith, e))

verdict_apart : (v : Verdict) → IsApart (verdict_text v)
verdict_apart (verdicts.Accepted bound) =
    apart (verdict_text (verdicts.Accepted bound)) (λ e. omega (arith, e))
verdict_apart (verdicts.Refused place rule) =
    apart (verdict_text (verdicts.Refused place rule)) (λ e. omega (arith, e))

abbrev text_of : Reply → List ℕ
text_of reply = reply.text

found_apart : (s : Sequence) (reply : Reply) → IsForward s.program → IsFindReply s reply
    → IsApart reply.text
found_apart s reply forward (inl prints) =
    subst IsApart (sym (ap text_of prints.replies)) (table_apart s.board prints.table)
found_apart s reply forward (inr gave) = absurd (gave.back forward)

verified_apart : (s : Sequence) (reply : Reply) → IsForward s.program → IsVerifyReply s reply
    → IsApart reply.text
verified_apart s reply forward (inl judged) =
    subst IsApart (sym (ap text_of judged.replies)) (verdict_apart judged.verdict)
verified_apart s reply forward (inr gave) = absurd (gave.back forward)

searched : (task : Task) (old new : Option (List ℕ)) (reply : Reply) → Appends old new reply.text
    → IsReplyOf task reply
    → IfSome (searched_in task) (λ s. IsForward s.program
    → (text : List ℕ) × Appends old new text × IsApart text)
searched (Frame exchange) old new reply written replies = tt
searched (Run scenario) old new reply written replies = tt
searched (Wave scenario) old new reply written replies = tt
searched (Check trial) old new reply written replies = tt
searched (Find s) old new reply written replies = λ forward.
    (reply.text, written, found_apart s reply forward replies)
searched (Verify s) old new reply written replies = λ forward.
    (reply.text, written, verified_apart s reply forward replies)
searched (Play s seed) old new reply written replies = tt
searched (Refute s) old new reply written replies = tt
searched (Draft p) old new reply written replies = tt

pub gives_up : (input : List ℕ) (old new : Option (List ℕ)) (reply : Reply) → IsReplyTo input reply
    → Appends old new reply.text → GivesUpOnLoopsAlone input old new
gives_up input old new reply replies written = λ task asks.
    let P : Result Task InputFault → Type 0 = λ r. IsReplyAfter r reply in
    searched task old new reply written (subst P asks replies)
