-- What holds of a reply, whatever input it is to, holds of the input that was read.
use Rattle.std.proofs.Common.{◌≡◌, ◌≢◌, ℕ, List, Option, Some, None, Result, Ok, Err, IfOk, IfErr}
use Rattle.std.proofs.Common.{IfSome, OnErr, sym, ◌∙◌}
use Rattle.session.specs.declared.answering.DeviceFault.{DeviceFault}
use Rattle.session.specs.declared.answering.DeviceFault.TheVariants.{Writer}
use Rattle.session.specs.Replies.{Reply}
use Rattle.session.specs.Sessions.{IsReplyTo, IsReplyToAll, IsBegun, IsCutShort}

pub of_input : {S E I : Type 0} (r : Result S E) (first : Option I) (R : I → Type 0)
    (P : I → S → Type 0) → IfOk r (λ status. (input : I) → R input → P input status)
    → IfSome first R → IfOk r (λ status. IfSome first (λ input. P input status))
of_input (Ok status) (Some input) R P holds is = holds input is
of_input (Ok status) None R P holds is = tt
of_input (Err fault) first R P holds is = tt

pub cut_short : {S : Type 0} (r : Result S DeviceFault) (first rest old new : Option (List ℕ))
    (reply : Reply)
    → OnErr r ((input : List ℕ) → IsReplyTo input reply → IsBegun input old new)
    → IsReplyToAll first rest reply
    → IfErr r (λ fault. fault ≡ Writer → IsCutShort first rest old new)
cut_short (Ok status) first rest old new reply holds all = tt
cut_short (Err fault) first rest old new reply holds all = λ _. record {
  input = all.input;
  read = all.read;
  begun = holds all.input all.replies;
}

pub never_else : {S : Type 0} (r : Result S DeviceFault) (A : Type 0)
    → IfErr r (λ fault. fault ≡ Writer) → IfErr r (λ fault. fault ≢ Writer → A)
never_else (Ok status) A is = tt
never_else (Err fault) A is = λ other. absurd (other is)

pub same_status : {S E : Type 0} (r : Result S E) (a b : S) → IfOk r (λ status. status ≡ a)
    → a ≢ b → IfOk r (λ status. status ≢ b)
same_status (Ok status) a b is other = λ e. other (sym is ∙ e)
same_status (Err fault) a b is other = tt
