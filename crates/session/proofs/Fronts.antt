-- What is kept of an input asks for what all of it asks for.
use Rattle.std.proofs.Common.{◌≡◌, ℕ, Bool, true, List, length, refl, subst, ap, ◌∙◌, take}
use Rattle.std.proofs.Common.{inl, inr, Ok, Err}
use Rattle.std.specs.Prelude.{nat_lt, MatchResult, Result}
use Rattle.texts.specs.Reading.{◌>>=◌}
use Rattle.bundles.specs.declared.fault.BundleFault.{BundleFault}
use Rattle.session.specs.declared.fault.InputFault.TheVariants as faults
use Rattle.session.specs.declared.outcome.Case.{Case}
use Rattle.session.specs.Cases.{IsCaseOf, IsCaseIn, IsTextCase, IsBytesCase}
use Rattle.session.specs.Faults.{faulted}
use Rattle.session.specs.Commands.{task_in}
use Rattle.session.specs.Outcomes.{IsOutcomeOf, IsTrue}
use Rattle.session.specs.Replies.{Reply}
use Rattle.std.proofs.lemmas.Bool.{cases_lt, lt-ltb}
use Rattle.std.proofs.lemmas.List.{take_all}
use Rattle.session.specs.Intake.{kept_limit, IsFrontOf}
use Rattle.session.specs.Sessions.{kept_text, text_in, IsReplyAfter, IsReplyTo}
use Rattle.session.proofs.Replied.{Tells}

too_large : (kept all : List ℕ) (over : Bool) → over ≡ true → nat_lt kept_limit (length all) ≡ true
    → kept_text kept over ≡ text_in all
unfolding kept_text
too_large kept all over e f = rw (e, f)

kept_text-front : (kept all : List ℕ) (over : Bool) → IsFrontOf kept over all
    → kept_text kept over ≡ text_in all
kept_text-front kept all over front = elim (cases_lt kept_limit (length all)) [
  | inl lt ↦
      let e : nat_lt kept_limit (length all) ≡ true = lt-ltb _ _ lt in
      too_large kept all over (front.more ∙ e) e
  | inr le ↦
      let same : kept ≡ all = front.bytes ∙ take_all kept_limit all le in
      ap (λ (bytes : List ℕ). kept_text bytes over) same ∙ ap (kept_text all) front.more
]

-- what became of the bytes that are kept became of the input
pub case_in : (kept all : List ℕ) (over : Bool) (case : Case) → IsFrontOf kept over all
    → IsCaseOf kept over case → IsCaseIn all case
case_in kept all over case front is =
    subst (λ (o : Bool). IsCaseOf (take kept_limit all) o case) front.more
    (subst (λ (k : List ℕ). IsCaseOf k over case) front.bytes is)

-- an outcome, of a text or of what is none
outcome_in : (bytes : List ℕ) (text : Result (List ℕ) BundleFault) (case : Case)
    → MatchResult text (λ t. IsTextCase t case) (λ fault. IsBytesCase bytes fault case)
    → IsOutcomeOf (faulted faults.Bundle text >>= task_in) case.outcome
outcome_in bytes (Ok text) case is = is.outcome
outcome_in bytes (Err fault) case is = is.outcome

pub true_of : (kept : List ℕ) (over : Bool) (case : Case) → IsCaseOf kept over case
    → IsTrue case.outcome
true_of kept over case is = (_, outcome_in kept (kept_text kept over) case is)

-- a reply that tells it is one to the input
pub replies_in : (input : List ℕ) (case : Case) (reply : Reply) → Tells case.outcome reply
    → IsCaseIn input case → IsReplyTo input reply
replies_in input case reply tells is =
    let kept = take kept_limit input in
    let over = nat_lt kept_limit (length input) in
    let front : IsFrontOf kept over input = record { bytes = refl; more = refl } in
    subst (λ (text : Result (List ℕ) BundleFault).
    IsReplyAfter (faulted faults.Bundle text >>= task_in) reply)
    (kept_text-front kept input over front)
    (tells _ (outcome_in kept (kept_text kept over) case is))
