-- Errors that say nothing of a plan, passed on.
use Rattle.std.proofs.Common.{◌≡◌, Result, Ok, Err, IfErr, sym, subst}
use Rattle.std.specs.Result.{IsErrAnd}
use Rattle.texts.specs.declared.reading.ReadError.{ReadError}
use Rattle.session.specs.declared.draft_fault.DraftFault.{DraftFault}
use Rattle.session.specs.DraftReplies.{IsDraftable, OnDraftFault, SparesPlan}
use Rattle.session.specs.Planned.{Planned}

-- the result that has such an error tells a fault of each plan with a draft
pub spared : {T : Type 0} (r : Result T (ReadError DraftFault)) (e : ReadError DraftFault)
    (p : Planned) → IsDraftable p → IsErrAnd r (λ x. x ≡ e) → SparesPlan e
    → IfErr r (OnDraftFault p)
spared (Ok t) e p d is spares = tt
spared (Err x) e p d is spares = subst (OnDraftFault p) (sym is) (spares p d)
