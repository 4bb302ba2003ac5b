-- Faults that are passed on.
use Rattle.std.proofs.Common.{◌≡◌, ◌≢◌, Result, Ok, Err, IfErr, sym, subst, ◌∙◌}
use Rattle.std.specs.Result.{IsErrAnd}
use Rattle.simulator.specs.declared.fault.RunFault.{RunFault}
use Rattle.simulator.specs.declared.fault.RunFault.TheVariants.{Memory}

-- what holds of a fault of a run holds of the result that has it
pub passed_on : {T : Type 0} (r : Result T RunFault) (f : RunFault) (P : RunFault → Type 0)
    → IsErrAnd r (λ e. e ≡ f) → (f ≢ Memory → P f) → IfErr r (λ e. e ≢ Memory → P e)
passed_on (Ok t) f P is p = tt
passed_on (Err e) f P is p = λ real. subst P (sym is) (p (λ none. real (is ∙ none)))
