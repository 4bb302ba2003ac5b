-- Ways along needs, and circles of them.
use Rattle.std.proofs.Common.{◌≡◌, ◌++◌, ℕ, zero, suc, List, [], ◌∷◌, Some, sym, subst, arith, drop}
use Rattle.std.proofs.Common.{slice_get}
use Rattle.board.specs.Boards.{Board}
use Rattle.board_lints.specs.Lints.{Needs, LeadsOn, GoesRound}

-- a way goes on by a need of its last rail
pub leads_more : (b : Board) (way : List ℕ) (here next : ℕ) → LeadsOn b (way ++ here ∷ [])
    → Needs b here next → LeadsOn b ((way ++ here ∷ []) ++ next ∷ [])
leads_more b [] here next leads need = (need, tt)
leads_more b (rail ∷ []) here next leads need = (leads.0, (need, tt))
leads_more b (rail ∷ other ∷ later) here next leads need =
    (leads.0, leads_more b (other ∷ later) here next leads.1 need)

leads_below : (b : Board) (rail : ℕ) (later : List ℕ) (here : ℕ)
    → LeadsOn b (rail ∷ later ++ here ∷ []) → LeadsOn b (later ++ here ∷ [])
leads_below b rail [] here leads = leads.1
leads_below b rail (other ∷ later) here leads = leads.1

-- where a way comes back to one of its rails, it goes round from there on
pub goes_round : (b : Board) (way : List ℕ) (here first : ℕ) → slice_get way first ≡ Some here
    → LeadsOn b (way ++ here ∷ []) → GoesRound b (drop first way)
goes_round b [] here first at leads = cc at
goes_round b (rail ∷ later) here zero at leads =
    let same : rail ≡ here = cc at in
    (omega arith, subst (λ n. LeadsOn b (rail ∷ later ++ n ∷ [])) (sym same) leads)
goes_round b (rail ∷ later) here (suc first) at leads =
    goes_round b later here first at (leads_below b rail later here leads)
