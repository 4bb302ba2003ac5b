-- Who alerts after a message.
use Rattle.std.proofs.Common.{◌≡◌, ◌≢◌, ◌⊎◌, ◌↔◌, inl, inr, ℕ, Option, Some, None, IfSome, IsTrue}
use Rattle.wires.specs.Bits.{bit}
use Rattle.smbus.specs.Asked.{Asked}
use Rattle.smbus.specs.Answered.{Answered}
use Rattle.board.specs.Boards.{Board}
use Rattle.targets.specs.States.{BusState}
use Rattle.targets.specs.Effects.{StopsAlerting, AlertsAfter}

-- the others go on, and some begin
pub alerting_after : (b : Board) (s : BusState) (m : Option Asked) (a : Answered) (stops : Option ℕ)
    (kept joined : ℕ)
    → IfSome stops (λ i. StopsAlerting b s m a i)
    → ((i : ℕ) → StopsAlerting b s m a i → stops ≡ Some i)
    → ((i : ℕ) → IsTrue (bit kept i) ↔ (IsTrue (bit s.alerting i) × (stops ≢ Some i)))
    → ((i : ℕ) → IsTrue (bit joined i) ↔ (IsTrue (bit a.alerts i) ⊎ IsTrue (bit kept i)))
    → (i : ℕ) → IsTrue (bit joined i) ↔ AlertsAfter b s m a i
alerting_after b s m a stops kept joined is only k j i = (from, to)
  where
    some : (stops : Option ℕ) (i : ℕ) → IfSome stops (λ i. StopsAlerting b s m a i) → stops ≡ Some i
        → StopsAlerting b s m a i
    some None i is e = cc
    some (Some n) i is e = let same : n ≡ i = cc in rw (← same) is

    from : IsTrue (bit joined i) → AlertsAfter b s m a i
    from t = elim ((j i).0 t) [
      | inl begins ↦ inl begins
      | inr stays ↦ let both = (k i).0 stays in inr (both.0, λ stop. both.1 (only i stop))
    ]

    to : AlertsAfter b s m a i → IsTrue (bit joined i)
    to (inl begins) = (j i).1 (inl begins)
    to (inr both) = (j i).1 (inr ((k i).1 (both.0, λ e. both.1 (some stops i is e))))
