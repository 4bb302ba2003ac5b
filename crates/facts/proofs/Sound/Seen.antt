-- What a step leaves, told from its message, its answer and the state before it.
use Rattle.std.proofs.Common.{◌≡◌, ℕ, ◌<◌, Option, Some, None, List, ◌∷◌, length, sym, subst, inl}
use Rattle.std.proofs.Common.{inr, false}
use Rattle.std.specs.Prelude.{slice_index}
use Rattle.smbus.specs.Asked.{Asked}
use Rattle.smbus.specs.Answered.{Answered}
use Rattle.board.specs.Boards.{Board}
use Rattle.targets.specs.States.{Belongs}
use Rattle.targets.specs.Effects.{WritesPage, WritesProtect, IsStored, IsAfter}
use Rattle.simulator.specs.Machines.{Machine, Entry}
use Rattle.simulator.specs.StepDoes.{MessageReports, MessageWithdraws, StepDoes}
use Rattle.facts.specs.domain.Sets.{Set, empty}
use Rattle.facts.proofs.Sound.RowChanges.{Change}

-- what isn't written stays
stored_kept : (WritesIt : ℕ → Type 0) (before now : ℕ) → IsStored WritesIt before now
    → ((value : ℕ) → WritesIt value → ⊥) → now ≡ before
stored_kept WritesIt before now (inl written) never = absurd (never now written)
stored_kept WritesIt before now (inr kept) never = kept.1

-- what may change, by what the message writes, reports and withdraws
pub changes_by : (b : Board) (m next : Machine) (h : List Entry) (o : Option Asked) (a : Answered)
    (e : Entry) (P W D : Set)
    → Belongs b m.bus → IsAfter b m.bus o a next.bus → next.bus.lost ≡ m.bus.lost
    → StepDoes b m.bus o a e
    → ((u value : ℕ) → P u ≡ false → WritesPage b m.bus o a u value → ⊥)
    → ((u value : ℕ) → W u ≡ false → WritesProtect b m.bus o a u value → ⊥)
    → ((d word : ℕ) → D d ≡ false → MessageReports b m.bus d word o a → ⊥)
    → ((d : ℕ) → D d ≡ false → MessageWithdraws b m.bus d o a → ⊥)
    → Change b m h next (e ∷ h) P W D
changes_by b m next h o a e P W D belongs after same does page protect reports withdraws = record {
  pages = λ u at' outside.
      let within : u < length m.bus.page = let L : ℕ
      → Type 0 = λ n. u < n in subst L (sym belongs.pages) at' in
      stored_kept (WritesPage b m.bus o a u) (slice_index m.bus.page u)
      (slice_index next.bus.page u)
      (after.page u within) (λ value. page u value outside);
  protects = λ u at' outside.
      let within : u < length m.bus.protect = let L : ℕ
      → Type 0 = λ n. u < n in subst L (sym belongs.protects) at' in
      stored_kept (WritesProtect b m.bus o a u) (slice_index m.bus.protect u)
      (slice_index next.bus.protect u) (after.protect u within) (λ value. protect u value outside);
  reports = λ d word at' outside last.
      inr (
        (λ other r. reports d other outside ((does.reports d other).0 r)),
        (λ w. withdraws d outside ((does.withdraws d).0 w)),
        last,
      );
  lost = same;
}

none_some : {X : Type 0} (x : X) → None ≡ Some x → ⊥
none_some x e = cc

-- a step that sends nothing leaves all as it was
pub silent_changes : (b : Board) (m next : Machine) (h : List Entry) (a : Answered) (e : Entry)
    → Belongs b m.bus → IsAfter b m.bus None a next.bus → next.bus.lost ≡ m.bus.lost
    → StepDoes b m.bus None a e
    → Change b m h next (e ∷ h) empty empty empty
silent_changes b m next h a e belongs after same does =
    changes_by b m next h None a e empty empty empty belongs after same does
    (λ u value outside w. none_some w.asked w.sent)
    (λ u value outside w. none_some w.asked w.sent)
    (λ d word outside r. r.reports)
    (λ d outside w. w.written)
