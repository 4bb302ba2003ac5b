-- Orders of so many rails, of which some wait for others: `waits d e` says that d waits for e.
use Rattle.std.specs.Prelude.{◌≡◌, ◌<◌, ℕ, List, Bool, false, ◌==◌, IsTrue, EachIndex}
use Rattle.std.specs.Prelude.{slice_index, take}
use Rattle.std.specs.List.{list_any}

abbrev pub is_placed : List ℕ → ℕ → Bool
is_placed placed rail = list_any (λ other. other == rail) placed

-- all rails that this one waits for are placed
abbrev pub IsReady : (ℕ → ℕ → Bool) → ℕ → List ℕ → ℕ → Type 0
IsReady waits count placed rail =
    (other : ℕ) → other < count → IsTrue (waits rail other) → IsTrue (is_placed placed other)

-- of the rails that aren't placed, the first that is ready
pub record IsNext (waits : ℕ → ℕ → Bool) (count : ℕ) (placed : List ℕ) (rail : ℕ) : Type 0 where
  pub known : rail < count
  pub unplaced : is_placed placed rail ≡ false
  pub ready : IsReady waits count placed rail
  pub first : (d : ℕ) → d < rail → is_placed placed d ≡ false
      → IsReady waits count placed d → ⊥

-- each rail is the next behind those that stand before it
abbrev pub EachIsNext : (ℕ → ℕ → Bool) → ℕ → List ℕ → Type 0
EachIsNext waits count order =
    EachIndex order (λ i. IsNext waits count (take i order) (slice_index order i))

-- the same, and no rail is missing; none stands there twice, since the next one isn't placed
pub record IsOrder (waits : ℕ → ℕ → Bool) (count : ℕ) (order : List ℕ) : Type 0 where
  pub each_is_next : EachIsNext waits count order
  pub all : (d : ℕ) → d < count → IsTrue (is_placed order d)

-- each rail of a set waits for one of the set
pub record WaitsWithin (waits : ℕ → ℕ → Bool) (count : ℕ) (set : ℕ → Bool) : Type 0 where
  pub known : (d : ℕ) → IsTrue (set d) → d < count
  pub waiting : (d : ℕ) → IsTrue (set d) → (e : ℕ) × (IsTrue (set e) × IsTrue (waits d e))

-- the rail is one of such a set, so no order can place it
abbrev pub IsNeverReady : (ℕ → ℕ → Bool) → ℕ → ℕ → Type 0
IsNeverReady waits count rail =
    (set : ℕ → Bool) × (IsTrue (set rail) × WaitsWithin waits count set)

-- the first rail that no order can place, and there is no order
pub record IsFirstNeverReady (waits : ℕ → ℕ → Bool) (count rail : ℕ) : Type 0 where
  pub never_ready : IsNeverReady waits count rail
  pub first : (d : ℕ) → d < rail → IsNeverReady waits count d → ⊥
  pub no_order : (order : List ℕ) → IsOrder waits count order → ⊥
