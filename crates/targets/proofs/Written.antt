-- A write that is seen by its parts.
use Rattle.std.proofs.Common.{◌≡◌, ℕ, Bool, true, Some, slice_get, refl, sym, ap, ◌∙◌}
use Rattle.smbus.specs.Asked.{Asked}
use Rattle.smbus.specs.Answered.{Answered}
use Rattle.board.specs.Boards.{Target, Board}
use Rattle.targets.specs.States.{BusState, IsTargetAt}
use Rattle.targets.specs.Effects.{IsByteWrite, TakesEffect, IsPermitted, Writes}

abbrev pub Test : Type 0
Test = Target → ℕ → Bool

pub writes : (code : ℕ) (is_value : Test) (b : Board) (s : BusState) (m : Asked) (a : Answered)
    (i value : ℕ) (t : Target)
    → IsTargetAt b i t → IsByteWrite t.address code value m → is_value t value ≡ true
    → IsPermitted s i code × TakesEffect value m a
    → Writes code is_value b s (Some m) a i value
writes code is_value b s m a i value t at w valid taken =
    record {
      asked = m;
      sent = refl;
      target = t;
      at = at;
      is_write = w;
      valid = valid;
      permitted = taken.0;
      effective = taken.1;
    }

pub record Seen (code : ℕ) (is_value : Test) (b : Board) (s : BusState) (m : Asked) (a : Answered)
    (i value : ℕ) : Type 0 where
  pub target : Target
  pub at : IsTargetAt b i target
  pub is_write : IsByteWrite target.address code value m
  pub valid : is_value target value ≡ true
  pub taken : IsPermitted s i code × TakesEffect value m a

pub seen : (code : ℕ) (is_value : Test) (b : Board) (s : BusState) (m : Asked) (a : Answered)
    (i value : ℕ)
    → Writes code is_value b s (Some m) a i value → Seen code is_value b s m a i value
seen code is_value b s m a i value w =
    let same : m ≡ w.asked = cc in
    record {
      target = w.target;
      at = w.at;
      is_write = rw same w.is_write;
      valid = w.valid;
      taken = (w.permitted, rw same w.effective);
    }

-- the only write to the target of index, which is t, of the value
pub record IsOnly (code : ℕ) (b : Board) (m : Asked) (index : ℕ) (t : Target)
    (value : ℕ) : Type 0 where
  pub at : IsTargetAt b index t
  pub only : (i : ℕ) (u : Target) (v : ℕ) → IsTargetAt b i u → IsByteWrite u.address code v m
      → (i ≡ index) × (v ≡ value)

pub record Same (is_value : Test) (s : BusState) (code : ℕ) (m : Asked) (a : Answered) (index : ℕ)
    (t : Target) (value i v : ℕ) : Type 0 where
  pub place : i ≡ index
  pub number : v ≡ value
  pub valid : is_value t value ≡ true
  pub taken : IsPermitted s index code × TakesEffect value m a

same_target : (b : Board) (i j : ℕ) (t u : Target) → i ≡ j → IsTargetAt b i t → IsTargetAt b j u
    → t ≡ u
same_target b i j t u e ti uj =
    let h : Some t ≡ Some u = sym ti ∙ (ap (λ k. slice_get b.targets k) e ∙ uj) in
    cc

pub is_same : (code : ℕ) (is_value : Test) (b : Board) (s : BusState) (m : Asked) (a : Answered)
    (index : ℕ) (t : Target) (value : ℕ)
    → IsOnly code b m index t value → (i v : ℕ) → Writes code is_value b s (Some m) a i v
    → Same is_value s code m a index t value i v
is_same code is_value b s m a index t value o i v w =
    let x = seen code is_value b s m a i v w in
    let e = o.only i x.target v x.at x.is_write in
    let u = same_target b i index x.target t e.0 x.at o.at in
    record {
      place = e.0;
      number = e.1;
      valid = rw (u, e.1) at x.valid;
      taken = (rw e.0 at x.taken.0, rw e.1 at x.taken.1);
    }
