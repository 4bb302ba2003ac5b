-- Values from the targets' lists, one after another.
use Rattle.std.proofs.Common.{◌≡◌, ◌<◌, ◌≤◌, ◌+◌, ◌++◌, ◌∷◌, ℕ, zero, suc, List, [], length, take}
use Rattle.std.proofs.Common.{Some, None, ap, arith, get_or, refl, subst, sym, slice_get}
use Rattle.std.proofs.lemmas.List.{take_all}
use Rattle.std.specs.Prelude.{Contains, slice_index}
use Rattle.board.specs.Boards.{Board, Target}
use Rattle.targets.specs.States.{IsStart}
use Rattle.simulator.specs.Machines.{start_state}
use Rattle.run_player.specs.StartValues.{AreListed}

some_same : {X : Type 0} (x y : X) → Some x ≡ Some y → x ≡ y
some_same x y e = cc

none_some : {X : Type 0} (x : X) → None ≡ Some x → ⊥
none_some x e = cc

listed_next : (listed : Target → List ℕ) (i : ℕ) (values : List ℕ) (ts : List Target) (v : ℕ)
    (t : Target) → AreListed listed values (take i ts) → i < length ts → get_or ts i t ≡ t
    → Contains (listed t) v → AreListed listed (values ++ v ∷ []) (take (suc i) ts)
listed_next listed i values [] v t h lt e k = absurd (omega (arith, lt))
listed_next listed zero [] (u ∷ ts) v t h lt e k =
    let P : Target → Type 0 = λ z. Contains (listed z) v in (subst P (sym e) k, tt)
listed_next listed zero (x ∷ values) (u ∷ ts) v t h lt e k = absurd h
listed_next listed (suc i) [] (u ∷ ts) v t h lt e k = absurd h
listed_next listed (suc i) (x ∷ values) (u ∷ ts) v t h lt e k =
    (h.0, listed_next listed i values ts v t h.1 (omega (arith, lt)) e k)

-- one target more
pub listed_more : (listed : Target → List ℕ) (i : ℕ) (values : List ℕ) (ts : List Target) (v : ℕ)
    (t : Target) → AreListed listed values (take i ts) → i < length ts → get_or ts i t ≡ t
    → Contains (listed t) v → AreListed listed (values ++ v ∷ []) (take (i + 1) ts)
listed_more listed i values ts v t h lt e k =
    let more : suc i ≡ i + 1 = omega arith in
    let P : ℕ → Type 0 = λ n. AreListed listed (values ++ v ∷ []) (take n ts) in
    subst P more (listed_next listed i values ts v t h lt e k)

pub listed_all : (listed : Target → List ℕ) (i : ℕ) (values : List ℕ) (ts : List Target)
    → AreListed listed values (take i ts) → length ts ≤ i → AreListed listed values ts
listed_all listed i values ts h le =
    let P : List Target → Type 0 = λ xs. AreListed listed values xs in
    subst P (take_all i ts le) h

as_many : (listed : Target → List ℕ) (values : List ℕ) (ts : List Target)
    → AreListed listed values ts → length values ≡ length ts
as_many listed [] [] h = refl
as_many listed (v ∷ values) (t ∷ ts) h = ap suc (as_many listed values ts h.1)
as_many listed [] (t ∷ ts) h = absurd h
as_many listed (v ∷ values) [] h = absurd h

listed_at : (listed : Target → List ℕ) (values : List ℕ) (ts : List Target) (i : ℕ) (t : Target)
    → AreListed listed values ts → slice_get ts i ≡ Some t
    → Contains (listed t) (slice_index values i)
listed_at listed [] [] i t h e = absurd (none_some t e)
listed_at listed (v ∷ values) (u ∷ ts) zero t h e =
    let P : Target → Type 0 = λ z. Contains (listed z) v in
    subst P (some_same u t e) h.0
listed_at listed (v ∷ values) (u ∷ ts) (suc i) t h e = listed_at listed values ts i t h.1 e
listed_at listed [] (t ∷ ts) i u h e = absurd h
listed_at listed (v ∷ values) [] i t h e = absurd h

pub may_start : (b : Board) (pages protects : List ℕ)
    → AreListed (λ t. t.start_pages) pages b.targets
    → AreListed (λ t. t.start_protects) protects b.targets → IsStart b (start_state pages protects)
may_start b pages protects p w = record {
  pages = as_many (λ t. t.start_pages) pages b.targets p;
  protects = as_many (λ t. t.start_protects) protects b.targets w;
  targets = λ i t here. record {
    page_listed = listed_at (λ t. t.start_pages) pages b.targets i t p here;
    protect_listed = listed_at (λ t. t.start_protects) protects b.targets i t w here;
  };
  quiet = refl;
  fresh = refl;
}
