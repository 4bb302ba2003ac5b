-- Items in order, each with a name of its own.
use Rattle.std.specs.Prelude.{ℕ, List, [], ◌∷◌, ◌++◌, Bool, map, String, string_bytes}
use Rattle.std.specs.List.{list_any}
use Rattle.std.specs.Str.{bytes_eq}
use Rattle.std.specs.declared.alloc.Global.{Global}
use Rattle.indexmap.specs.IndexSet.{IndexSet, keys}
use Rattle.board.specs.declared.named.Named.{Named as CodeNamed}

pub record Named (A : Type 0) : Type 0 where
  pub names : List (List ℕ)
  pub items : List A

abbrev pub no_named : {A : Type 0} → Named A
no_named = record { names = []; items = [] }

abbrev pub is_named : List ℕ → List (List ℕ) → Bool
is_named name names = list_any (bytes_eq name) names

abbrev pub with_item : {A : Type 0} → List ℕ → A → Named A → Named A
with_item name item done =
    record { names = done.names ++ name ∷ []; items = done.items ++ item ∷ [] }

-- items with the names that stand beside them
abbrev pub named_of : {A : Type 0} → List (List ℕ × A) → Named A
named_of pairs = record { names = map (λ p. p.0) pairs; items = map (λ p. p.1) pairs }

-- the code's
abbrev pub names : {S : Type 0} → IndexSet (String Global) S → List (List ℕ)
names set = map string_bytes (keys set)

abbrev pub named_view : {A : Type 0} → CodeNamed A → Named A
named_view n = record { names = names n.names; items = n.items.items }
