-- Lists whose elements are read one after another, each after the values of those before it.
use Rattle.std.specs.Prelude.{◌≡◌, ℕ, List, length, slice_get, take, Some, Result, Ok, Err}
use Rattle.board.specs.Named.{Named, named_of}

-- there is a value for each element, which is read to it after the values before it
pub record AreInOrder {D B E : Type 0} (read : List B → D → Result B E) (elements : List D)
    (values : List B) : Type 0 where
  pub count : length values ≡ length elements
  pub each : (place : ℕ) (element : D) (value : B) → slice_get elements place ≡ Some element
      → slice_get values place ≡ Some value → read (take place values) element ≡ Ok value

-- the elements before one have values, and after these that one has the fault
pub record IsFirstFault {D B E : Type 0} (read : List B → D → Result B E) (elements : List D)
    (fault : E) : Type 0 where
  pub values : List B
  pub before : AreInOrder read (take (length values) elements) values
  pub element : D
  pub next : slice_get elements (length values) ≡ Some element
  pub fails : read values element ≡ Err fault

-- the values of all elements, or the fault of the first that has one
abbrev pub InOrder : {D B E : Type 0} → (List B → D → Result B E) → List D → Result (List B) E
    → Type 0
InOrder read elements (Ok values) = AreInOrder read elements values
InOrder read elements (Err fault) = IsFirstFault read elements fault

-- the values are names with their items
pub record AreNamedInOrder {D A E : Type 0} (read : List (List ℕ × A) → D → Result (List ℕ × A) E)
    (elements : List D) (named : Named A) : Type 0 where
  pub pairs : List (List ℕ × A)
  pub is : named ≡ named_of pairs
  pub values : AreInOrder read elements pairs

abbrev pub NamedInOrder : {D A E : Type 0} → (List (List ℕ × A) → D → Result (List ℕ × A) E)
    → List D → Result (Named A) E → Type 0
NamedInOrder read elements (Ok named) = AreNamedInOrder read elements named
NamedInOrder read elements (Err fault) = IsFirstFault read elements fault
