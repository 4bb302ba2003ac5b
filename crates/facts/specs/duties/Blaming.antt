-- What the judge of a rule finds: nothing where the rule is met, and else what is to blame. No
-- public contract cites this: `Duties` and `Violations` say what is asked.
use Rattle.std.specs.Prelude.{◌≡◌, ◌⊎◌, ℕ, List, [], ◌∷◌, Option, Some, None, IsTrue, All}
use Rattle.board.specs.Boards.{Allow, Target, Rail, Board}
use Rattle.seq_program.specs.Requests.{Content, Transaction}
use Rattle.facts.specs.declared.duties.rule.Rule.{Rule}
use Rattle.facts.specs.declared.duties.violation.Violation.{Violation}
use Rattle.facts.specs.declared.duties.violation.Violation.TheVariants.{UnknownValue}
use Rattle.facts.specs.domain.Rows.{Row}
use Rattle.facts.specs.domain.Sets.{rails_in}
use Rattle.facts.specs.duties.Duties.{IsTaken, IsInEntry, IsKnownValue, MeetsAt}
use Rattle.facts.specs.duties.Touching.{touches_in, HasGoodNeeds}
use Rattle.facts.specs.duties.Violations.{rule_of, IsFirstNot, IsOutside, IsToBlameAt}

-- all items of a list are so, or here is the first that isn't, by its place or by itself
abbrev pub FindsPlace : {A : Type 0} → (A → Type 0) → List A → Option ℕ → Type 0
FindsPlace Is items None = All Is items
FindsPlace {A} Is items (Some place) = (item : A) × IsFirstNot Is items place item

abbrev pub FindsItem : {A : Type 0} → (A → Type 0) → List A → Option A → Type 0
FindsItem Is items None = All Is items
FindsItem Is items (Some item) = (place : ℕ) × IsFirstNot Is items place item

-- an entry takes what is written, or this isn't within its ranges
abbrev pub FindsOutside : Row → Allow → Content → Option ℕ → Option Violation → Type 0
FindsOutside row e content register None = IsTaken row e content register
FindsOutside row e content register (Some v) = IsOutside row e content register v

-- and it is one of its command's values
abbrev pub FindsUntaken : Row → Target → Allow → Transaction → Option Violation → Type 0
FindsUntaken row t e x None = IsInEntry row e x × IsKnownValue t x
FindsUntaken row t e x (Some v) =
    IsOutside row e x.content x.register v
    ⊎ ((v ≡ UnknownValue) × IsInEntry row e x × (IsKnownValue t x → ⊥))

-- the needs of a rail that is touched are good, or here is the first that isn't
abbrev pub FindsLacking : ℕ → ℕ → ℕ → Rail → Option ℕ → Type 0
FindsLacking pages i good r None = HasGoodNeeds pages i good r
FindsLacking pages i good r (Some need) =
    IsTrue (touches_in pages i r)
    × ((place : ℕ) × IsFirstNot (λ d. IsTrue (rails_in good d)) r.needs place need)

-- so of each rail, or here is the first where it isn't, and its first need
abbrev pub FindsUnready : ℕ → ℕ → ℕ → List Rail → Option (ℕ × ℕ) → Type 0
FindsUnready pages i good rails None = All (HasGoodNeeds pages i good) rails
FindsUnready pages i good rails (Some at) =
    (r : Rail) × IsFirstNot (HasGoodNeeds pages i good) rails at.0 r
    × FindsLacking pages i good r (Some at.1)

-- a rule is met, or it is broken by this
abbrev pub Blames : Board → Row → ℕ → Transaction → Rule → Option Violation → Type 0
Blames b row i x rule None = MeetsAt b row i x rule
Blames b row i x rule (Some v) = (rule_of v ≡ rule) × IsToBlameAt b row i x v

-- the first of some rules that is broken
abbrev pub BlamesFirst : Board → Row → ℕ → Transaction → List Rule → Option Violation → Type 0
BlamesFirst b row i x [] found = found ≡ None
BlamesFirst b row i x (rule ∷ rules) found =
    (MeetsAt b row i x rule × BlamesFirst b row i x rules found)
    ⊎ ((v : Violation) × (found ≡ Some v) × (rule_of v ≡ rule) × IsToBlameAt b row i x v)
