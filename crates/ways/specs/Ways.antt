-- Ways through a program, by what is known along each alone.
use Rattle.std.specs.Prelude.{◌≡◌, ℕ, Bool, List, [], ◌∷◌, Some, None, All, Contains}
use Rattle.std.specs.Prelude.{IsSomeAnd, length, slice_get}
use Rattle.std.specs.List.{last_or}
use Rattle.board.specs.Boards.{Board, Target}
use Rattle.targets.specs.States.{IsTargetAt}
use Rattle.seq_program.specs.declared.instr.Instr.{Instr}
use Rattle.facts.specs.declared.duties.rule.Rule.{Rule}
use Rattle.facts.specs.domain.Rows.{Row, row_view, set_at}
use Rattle.facts.specs.domain.Sets.{Set, is_page, is_protect, set_of}
use Rattle.facts.specs.duties.Duties.{IsFirstFailing, duties}
use Rattle.facts.specs.transfer.Edges.{edge}
use Rattle.facts.specs.transfer.TimedEdges.{timed_edges}
use Rattle.facts.specs.well_formed.Starts.{SaysJustStart}
use Rattle.ways.specs.declared.search.Search.{Search}
use Rattle.ways.specs.declared.search.Search.TheVariants.{Found, Nowhere, Unknown}
use Rattle.ways.specs.declared.step.Step.{Step}

abbrev pub row_at : Step → Row
row_at s = row_view s.row

-- a set of some of these values, each of a kind
pub record IsChosen (is_value : ℕ → Bool) (values : List ℕ) (s : Set) : Type 0 where
  pub chosen : List ℕ
  pub from : All (Contains values) chosen
  pub is : set_of is_value chosen ≡ Some s

-- where a board starts: of each target some of the values that it may start with, no good rail, 0
-- in each register and counter, no sources, and no lost arbitration
pub record IsStart (b : Board) (row : Row) : Type 0 where
  pub pages : (i : ℕ) (t : Target) → IsTargetAt b i t
      → IsChosen is_page t.start_pages (set_at row.pages i)
  pub protects : (i : ℕ) (t : Target) → IsTargetAt b i t
      → IsChosen is_protect t.start_protects (set_at row.protects i)
  pub rest : SaysJustStart row

-- the instruction of the first step's place keeps the rules K1 to K5, and of its edges, so many,
-- the one at this place leads to the second
pub record LeadsTo (b : Board) (p : List Instr) (s t : Step) : Type 0 where
  pub instr : Instr
  pub here : slice_get p s.place ≡ Some instr
  pub keeps : IsFirstFailing b (row_at s) instr duties None
  pub count : length (timed_edges b s.place instr (row_at s)) ≡ t.edges
  pub ticks : ℕ
  pub leads : slice_get (timed_edges b s.place instr (row_at s)) t.edge
      ≡ Some (edge t.place (row_at t), ticks)

-- each step leads to the next
abbrev pub AllLead : Board → List Instr → List Step → Type 0
AllLead b p [] = Unit {0}
AllLead b p (s ∷ []) = Unit {0}
AllLead b p (s ∷ t ∷ way) = LeadsTo b p s t × AllLead b p (t ∷ way)

-- the first of the rules K1 to K5 that a step's instruction breaks
abbrev pub Breaks : Board → List Instr → Rule → Step → Type 0
Breaks b p rule s =
    IsSomeAnd (slice_get p s.place)
    (λ instr. IsFirstFailing b (row_at s) instr duties (Some rule))

-- a way from a start to a place where its instruction breaks a rule first; nothing on it breaks one
-- before
pub record IsBadWay (b : Board) (p : List Instr) (place : ℕ) (rule : Rule) (way : List Step)
    : Type 0 where
  pub starts : IsSomeAnd (slice_get way 0) (λ s. (s.place ≡ 0) × IsStart b (row_at s))
  pub leads : AllLead b p way
  pub breaks : IsSomeAnd (last_or None way) (λ s. (s.place ≡ place) × Breaks b p rule s)

-- what is found is such a way
abbrev pub IsSearched : Board → List Instr → ℕ → Rule → Search → Type 0
IsSearched b p place rule (Found way) = IsBadWay b p place rule way.items
IsSearched b p place rule Nowhere = Unit {0}
IsSearched b p place rule Unknown = Unit {0}
