-- The code's words for trails. No public contract cites this.
use Rattle.std.specs.Prelude.{◌≡◌, ◌<◌, ◌⊎◌, ◌++◌, ℕ, List, [], ◌∷◌, Option, Some, None, All}
use Rattle.std.specs.Prelude.{length, map, option_map, slice_get}
use Rattle.std.specs.Prelude.{IsSomeAnd}
use Rattle.board.specs.Boards.{Board}
use Rattle.seq_program.specs.declared.instr.Instr.{Instr}
use Rattle.facts.specs.declared.domain.row.Row.{Row}
use Rattle.facts.specs.domain.Rows.{row_view}
use Rattle.facts.specs.duties.Duties.{IsFirstFailing, duties}
use Rattle.facts.specs.transfer.TimedEdges.{timed_edges}
use Rattle.facts.specs.transfer.Ways.{timed_view}
use Rattle.ways.specs.Ways.{IsStart, LeadsTo, row_at}
use Rattle.ways.specs.declared.step.Step.{Step}
use Rattle.ways.specs.declared.trails.Trail.{Trail}

abbrev pub step_at : List Trail → ℕ → Option Step
step_at trails number = option_map (λ t. t.step) (slice_get trails number)

abbrev pub before_at : List Trail → ℕ → Option (Option ℕ)
before_at trails number = option_map (λ t. t.before) (slice_get trails number)

-- each was reached from one before it
abbrev pub AreOrdered : List Trail → Type 0
AreOrdered trails =
    (number before : ℕ) → before_at trails number ≡ Some (Some before) → before < number

-- an edge to the first place, where the board starts
pub record IsStartEdge (b : Board) (e : ℕ × Row × ℕ) : Type 0 where
  pub first : e.0 ≡ 0
  pub starts : IsStart b (row_view e.1)

-- the edges of a step's instruction, which keeps the rules
pub record AreEdgesOf (b : Board) (p : List Instr) (s : Step) (edges : List (ℕ × Row × ℕ))
    : Type 0 where
  pub instr : Instr
  pub here : slice_get p s.place ≡ Some instr
  pub keeps : IsFirstFailing b (row_at s) instr duties None
  pub are : map timed_view edges ≡ timed_edges b s.place instr (row_at s)

-- they lead on from a step, or there is none
abbrev pub LeadOn : Board → List Instr → Step → List (ℕ × Row × ℕ) → Type 0
LeadOn b p s edges = (edges ≡ []) ⊎ AreEdgesOf b p s edges

-- a trail's step was reached by the edge of another, or is a start
abbrev pub Arrives : Board → List Instr → List Trail → Option ℕ → Step → Type 0
Arrives b p trails None s = (s.place ≡ 0) × IsStart b (row_at s)
Arrives b p trails (Some n) s = IsSomeAnd (step_at trails n) (λ before. LeadsTo b p before s)

abbrev pub AllArrive : Board → List Instr → List Trail → Type 0
AllArrive b p trails = All (λ t. Arrives b p trails t.before t.step) trails

abbrev pub AddsTrail : Trail → List Trail → List Trail → Type 0
AddsTrail trail old new = (new ≡ old) ⊎ (new ≡ old ++ trail ∷ [])

-- of the edges, so many, the one at this place leads to the trail's step
pub record IsAlong (before : Option ℕ) (edges : List (ℕ × Row × ℕ)) (t : Trail) : Type 0 where
  pub from : t.before ≡ before
  pub count : length edges ≡ t.step.edges
  pub ticks : ℕ
  pub edge : slice_get edges t.step.edge ≡ Some (t.step.place, t.step.row, ticks)

pub record AddsTrails (before : Option ℕ) (edges : List (ℕ × Row × ℕ)) (old new : List Trail)
    : Type 0 where
  pub added : List Trail
  pub new_is : new ≡ old ++ added
  pub along : All (IsAlong before edges) added

-- each was reached from the one before it
abbrev pub AreLinked : List Trail → List ℕ → Type 0
AreLinked trails [] = Unit {0}
AreLinked trails (m ∷ []) = Unit {0}
AreLinked trails (m ∷ n ∷ numbers) =
    (before_at trails n ≡ Some (Some m)) × AreLinked trails (n ∷ numbers)

abbrev pub IsLast : ℕ → List ℕ → Type 0
IsLast number [] = ⊥
IsLast number (n ∷ []) = n ≡ number
IsLast number (n ∷ m ∷ numbers) = IsLast number (m ∷ numbers)

-- the first is a start
abbrev pub BeginsAtStart : List Trail → List ℕ → Type 0
BeginsAtStart trails [] = ⊥
BeginsAtStart trails (n ∷ numbers) = before_at trails n ≡ Some None

-- the steps of trails that follow one another from a start to a trail
pub record FollowsTo (number : ℕ) (trails : List Trail) (way : List Step) : Type 0 where
  pub numbers : List ℕ
  pub steps : map (step_at trails) numbers ≡ map Some way
  pub linked : AreLinked trails numbers
  pub begins : BeginsAtStart trails numbers
  pub ends : IsLast number numbers
