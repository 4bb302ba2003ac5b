-- Trails that arrive one from another.
use Rattle.std.proofs.Common.{◌≡◌, ◌<◌, ◌≤◌, ◌++◌, ◌∷◌, ◌∙◌, ◌⊎◌, inl, inr, ℕ, zero, suc, List, []}
use Rattle.std.proofs.Common.{Option, Some, None, All, ap, arith, length, refl, subst, sym}
use Rattle.std.specs.Prelude.{Contains, IfSome, IsSomeAnd, option_map, slice_get}
use Rattle.std.proofs.lemmas.List.Elements.{All-append, All-contains, All-weaker}
use Rattle.std.proofs.lemmas.Option.{get_or_from_slice_get, none-some, same_Some, slice_get_within}
use Rattle.board.specs.Boards.{Board}
use Rattle.seq_program.specs.declared.instr.Instr.{Instr}
use Rattle.facts.specs.declared.domain.row.Row.{Row}
use Rattle.ways.specs.declared.step.Step.{Step}
use Rattle.ways.specs.declared.trails.Trail.{Trail}
use Rattle.ways.specs.Trails.{AddsTrails, AllArrive, AreOrdered, Arrives, IsAlong, IsStartEdge}
use Rattle.ways.specs.Trails.{LeadOn, step_at}
use Rattle.ways.specs.Ways.{LeadsTo}
use Rattle.ways.proofs.Leading.{leads_along}

pub front_get : {X : Type 0} (xs ys : List X) (n : ℕ) (x : X) → slice_get xs n ≡ Some x
    → slice_get (xs ++ ys) n ≡ Some x
front_get [] ys n x is = absurd (none-some x is)
front_get (z ∷ xs) ys zero x is = is
front_get (z ∷ xs) ys (suc n) x is = front_get xs ys n x is

-- an element of two lists, one behind the other
abbrev IsInEither : {X : Type 0} → List X → List X → ℕ → X → Type 0
IsInEither xs ys n x =
    (slice_get xs n ≡ Some x) ⊎ ((length xs ≤ n) × Contains ys x)

later : {X : Type 0} (z : X) (xs ys : List X) (n : ℕ) (x : X) → IsInEither xs ys n x
    → IsInEither (z ∷ xs) ys (suc n) x
later z xs ys n x (inl is) = inl is
later z xs ys n x (inr is) = inr (omega (arith, is.0), is.1)

get_either : {X : Type 0} (xs ys : List X) (n : ℕ) (x : X) → slice_get (xs ++ ys) n ≡ Some x
    → IsInEither xs ys n x
get_either [] ys n x is =
    inr (omega arith, (n, slice_get_within ys n x is, get_or_from_slice_get ys n x x is))
get_either (z ∷ xs) ys zero x is = inl is
get_either (z ∷ xs) ys (suc n) x is = later z xs ys n x (get_either xs ys n x is)

-- what an option is mapped from
pub record IsMapped {X Y : Type 0} (f : X → Y) (o : Option X) (y : Y) : Type 0 where
  pub from : X
  pub is : o ≡ Some from
  pub gives : f from ≡ y

pub mapped : {X Y : Type 0} (f : X → Y) (o : Option X) (y : Y) → option_map f o ≡ Some y
    → IsMapped f o y
mapped f None y is = absurd (none-some y is)
mapped f (Some x) y is = record { from = x; is = refl; gives = same_Some (f x) y is }

small_before : (before : Option ℕ) (n size : ℕ) → IfSome before (λ m. m < size)
    → before ≡ Some n → n < size
small_before before n size small is = subst (λ (o : Option ℕ). IfSome o (λ m. m < size)) is small

ordered_more : (old added : List Trail) (before : Option ℕ) → AreOrdered old
    → IfSome before (λ n. n < length old) → All (λ t. t.before ≡ before) added
    → AreOrdered (old ++ added)
ordered_more old added before ordered small from number n is =
    let t = mapped (λ (t : Trail). t.before) (slice_get (old ++ added) number) (Some n) is in
    elim (get_either old added number t.from t.is) [
      | inl there ↦
          ordered number n (ap (option_map (λ (t : Trail). t.before)) there ∙ ap Some t.gives)
      | inr there ↦
          let same = All-contains (λ (t : Trail). t.before ≡ before) added t.from from there.1 in
          let less = small_before before n (length old) small (sym same ∙ t.gives) in
          omega (arith, less, there.0)
    ]

arrives_still : (b : Board) (p : List Instr) (old added : List Trail) (before : Option ℕ)
    (s : Step) → Arrives b p old before s → Arrives b p (old ++ added) before s
arrives_still b p old added None s arrives = arrives
arrives_still b p old added (Some n) s arrives = go (slice_get old n) refl arrives where
  go : (o : Option Trail) → slice_get old n ≡ o
      → IsSomeAnd (option_map (λ t. t.step) o) (λ from. LeadsTo b p from s)
      → IsSomeAnd (step_at (old ++ added) n) (λ from. LeadsTo b p from s)
  go None is leads = absurd leads
  go (Some t) is leads =
      subst (λ (o : Option Trail). IsSomeAnd (option_map (λ (t : Trail). t.step) o)
      (λ from. LeadsTo b p from s)) (sym (front_get old added n t is)) leads

-- the edges of a trail's step
pub record LeadFrom (b : Board) (p : List Instr) (trails : List Trail) (n : ℕ)
    (edges : List (ℕ × Row × ℕ)) : Type 0 where
  pub step : Step
  pub is : step_at trails n ≡ Some step
  pub lead : LeadOn b p step edges

-- the edges lead on from a trail, or are those of the starts
abbrev pub GoOn : Board → List Instr → List Trail → Option ℕ → List (ℕ × Row × ℕ) → Type 0
GoOn b p trails None edges = All (IsStartEdge b) edges
GoOn b p trails (Some n) edges = LeadFrom b p trails n edges

along_edges : (b : Board) (p : List Instr) (s : Step) (before : Option ℕ)
    (edges : List (ℕ × Row × ℕ)) (t : Trail) → LeadOn b p s edges → IsAlong before edges t
    → LeadsTo b p s t.step
along_edges b p s before edges t (inl none) along =
    absurd (none-some (t.step.place, t.step.row, along.ticks)
    (ap (λ es. slice_get es t.step.edge) (sym none) ∙ along.edge))
along_edges b p s before edges t (inr are) along = leads_along b p s before edges t are along

along_arrives : (b : Board) (p : List Instr) (old : List Trail) (before : Option ℕ)
    (edges : List (ℕ × Row × ℕ)) (t : Trail) → GoOn b p old before edges
    → IsAlong before edges t → Arrives b p old before t.step
along_arrives b p old None edges t lead along =
    let e : ℕ × Row × ℕ = (t.step.place, t.step.row, along.ticks) in
    let start = All-contains (IsStartEdge b) edges e lead (
      t.step.edge,
      slice_get_within edges t.step.edge e along.edge,
      get_or_from_slice_get edges t.step.edge e e along.edge,
    ) in
    (start.first, start.starts)
along_arrives b p old (Some n) edges t lead along =
    subst (λ (o : Option Step). IsSomeAnd o (λ from. LeadsTo b p from t.step)) (sym lead.is)
    (along_edges b p lead.step (Some n) edges t lead.lead along)

small_lead : (b : Board) (p : List Instr) (old : List Trail) (before : Option ℕ)
    (edges : List (ℕ × Row × ℕ)) → GoOn b p old before edges
    → IfSome before (λ n. n < length old)
small_lead b p old None edges lead = tt
small_lead b p old (Some n) edges lead =
    let t = mapped (λ (t : Trail). t.step) (slice_get old n) lead.step lead.is in
    slice_get_within old n t.from t.is

pub record AreTrails (b : Board) (p : List Instr) (trails : List Trail) : Type 0 where
  pub arrive : AllArrive b p trails
  pub ordered : AreOrdered trails

pub goes_on : (b : Board) (p : List Instr) (old new : List Trail) (before : Option ℕ)
    (edges : List (ℕ × Row × ℕ)) → AllArrive b p old → AreOrdered old
    → GoOn b p old before edges → AddsTrails before edges old new → AreTrails b p new
goes_on b p old new before edges arrive ordered lead adds =
    let still = All-weaker (λ (t : Trail). Arrives b p old t.before t.step)
    (λ t. Arrives b p (old ++ adds.added) t.before t.step)
    (λ t. arrives_still b p old adds.added t.before t.step) in
    let along = All-weaker (IsAlong before edges) (λ t. Arrives b p old t.before t.step)
    (λ t along. subst (λ (o : Option ℕ). Arrives b p old o t.step) (sym along.from)
    (along_arrives b p old before edges t lead along)) adds.added adds.along in
    subst (AreTrails b p) (sym adds.new_is)
    (record {
      arrive = All-append (λ t. Arrives b p (old ++ adds.added) t.before t.step) old adds.added
          (still old arrive) (still adds.added along);
      ordered = ordered_more old adds.added before ordered (small_lead b p old before edges lead)
          (All-weaker (IsAlong before edges) (λ t. t.before ≡ before) (λ t along. along.from)
          adds.added adds.along);
    })
