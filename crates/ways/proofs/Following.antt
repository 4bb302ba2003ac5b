-- Following trails back to a start.
use Rattle.std.proofs.Common.{◌≡◌, ◌<◌, ◌+◌, ◌++◌, ◌∷◌, ◌∙◌, ℕ, List, [], Option, Some, None, ap}
use Rattle.std.proofs.Common.{arith, get_or, length, map, subst, sym, take}
use Rattle.std.specs.Prelude.{IfSome, option_map, slice_get}
use Rattle.std.proofs.lemmas.List.{length-take, same_from_push, take-take, take_more}
use Rattle.std.proofs.lemmas.Option.{same_Some, slice_get-get_or}
use Rattle.ways.specs.declared.step.Step.{Step}
use Rattle.ways.specs.declared.trails.Trail.{Trail}
use Rattle.ways.specs.Trails.{AreLinked, AreOrdered, IsLast, before_at}
use Rattle.ways.specs.Trails.{step_at}

-- what is known of the numbers so far: none, and the last is next, or the first was reached from
-- the next
abbrev pub IsNext : List Trail → ℕ → Option ℕ → List ℕ → Type 0
IsNext all number next [] = next ≡ Some number
IsNext all number next (n ∷ numbers) = (before_at all n ≡ Some next) × IsLast number (n ∷ numbers)

-- a way is followed back so far, and only trails before the next are left
pub record IsFollowed (all rest : List Trail) (number : ℕ) (next : Option ℕ) (way : List Step)
    : Type 0 where
  pub numbers : List ℕ
  pub steps : map (step_at all) numbers ≡ map Some way
  pub linked : AreLinked all numbers
  pub next_is : IsNext all number next numbers
  pub left : rest ≡ take (length rest) all
  pub small : IfSome next (λ n. n < length rest)

-- the trails before one, and that itself
pub record IsCut (all front : List Trail) (m : ℕ) (t : Trail) : Type 0 where
  pub front_is : front ≡ take m all
  pub there : slice_get all m ≡ Some t
  pub size : length front ≡ m

cut_at : (all rest front : List Trail) (m : ℕ) (t : Trail) → rest ≡ take (length rest) all
    → m < length rest → take (m + 1) rest ≡ front ++ t ∷ [] → IsCut all front m t
cut_at all rest front m t left small cut =
    let size = ap length left ∙ length-take (length rest) all in
    let within : m < length all = omega (arith, size, small) in
    let same =
    ap (take (m + 1)) left ∙ take-take (m + 1) (length rest) all (omega (arith, small)) in
    let parts = same_from_push front (take m all) t (get_or all m t)
    (sym cut ∙ same ∙ take_more all m t within) in
    record {
      front_is = parts.0;
      there = slice_get-get_or all m t within ∙ ap Some (sym parts.1);
      size = omega (arith, ap length parts.0, length-take m all, within);
    }

links_on : (all : List Trail) (number m : ℕ) (numbers : List ℕ)
    → IsNext all number (Some m) numbers → AreLinked all numbers → AreLinked all (m ∷ numbers)
links_on all number m [] next linked = tt
links_on all number m (n ∷ numbers) next linked = (next.0, linked)

ends_on : (all : List Trail) (number m : ℕ) (numbers : List ℕ)
    → IsNext all number (Some m) numbers → IsLast number (m ∷ numbers)
ends_on all number m [] next = same_Some m number next
ends_on all number m (n ∷ numbers) next = next.1

small_on : (all front : List Trail) (m : ℕ) (before : Option ℕ) → AreOrdered all
    → length front ≡ m → before_at all m ≡ Some before → IfSome before (λ n. n < length front)
small_on all front m None ordered size is = tt
small_on all front m (Some n) ordered size is =
    subst (λ k. n < k) (sym size) (ordered m n is)

pub followed_on : (all rest front : List Trail) (number m : ℕ) (way : List Step) (t : Trail)
    → AreOrdered all → IsFollowed all rest number (Some m) way
    → take (m + 1) rest ≡ front ++ t ∷ []
    → IsFollowed all front number t.before (t.step ∷ way)
followed_on all rest front number m way t ordered old cut =
    let at = cut_at all rest front m t old.left old.small cut in
    let before = ap (option_map (λ (t : Trail). t.before)) at.there in
    record {
      numbers = m ∷ old.numbers;
      steps = ap (λ (s : Option Step). s ∷ map (step_at all) old.numbers)
          (ap (option_map (λ (t : Trail). t.step)) at.there)
          ∙ ap (λ (ss : List (Option Step)). Some t.step ∷ ss) old.steps;
      linked = links_on all number m old.numbers old.next_is old.linked;
      next_is = (before, ends_on all number m old.numbers old.next_is);
      left = at.front_is ∙ ap (λ n. take n all) (sym at.size);
      small = small_on all front m t.before ordered at.size before;
    }
