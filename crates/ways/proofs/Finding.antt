-- A way that trails follow, from a start to a step that breaks a rule.
use Rattle.std.proofs.Common.{◌≡◌, ◌∷◌, ◌∙◌, ℕ, List, [], Option, Some, None, ap, arith, drop}
use Rattle.std.proofs.Common.{get_or, length, map, subst, sym}
use Rattle.std.specs.Prelude.{IsSomeAnd, option_map, slice_get}
use Rattle.std.specs.List.{last_or}
use Rattle.std.proofs.lemmas.List.Elements.{All-contains}
use Rattle.std.proofs.lemmas.Option.{get_or_from_slice_get, same_Some, slice_get_within}
use Rattle.board.specs.Boards.{Board}
use Rattle.seq_program.specs.declared.instr.Instr.{Instr}
use Rattle.facts.specs.declared.duties.rule.Rule.{Rule}
use Rattle.ways.specs.declared.step.Step.{Step}
use Rattle.ways.specs.declared.trails.Trail.{Trail}
use Rattle.ways.specs.Trails.{AllArrive, AreLinked, Arrives, BeginsAtStart, FollowsTo, IsLast}
use Rattle.ways.specs.Trails.{before_at, step_at}
use Rattle.ways.specs.Ways.{AllLead, Breaks, IsBadWay, IsStart, LeadsTo, row_at}
use Rattle.ways.proofs.Arriving.{mapped}

-- what stands first, and behind it
head_is : (trails : List Trail) (n : ℕ) (numbers : List ℕ) (w : Step) (way : List Step)
    → map (step_at trails) (n ∷ numbers) ≡ map Some (w ∷ way) → step_at trails n ≡ Some w
head_is trails n numbers w way is = ap (λ (steps : List (Option Step)). get_or steps 0 None) is

behind_is : (trails : List Trail) (n : ℕ) (numbers : List ℕ) (w : Step) (way : List Step)
    → map (step_at trails) (n ∷ numbers) ≡ map Some (w ∷ way)
    → map (step_at trails) numbers ≡ map Some way
behind_is trails n numbers w way is = ap (λ (steps : List (Option Step)). drop 1 steps) is

-- how a step was reached that was reached from this
arrives_at : (b : Board) (p : List Instr) (trails : List Trail) (n : ℕ) (before : Option ℕ)
    (s : Step) → AllArrive b p trails → before_at trails n ≡ Some before
    → step_at trails n ≡ Some s → Arrives b p trails before s
arrives_at b p trails n before s arrive is here =
    let t = mapped (λ (t : Trail). t.before) (slice_get trails n) before is in
    let same = same_Some t.from.step s
    (sym (ap (option_map (λ (t : Trail). t.step)) t.is) ∙ here) in
    let arrives = All-contains (λ (t : Trail). Arrives b p trails t.before t.step) trails t.from
    arrive (
      n,
      slice_get_within trails n t.from t.is,
      get_or_from_slice_get trails n t.from t.from t.is,
    ) in
    subst (Arrives b p trails before) same
    (subst (λ (o : Option ℕ). Arrives b p trails o t.from.step) t.gives arrives)

all_lead : (b : Board) (p : List Instr) (trails : List Trail) (numbers : List ℕ)
    (way : List Step) → AllArrive b p trails → map (step_at trails) numbers ≡ map Some way
    → AreLinked trails numbers → AllLead b p way
all_lead b p trails numbers [] arrive steps linked = tt
all_lead b p trails numbers (w ∷ []) arrive steps linked = tt
all_lead b p trails [] (w ∷ v ∷ way) arrive steps linked = absurd (omega (arith, ap length steps))
all_lead b p trails (m ∷ []) (w ∷ v ∷ way) arrive steps linked =
    absurd (omega (arith, ap length steps))
all_lead b p trails (m ∷ n ∷ numbers) (w ∷ v ∷ way) arrive steps linked =
    let behind = behind_is trails m (n ∷ numbers) w (v ∷ way) steps in
    let arrives = arrives_at b p trails n (Some m) v arrive linked.0
    (head_is trails n numbers v way behind) in (
      subst (λ (o : Option Step). IsSomeAnd o (λ from. LeadsTo b p from v))
          (head_is trails m (n ∷ numbers) w (v ∷ way) steps) arrives,
      all_lead b p trails (n ∷ numbers) (v ∷ way) arrive behind linked.1,
    )

starts_at : (b : Board) (p : List Instr) (trails : List Trail) (numbers : List ℕ)
    (way : List Step) → AllArrive b p trails → map (step_at trails) numbers ≡ map Some way
    → BeginsAtStart trails numbers
    → IsSomeAnd (slice_get way 0) (λ s. (s.place ≡ 0) × IsStart b (row_at s))
starts_at b p trails [] way arrive steps begins = absurd begins
starts_at b p trails (n ∷ numbers) [] arrive steps begins =
    absurd (omega (arith, ap length steps))
starts_at b p trails (n ∷ numbers) (w ∷ way) arrive steps begins =
    arrives_at b p trails n None w arrive begins (head_is trails n numbers w way steps)

last_is : (trails : List Trail) (number : ℕ) (s : Step) (before : Option Step)
    (numbers : List ℕ) (way : List Step) → map (step_at trails) numbers ≡ map Some way
    → IsLast number numbers → step_at trails number ≡ Some s → last_or before way ≡ Some s
last_is trails number s before [] way steps last is = absurd last
last_is trails number s before (n ∷ numbers) [] steps last is =
    absurd (omega (arith, ap length steps))
last_is trails number s before (n ∷ []) (w ∷ []) steps last is =
    sym (head_is trails n [] w [] steps) ∙ ap (step_at trails) last ∙ is
last_is trails number s before (n ∷ []) (w ∷ v ∷ way) steps last is =
    absurd (omega (arith, ap length steps))
last_is trails number s before (n ∷ m ∷ numbers) (w ∷ way) steps last is =
    last_is trails number s (Some w) (m ∷ numbers) way
    (behind_is trails n (m ∷ numbers) w way steps) last is

pub found : (b : Board) (p : List Instr) (place : ℕ) (rule : Rule) (trails : List Trail)
    (number : ℕ) (s : Step) (way : List Step) → AllArrive b p trails
    → step_at trails number ≡ Some s → s.place ≡ place → Breaks b p rule s
    → FollowsTo number trails way → IsBadWay b p place rule way
found b p place rule trails number s way arrive here at breaks follows = record {
  starts = starts_at b p trails follows.numbers way arrive follows.steps follows.begins;
  leads = all_lead b p trails follows.numbers way arrive follows.steps follows.linked;
  breaks = subst (λ (o : Option Step). IsSomeAnd o (λ s. (s.place ≡ place) × Breaks b p rule s))
      (sym (last_is trails number s None follows.numbers way follows.steps follows.ends here))
      (at, breaks);
}
