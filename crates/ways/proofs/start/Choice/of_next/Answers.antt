use Rattle.std.proofs.Common.{◌≡◌, ◌-◌, ℕ, List, [], Option, Some, None, All, Bor, ap, drop, refl}
use Rattle.std.proofs.Common.{subst, sym}
use Rattle.std.specs.Prelude.{Contains, IfSome, MatchOption, slice_range, unwrap_or}
use Rattle.std.proofs.lemmas.List.Elements.{All-contains_itself, All-drop, All-nil, All-take}
use Rattle.ways.proofs.start.Choice.of_next.Goals as goal

some_of : {T : Type 0} (o : Option T) (N : Type 0) (P Q : T → Type 0) → ((x : T) → P x → Q x)
    → MatchOption o N P → IfSome o Q
some_of None N P Q weaker is = tt
some_of (Some x) N P Q weaker is = weaker x is

chosen : (values : List ℕ) (a b : ℕ) (o : Option (Bor (List ℕ))) (none : Bor (List ℕ))
    → none.now ≡ [] → IfSome o (λ x. x.now ≡ slice_range values a b)
    → All (Contains values) (Bor.now (unwrap_or o none))
chosen values a b None none empty is =
    subst (All (Contains values)) (sym empty) (All-nil (Contains values))
chosen values a b (Some x) none empty is =
    subst (All (Contains values)) (sym is)
    (All-take (Contains values) (b - a) (drop a values)
    (All-drop (Contains values) a values (All-contains_itself values)))

pub returns-in_default : goal.returns-in_default
returns-in_default c = All-contains_itself c.args.values.now

pub returns : goal.returns
returns c =
    let values = c.args.values.now in
    subst (All (Contains values)) (ap (λ (x : Bor (List ℕ)). x.now) (sym c.unwrap_or.ensures))
    (chosen values _ _ c.get.result _ refl
    (some_of c.get.result _ _ (λ x. x.now ≡ slice_range values _ _) (λ x is. is.2)
    c.get.ensures.lookup.0))
