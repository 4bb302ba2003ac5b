-- Edges in lists, and in lists where each has its ticks.
use Rattle.std.proofs.Common.{◌≡◌, ℕ, ◌⊎◌, List, [], ◌∷◌, ◌++◌, refl, inl, inr}
use Rattle.facts.specs.transfer.Edges.{Edge}
use Rattle.facts.specs.transfer.TimedEdges.{HasTimed, timed}

-- the edge is among them
abbrev pub HasEdge : List Edge → Edge → Type 0
HasEdge [] x = ⊥
HasEdge (e ∷ es) x = (x ≡ e) ⊎ HasEdge es x

pub timed_has : (n : ℕ) (es : List Edge) (x : Edge) → HasEdge es x → HasTimed (timed n es) x n
timed_has n [] x k = absurd k
timed_has n (e ∷ es) x (inl same) = inl (same, refl)
timed_has n (e ∷ es) x (inr k) = inr (timed_has n es x k)

pub has_timed : (n : ℕ) (es : List Edge) (x : Edge) (ticks : ℕ) → HasTimed (timed n es) x ticks
    → HasEdge es x × (ticks ≡ n)
has_timed n [] x ticks k = absurd k
has_timed n (e ∷ es) x ticks (inl k) = (inl k.0, k.1)
has_timed n (e ∷ es) x ticks (inr k) =
    let rest = has_timed n es x ticks k in
    (inr rest.0, rest.1)

pub timed_front : (xs ys : List (Edge × ℕ)) (x : Edge) (ticks : ℕ) → HasTimed xs x ticks
    → HasTimed (xs ++ ys) x ticks
timed_front [] ys x ticks k = absurd k
timed_front (e ∷ xs) ys x ticks (inl k) = inl k
timed_front (e ∷ xs) ys x ticks (inr k) = inr (timed_front xs ys x ticks k)

pub timed_back : (xs ys : List (Edge × ℕ)) (x : Edge) (ticks : ℕ) → HasTimed ys x ticks
    → HasTimed (xs ++ ys) x ticks
timed_back [] ys x ticks k = k
timed_back (e ∷ xs) ys x ticks k = inr (timed_back xs ys x ticks k)

pub timed_either : (xs ys : List (Edge × ℕ)) (x : Edge) (ticks : ℕ) → HasTimed (xs ++ ys) x ticks
    → HasTimed xs x ticks ⊎ HasTimed ys x ticks
timed_either [] ys x ticks k = inr k
timed_either (e ∷ xs) ys x ticks (inl k) = inl (inl k)
timed_either (e ∷ xs) ys x ticks (inr k) = go (timed_either xs ys x ticks k)
  where
    go : HasTimed xs x ticks ⊎ HasTimed ys x ticks
        → HasTimed (e ∷ xs) x ticks ⊎ HasTimed ys x ticks
    go (inl h) = inl (inr h)
    go (inr h) = inr h
