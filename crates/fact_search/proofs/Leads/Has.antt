-- What holds of each edge of a list.
use Rattle.std.proofs.Common.{◌≡◌, ℕ, ◌⊎◌, List, [], ◌∷◌, ◌++◌, refl, sym, subst, inl, inr}
use Rattle.std.proofs.Common.{Bool, true, false}
use Rattle.std.proofs.lemmas.Bool.{cases_Bool, cond-true, cond-false}
use Rattle.facts.specs.domain.Rows.{Row, source_at}
use Rattle.board.specs.Boards.{Board}
use Rattle.seq_program.specs.declared.instr.Instr.{Instr}
use Rattle.seq_program.specs.Requests.{else_in}
use Rattle.simulator.specs.ForeignTicks.{foreign_ticks}
use Rattle.facts.specs.transfer.Edges.{Edge, edge, edge_if, edges, lost_edges, possible}
use Rattle.facts.specs.transfer.Edges.{is_possible}
use Rattle.facts.specs.transfer.Ticks.{own_ticks}
use Rattle.facts.specs.transfer.TimedEdges.{HasTimed, timed, timed_edges}

-- the edge is one of a list
abbrev pub HasEdge : List Edge → Edge → Type 0
HasEdge [] x = ⊥
HasEdge (e ∷ es) x = (x ≡ e) ⊎ HasEdge es x

timed_has : (n : ℕ) (es : List Edge) (x : Edge) (k : ℕ) → HasTimed (timed n es) x k
    → HasEdge es x × (k ≡ n)
timed_has n [] x k h = absurd h
timed_has n (e ∷ es) x k (inl h) = (inl h.0, h.1)
timed_has n (e ∷ es) x k (inr h) = let z = timed_has n es x k h in (inr z.0, z.1)

timed_either : (xs ys : List (Edge × ℕ)) (x : Edge) (k : ℕ) → HasTimed (xs ++ ys) x k
    → HasTimed xs x k ⊎ HasTimed ys x k
timed_either [] ys x k h = inr h
timed_either (e ∷ xs) ys x k (inl h) = inl (inl h)
timed_either (e ∷ xs) ys x k (inr h) = go (timed_either xs ys x k h)
  where
    go : HasTimed xs x k ⊎ HasTimed ys x k → HasTimed (e ∷ xs) x k ⊎ HasTimed ys x k
    go (inl z) = inl (inr z)
    go (inr z) = inr z

-- an edge of an instruction is one of its own, or that of a lost arbitration
abbrev pub IsOwn : Board → ℕ → Instr → Row → Edge → ℕ → Type 0
IsOwn b place i row x k = HasEdge (edges b place i row) x × (k ≡ own_ticks b i)

abbrev pub IsLost : Board → Instr → Row → Edge → ℕ → Type 0
IsLost b i row x k = HasEdge (lost_edges b (else_in i) row) x × (k ≡ foreign_ticks b)

pub own_or_lost : (b : Board) (place : ℕ) (i : Instr) (row : Row) (x : Edge) (k : ℕ)
    → HasTimed (timed_edges b place i row) x k → IsOwn b place i row x k ⊎ IsLost b i row x k
own_or_lost b place i row x k h = go (timed_either (timed (own_ticks b i) (edges b place i row))
    (timed (foreign_ticks b) (lost_edges b (else_in i) row)) x k h)
  where
    go : HasTimed (timed (own_ticks b i) (edges b place i row)) x k
        ⊎ HasTimed (timed (foreign_ticks b) (lost_edges b (else_in i) row)) x k
        → IsOwn b place i row x k ⊎ IsLost b i row x k
    go (inl z) = inl (timed_has (own_ticks b i) (edges b place i row) x k z)
    go (inr z) = inr (timed_has (foreign_ticks b) (lost_edges b (else_in i) row) x k z)

edge_same : (e : Edge) (P : Edge → Type 0) (x : Edge) → x ≡ e → P e → P x
edge_same e P x same p = subst P (sym same) p

pub has_either : (xs ys : List Edge) (x : Edge) → HasEdge (xs ++ ys) x
    → HasEdge xs x ⊎ HasEdge ys x
has_either [] ys x k = inr k
has_either (e ∷ xs) ys x (inl k) = inl (inl k)
has_either (e ∷ xs) ys x (inr k) = go (has_either xs ys x k)
  where
    go : HasEdge xs x ⊎ HasEdge ys x → HasEdge (e ∷ xs) x ⊎ HasEdge ys x
    go (inl h) = inl (inr h)
    go (inr h) = inr h

pub has_if : (c : Bool) (to : ℕ) (row : Row) (x : Edge) → HasEdge (edge_if c to row) x
    → (c ≡ true) × (x ≡ edge to row)
has_if true to row x (inl e) = (refl, e)
has_if true to row x (inr e) = absurd e
has_if false to row x h = absurd h

-- an edge stays where the set of its source has a value left
pub has_possible : (row : Row) (r : ℕ) (es : List Edge) (x : Edge)
    → HasEdge (possible row r es) x → HasEdge es x ×
    (is_possible x.row (source_at row.sources r) ≡ true)
has_possible row r [] x h = absurd h
has_possible row r (e ∷ es) x h = go (λ l. has_possible row r es x l)
    (cases_Bool (is_possible e.row (source_at row.sources r)))
  where
    P : List Edge → Type 0
    P l = HasEdge (l ++ possible row r es) x

    go : (HasEdge (possible row r es) x → HasEdge es x
        × (is_possible x.row (source_at row.sources r) ≡ true))
        → (is_possible e.row (source_at row.sources r) ≡ true)
        ⊎ (is_possible e.row (source_at row.sources r) ≡ false)
        → HasEdge (e ∷ es) x × (is_possible x.row (source_at row.sources r) ≡ true)
    go rest (inl t) = first (subst P (cond-true (is_possible e.row (source_at row.sources r))
        (e ∷ []) [] t) h)
      where
        first : (x ≡ e) ⊎ HasEdge (possible row r es) x
            → HasEdge (e ∷ es) x × (is_possible x.row (source_at row.sources r) ≡ true)
        first (inl same) = (
          inl same,
          edge_same e (λ y. is_possible y.row
              (source_at row.sources r) ≡ true) x same t,
        )
        first (inr l) = let k = rest l in (inr k.0, k.1)
    go rest (inr t) = let k = rest (subst P (cond-false (is_possible e.row
        (source_at row.sources r)) (e ∷ []) [] t) h) in (inr k.0, k.1)

-- what holds of each edge of a list holds of one of them
pub one_has : (P : Edge → Type 0) (to : ℕ) (row : Row) (x : Edge) → P (edge to row)
    → HasEdge (edge to row ∷ []) x → P x
one_has P to row x k (inl e) = subst P (sym e) k
one_has P to row x k (inr h) = absurd h

pub two_have : (P : Edge → Type 0) (to to' : ℕ) (row row' : Row) (x : Edge) → P (edge to row)
    → P (edge to' row')
    → HasEdge (edge to row ∷ edge to' row' ∷ []) x → P x
two_have P to to' row row' x k k' (inl e) = subst P (sym e) k
two_have P to to' row row' x k k' (inr h) = one_has P to' row' x k' h

pub ifs_have : (P : Edge → Type 0) (c d : Bool) (to to' : ℕ) (row row' : Row) (x : Edge)
    → (c ≡ true → P (edge to row)) → (d ≡ true → P (edge to' row'))
    → HasEdge (edge_if c to row ++ edge_if d to' row') x → P x
ifs_have P c d to to' row row' x k k' h = go (has_either (edge_if c to row) (edge_if d to' row')
    x h)
  where
    go : HasEdge (edge_if c to row) x ⊎ HasEdge (edge_if d to' row') x → P x
    go (inl l) = let z = has_if c to row x l in subst P (sym z.1) (k z.0)
    go (inr l) = let z = has_if d to' row' x l in subst P (sym z.1) (k' z.0)
