-- What is owed from a place on: what is owed at the place, and from the next one on.
use Rattle.std.proofs.Common.{◌≡◌, ℕ, zero, suc, ◌+◌, ◌<◌, ◌≤◌, Some, None, List, [], ◌∷◌, ◌++◌}
use Rattle.std.proofs.Common.{length}
use Rattle.std.proofs.Common.{drop, slice_get, refl, sym, ap, subst, ◌∙◌, arith}
use Rattle.std.specs.Prelude.{Option, option_map, slice_index_or}
use Rattle.std.proofs.lemmas.Option.{slice_get-get_or}
use Rattle.std.proofs.lemmas.List.{length-map}
use Rattle.board.specs.Boards.{Board}
use Rattle.seq_program.specs.declared.instr.Instr.{Instr}
use Rattle.facts.specs.declared.domain.row.Row.{Row as CodeRow}
use Rattle.facts.specs.domain.Rows.{row_view}
use Rattle.table_check.specs.Tables.{Table, row_of, rows_view}
use Rattle.table_check.specs.checker.Obligations.{Obligation, IsFirstFault, Length, Start}
use Rattle.table_check.specs.checker.Obligations.{obligations, of_places, shapes}
use Rattle.table_check.specs.checker.Looking.{HasRowsOf, at_both, at_place, of_code, of_form}
use Rattle.table_check.specs.checker.Looking.{shape_at}
use Rattle.table_check.proofs.Obligations.{hold_front, hold_shape, no_fault}
use Rattle.table_check.proofs.Places.{none_some, some_same}

-- shapes
abbrev pub shapes_from : Table → ℕ → List Obligation
shapes_from t place = shapes place (drop place t)

shapes_at : (t : Table) (place n : ℕ)
    → shapes n (drop place t) ≡ shape_at n (row_of t place) ++ shapes (n + 1) (drop (suc place) t)
shapes_at [] zero n = refl
shapes_at [] (suc place) n = refl
shapes_at (None ∷ t) zero n = refl
shapes_at (Some row ∷ t) zero n = refl
shapes_at (x ∷ t) (suc place) n = shapes_at t place n

pub shapes_next : (t : Table) (place : ℕ)
    → shapes_from t place ≡ shape_at place (row_of t place) ++ shapes_from t (place + 1)
shapes_next t place =
    let P : ℕ → Type 0 = λ n. shapes_from t place
    ≡ shape_at place (row_of t place) ++ shapes (place + 1) (drop n t) in
    let s : suc place ≡ place + 1 = omega arith in
    subst P s (shapes_at t place place)

pub shapes_end : (t : Table) (place : ℕ) → length t ≤ place → shapes_from t place ≡ []
shapes_end t place h = ap (shapes place) (none_left t place h)
  where
    none_left : {X : Type 0} (xs : List X) (n : ℕ) → length xs ≤ n → drop n xs ≡ []
    none_left [] zero h = refl
    none_left [] (suc n) h = refl
    none_left (x ∷ xs) zero h = absurd (omega (arith, h))
    none_left (x ∷ xs) (suc n) h = none_left xs n (omega (arith, h))

-- places
abbrev pub places_from : Board → List Instr → Table → ℕ → List Obligation
places_from b p t place = of_places b place (drop place p) (drop place t)

no_rows : (b : Board) (p : List Instr) (n : ℕ) → of_places b n p [] ≡ []
no_rows b [] n = refl
no_rows b (i ∷ p) n = refl

places_at : (b : Board) (p : List Instr) (t : Table) (place n : ℕ)
    → of_places b n (drop place p) (drop place t)
    ≡ at_both b n (slice_get p place) (row_of t place)
    ++ of_places b (n + 1) (drop (suc place) p) (drop (suc place) t)
places_at b [] t zero n = refl
places_at b [] t (suc place) n = refl
places_at b (i ∷ p) [] zero n = sym (no_rows b p (n + 1))
places_at b (i ∷ p) [] (suc place) n =
    no_rows b (drop place p) n ∙ sym (no_rows b (drop (suc place) p) (n + 1))
    ∙ ap (λ os. os ++ of_places b (n + 1) (drop (suc place) p) []) (none_at (slice_get p place))
  where
    none_at : (o : Option Instr) → [] ≡ at_both b n o None
    none_at None = refl
    none_at (Some x) = refl
places_at b (i ∷ p) (None ∷ t) zero n = refl
places_at b (i ∷ p) (Some row ∷ t) zero n = refl
places_at b (i ∷ p) (x ∷ t) (suc place) n = places_at b p t place n

pub places_next : (b : Board) (p : List Instr) (t : Table) (place : ℕ)
    → places_from b p t place ≡ at_place b p t place ++ places_from b p t (place + 1)
places_next b p t place =
    let P : ℕ → Type 0 = λ n. places_from b p t place
    ≡ at_place b p t place ++ of_places b (place + 1) (drop n p) (drop n t) in
    let s : suc place ≡ place + 1 = omega arith in
    subst P s (places_at b p t place place)

pub places_end : (b : Board) (p : List Instr) (t : Table) (place : ℕ) → length t ≤ place
    → places_from b p t place ≡ []
places_end b p t place h = by (drop place p) (drop place t) (none_left t place h)
  where
    none_left : {X : Type 0} (xs : List X) (n : ℕ) → length xs ≤ n → drop n xs ≡ []
    none_left [] zero h = refl
    none_left [] (suc n) h = refl
    none_left (x ∷ xs) zero h = absurd (omega (arith, h))
    none_left (x ∷ xs) (suc n) h = none_left xs n (omega (arith, h))

    by : (is' : List Instr) (rows : Table) → rows ≡ [] → of_places b place is' rows ≡ []
    by is' rows e = ap (of_places b place is') e ∙ no_rows b is' place

-- edges
abbrev pub edges_from : ℕ → List (ℕ × CodeRow × ℕ) → ℕ → List Obligation
edges_from place edges n = of_code place (drop n edges)

edges_at : (place : ℕ) (edges : List (ℕ × CodeRow × ℕ)) (n : ℕ) (e : ℕ × CodeRow × ℕ)
    → slice_get edges n ≡ Some e
    → edges_from place edges n ≡ of_code place (e ∷ []) ++ edges_from place edges (suc n)
edges_at place [] n e at' = absurd (none_some e at')
edges_at place (x ∷ edges) zero e at' =
    ap (λ (y : ℕ × CodeRow × ℕ). of_code place (y ∷ []) ++ of_code place edges)
    (some_same x e at')
edges_at place (x ∷ edges) (suc n) e at' = edges_at place edges n e at'

pub edges_next : (place : ℕ) (edges : List (ℕ × CodeRow × ℕ)) (n : ℕ) (e : ℕ × CodeRow × ℕ)
    → slice_get edges n ≡ Some e
    → edges_from place edges n ≡ of_code place (e ∷ []) ++ edges_from place edges (n + 1)
edges_next place edges n e at' =
    let P : ℕ → Type 0 = λ m. edges_from place edges n
    ≡ of_code place (e ∷ []) ++ edges_from place edges m in
    let s : suc n ≡ n + 1 = omega arith in
    subst P s (edges_at place edges n e at')

pub edges_end : (place : ℕ) (edges : List (ℕ × CodeRow × ℕ)) (n : ℕ) → length edges ≤ n
    → edges_from place edges n ≡ []
edges_end place [] zero h = refl
edges_end place [] (suc n) h = refl
edges_end place (x ∷ edges) zero h = absurd (omega (arith, h))
edges_end place (x ∷ edges) (suc n) h = edges_end place edges n (omega (arith, h))

-- what is owed before any instruction is looked at, and then what the places owe
behind : (xs ys : List Obligation) (o : Obligation) → (xs ++ (o ∷ [])) ++ ys ≡ xs ++ (o ∷ ys)
behind [] ys o = refl
behind (x ∷ xs) ys o = ap (λ os. x ∷ os) (behind xs ys o)

pub of_both : (b : Board) (p : List Instr) (t : Table)
    → of_form t ++ of_places b 0 p t ≡ obligations b p t
of_both b p t = ap (λ os. Length ∷ os) (behind (shapes 0 t) (of_places b 0 p t) Start)

pub rows_of : (b : Board) (p : List Instr) (t : Table) → IsFirstFault b p t (of_form t) None
    → HasRowsOf b t
rows_of b p t none = λ place row at'.
    hold_shape b p t t 0 place row
    (hold_front b p t (shapes 0 t) (Start ∷ []) (no_fault b p t (of_form t) none).1) at'

pub view_length : (rows : List (Option CodeRow)) → length (rows_view rows) ≡ length rows
view_length rows = length-map rows (option_map row_view)

-- what a loop looks at
pub item_at : {X : Type 0} (xs : List X) (n : ℕ) (x : X) → n < length xs
    → x ≡ slice_index_or xs n x → slice_get xs n ≡ Some x
item_at xs n x lt is = slice_get-get_or xs n x lt ∙ ap (λ y. Some y) (sym is)
