-- Tables with ticks.
use Rattle.std.proofs.Common.{◌≡◌, ℕ, zero, suc, List, [], ◌∷◌, length, map, refl, ap, sym, ◌∙◌}
use Rattle.std.proofs.Common.{subst, arith, drop, ◌+◌, ◌++◌, append_assoc}
use Rattle.std.proofs.Common.{All, ◌<◌}
use Rattle.std.specs.List.{AllByRecursion}
use Rattle.std.proofs.lemmas.List.{length-append}
use Rattle.std.proofs.lemmas.List.Elements.{All-from_recursion, recursion_from_All}
use Rattle.std.specs.Prelude.{Option, Some, None, option_map, slice_get, slice_index}
use Rattle.facts.specs.declared.domain.row.Row.{Row as CodeRow}
use Rattle.facts.specs.domain.Rows.{Row, row_view}
use Rattle.table_check.specs.Tables.{rows_view, Table, row_of}
use Rattle.fact_search.specs.declared.loops.Ticks.{Ticks}
use Rattle.fact_search.specs.Ticking.{ahead, later, paid, plain, ticked, ticked_row, with_left}
use Rattle.fact_search.proofs.Shared.Places.{none_some, some_same}

pub length_ticked : (lefts : List Ticks) (t : Table) → length (ticked lefts t) ≡ length t
length_ticked lefts [] = refl
length_ticked [] (row ∷ t) = ap suc (length_ticked [] t)
length_ticked (left ∷ lefts) (None ∷ t) = ap suc (length_ticked lefts t)
length_ticked (left ∷ lefts) (Some row ∷ t) = ap suc (length_ticked lefts t)

-- each row is one of before, with the ticks of its place
pub old_row : (lefts : List Ticks) (t : Table) (n : ℕ) (left : Ticks) (row : Row)
    → slice_get lefts n ≡ Some left → row_of (ticked lefts t) n ≡ Some row
    → (old : Row) × (row_of t n ≡ Some old) × (row ≡ with_left left old)
old_row lefts [] n left row at e = absurd (none_some row e)
old_row [] (x ∷ t) n left row at e = absurd (none_some left at)
old_row (k ∷ lefts) (None ∷ t) zero left row at e = absurd (none_some row e)
old_row (k ∷ lefts) (Some old ∷ t) zero left row at e = (
  old,
  refl,
  sym (some_same (with_left k old) row e) ∙ ap (λ (z : Ticks). with_left z old)
      (some_same k left at),
)
old_row (k ∷ lefts) (None ∷ t) (suc n) left row at e = old_row lefts t n left row at e
old_row (k ∷ lefts) (Some x ∷ t) (suc n) left row at e = old_row lefts t n left row at e

pub new_row : (lefts : List Ticks) (t : Table) (n : ℕ) (left : Ticks) (old : Row)
    → slice_get lefts n ≡ Some left → row_of t n ≡ Some old
    → row_of (ticked lefts t) n ≡ Some (with_left left old)
new_row lefts [] n left old at e = absurd (none_some old e)
new_row [] (x ∷ t) n left old at e = absurd (none_some left at)
new_row (k ∷ lefts) (None ∷ t) zero left old at e = absurd (none_some old e)
new_row (k ∷ lefts) (Some x ∷ t) zero left old at e =
    ap (λ (z : Row). Some (with_left k z)) (some_same x old e)
    ∙ ap (λ (z : Ticks). Some (with_left z old)) (some_same k left at)
new_row (k ∷ lefts) (None ∷ t) (suc n) left old at e = new_row lefts t n left old at e
new_row (k ∷ lefts) (Some x ∷ t) (suc n) left old at e = new_row lefts t n left old at e

-- the ticks of a place that also pay for lost arbitrations
abbrev pub left_at : ℕ → ℕ → List ℕ → ℕ → Ticks
left_at lost most ticks zero = ahead lost most (plain (slice_index ticks 0))
left_at lost most ticks (suc n) = later lost (plain (slice_index ticks (suc n)))

later_at : (lost : ℕ) (ticks : List ℕ) (n : ℕ) → n < length ticks
    → slice_get (map (later lost) (map plain ticks)) n
    ≡ Some (later lost (plain (slice_index ticks n)))
later_at lost [] n lt = absurd (omega (arith, lt))
later_at lost (k ∷ ticks) zero lt = refl
later_at lost (k ∷ ticks) (suc n) lt = later_at lost ticks n (omega (arith, lt))

pub paid_at : (lost most : ℕ) (ticks : List ℕ) (n : ℕ) → n < length ticks
    → slice_get (paid lost most (map plain ticks)) n ≡ Some (left_at lost most ticks n)
paid_at lost most [] n lt = absurd (omega (arith, lt))
paid_at lost most (k ∷ ticks) zero lt = refl
paid_at lost most (k ∷ ticks) (suc n) lt = later_at lost ticks n (omega (arith, lt))

-- one place more
pub ticked_next : (lefts : List Ticks) (n : ℕ) (x : Option Row) (t : Table)
    → ticked (drop n lefts) (x ∷ t)
    ≡ ticked_row (slice_get lefts n) x ∷ ticked (drop (suc n) lefts) t
ticked_next [] zero x t = refl
ticked_next [] (suc n) x t = refl
ticked_next (left ∷ lefts) zero x t = refl
ticked_next (left ∷ lefts) (suc n) x t = ticked_next lefts n x t

pub ticked_more : (lefts : List Ticks) (n m : ℕ) (x : Option Row) (t : Table) (y : Option Row)
    (done : Table) → m ≡ n + 1 → y ≡ ticked_row (slice_get lefts n) x
    → (done ++ y ∷ []) ++ ticked (drop m lefts) t ≡ done ++ ticked (drop n lefts) (x ∷ t)
ticked_more lefts n m x t y done e f =
    let more : suc n ≡ m = omega (arith, e) in
    append_assoc done (y ∷ []) (ticked (drop m lefts) t)
    ∙ ap (λ xs. done ++ xs) (ap (λ z. z ∷ ticked (drop m lefts) t) f
    ∙ (ap (λ k. ticked_row (slice_get lefts n) x ∷ ticked (drop k lefts) t) (sym more)
    ∙ sym (ticked_next lefts n x t)))

view_pushed : (rows : List (Option CodeRow)) (x : Option CodeRow)
    → rows_view (rows ++ x ∷ []) ≡ rows_view rows ++ option_map row_view x ∷ []
view_pushed [] x = refl
view_pushed (y ∷ rows) x = ap (λ t. option_map row_view y ∷ t) (view_pushed rows x)

pub ticked_pushed : (lefts : List Ticks) (out more rest later : List (Option CodeRow))
    (x y : Option CodeRow) (n : ℕ) → more ≡ out ++ y ∷ [] → rest ≡ x ∷ later → n ≡ length out
    → option_map row_view y ≡ ticked_row (slice_get lefts n) (option_map row_view x)
    → rows_view more ++ ticked (drop (length more) lefts) (rows_view later)
    ≡ rows_view out ++ ticked (drop (length out) lefts) (rows_view rest)
ticked_pushed lefts out more rest later x y n e f g h =
    let count : length more ≡ length out + 1 =
    let a = ap (λ (xs : List (Option CodeRow)). length xs) e in
    let b = length-append out (y ∷ []) in omega (arith, a, b) in
    let P : ℕ → Type 0 = λ k. option_map row_view y ≡ ticked_row (slice_get lefts k)
    (option_map row_view x) in
    ap (λ t. t ++ ticked (drop (length more) lefts) (rows_view later))
    (ap rows_view e ∙ view_pushed out y)
    ∙ (ticked_more lefts (length out) (length more) (option_map row_view x) (rows_view later)
    (option_map row_view y) (rows_view out) count (subst P g h)
    ∙ ap (λ xs. rows_view out ++ ticked (drop (length out) lefts) (rows_view xs)) (sym f))

pushed_each : {X : Type 0} (P : X → Type 0) (xs : List X) (x : X) → AllByRecursion P xs → P x
    → AllByRecursion P (xs ++ x ∷ [])
pushed_each P [] x h k = (k, tt)
pushed_each P (y ∷ xs) x h k = (h.0, pushed_each P xs x h.1 k)

pub all_pushed : {X : Type 0} (P : X → Type 0) (xs more : List X) (x : X) → more ≡ xs ++ x ∷ []
    → All P xs → P x → All P more
all_pushed {X} P xs more x e h k =
    let Q : List X → Type 0 = λ ys. All P ys in
    subst Q (sym e) (All-from_recursion P (xs ++ x ∷ [])
    (pushed_each P xs x (recursion_from_All P xs h) k))
