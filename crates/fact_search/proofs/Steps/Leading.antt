-- Where the edges of places lead, from visit to visit.
use Rattle.std.proofs.Common.{◌≡◌, ◌<◌, ◌≤◌, ◌⊎◌, ℕ, zero, suc, List, [], ◌∷◌, length, refl}
use Rattle.std.proofs.Common.{ap, sym}
use Rattle.std.proofs.Common.{◌∙◌, subst, inl, inr, arith, Bool, true, false, get_or}
use Rattle.std.proofs.lemmas.Bool.{cases_eq, cases_lt, false≢true}
use Rattle.std.proofs.lemmas.List.{get_or-set_same, get_or-set_other}
use Rattle.std.specs.Prelude.{slice_set, replicate, Vec}
use Rattle.std.specs.declared.alloc.Global.{Global}
use Rattle.board.specs.Boards.{Board}
use Rattle.seq_program.specs.declared.instr.Instr.{Instr}
use Rattle.facts.specs.transfer.Edges.{Edge}
use Rattle.table_check.specs.Tables.{Table, row_of}
use Rattle.fact_search.specs.Leading.{AreLeadsAt, IsLed, IsLedTable, leads_at, leads_of}
use Rattle.fact_search.specs.Leading.{leads_view}
use Rattle.fact_search.specs.Searching.{AreEdgesAt, IsLearnt, is_changed}
use Rattle.fact_search.proofs.Shared.Tables.{length_set}
use Rattle.fact_search.proofs.Steps.First.{IsFirst}

abbrev Leads : Type 0
Leads = List (ℕ × ℕ)

-- the code's leads
pub set_view : (leads : List (Vec (ℕ × ℕ) Global)) (m : ℕ) (x : Vec (ℕ × ℕ) Global)
    → leads_view (slice_set leads m x) ≡ slice_set (leads_view leads) m x.items
set_view [] m x = refl
set_view (y ∷ leads) zero x = refl
set_view (y ∷ leads) (suc m) x = ap (λ ls. y.items ∷ ls) (set_view leads m x)

pub view_length : (leads : List (Vec (ℕ × ℕ) Global)) → length (leads_view leads) ≡ length leads
view_length [] = refl
view_length (y ∷ leads) = ap suc (view_length leads)

view_at : (leads : List (Vec (ℕ × ℕ) Global)) (n : ℕ) (v : Vec (ℕ × ℕ) Global)
    → n < length leads → v ≡ get_or leads n v → leads_at (leads_view leads) n ≡ v.items
view_at [] n v lt e = absurd (omega (arith, lt))
view_at (y ∷ leads) zero v lt e = ap (λ (w : Vec (ℕ × ℕ) Global). w.items) (sym e)
view_at (y ∷ leads) (suc n) v lt e =
    let less : n < length leads = omega (arith, lt) in view_at leads n v less e

-- the code's leads of a place
pub leads_here : (b : Board) (p : List Instr) (t : Table) (leads : List (Vec (ℕ × ℕ) Global))
    (place : ℕ) (v : Vec (ℕ × ℕ) Global) (seen : List (ℕ × ℕ))
    → IsLedTable b p t (leads_view leads) → place < length p → v ≡ get_or leads place v
    → seen ≡ v.items → AreLeadsAt b p t place seen
leads_here b p t leads place v seen k lt e same =
    let P : List (ℕ × ℕ) → Type 0 = λ ls. AreLeadsAt b p t place ls in
    let places = k.places in
    let count = view_length leads in
    let inside : place < length leads = omega (arith, lt, places, count) in
    subst P (view_at leads place v inside e ∙ sym same) (k.led place)

edges_stay : (b : Board) (p : List Instr) (t new : Table) (n : ℕ) (es : List (Edge × ℕ))
    → row_of new n ≡ row_of t n → AreEdgesAt b p t n es → AreEdgesAt b p new n es
edges_stay b p t new n es same (inl none) =
    inl (none.0, λ i row here there met. none.1 i row here (sym same ∙ there) met)
edges_stay b p t new n es same (inr x) = inr (x.0, x.1, x.2, same ∙ x.3, x.4, x.5)

leads_stay : (b : Board) (p : List Instr) (t new : Table) (n : ℕ) (leads : Leads)
    → row_of new n ≡ row_of t n → AreLeadsAt b p t n leads → AreLeadsAt b p new n leads
leads_stay b p t new n leads same k = (k.0, edges_stay b p t new n k.0 same k.1, k.2)

-- before any place is visited
none_at : (count n : ℕ) → leads_at (replicate count []) n ≡ []
none_at zero n = refl
none_at (suc count) zero = refl
none_at (suc count) (suc n) = none_at count n

length_none : (count : ℕ) → length (replicate {A = Leads} count []) ≡ count
length_none zero = refl
length_none (suc count) = ap suc (length_none count)

pub led_first : (b : Board) (p : List Instr) (t : Table) (changed : List Bool)
    (leads : List Leads) → IsFirst b t changed (length p) → leads ≡ replicate (length p) []
    → IsLed b p t changed leads
led_first b p t changed leads k e =
    let P : List Leads → Type 0 = λ ls. IsLed b p t changed ls in
    subst P (sym e) (record {
      places = length_none (length p);
      led = λ n settled. (
        [],
        inl (
          refl,
          λ i row here there met. absurd (false≢true (sym settled
              ∙ (ap (is_changed changed) (k.others n row there) ∙ k.flag))),
        ),
        none_at (length p) n,
      );
    })

-- a place is visited
pub led_visited : (b : Board) (p : List Instr) (t : Table) (changed : List Bool)
    (leads : List Leads) (place : ℕ) (es : List (Edge × ℕ)) (now : Leads)
    → IsLed b p t changed leads → place < length p → AreEdgesAt b p t place es
    → now ≡ leads_of es
    → IsLed b p t (slice_set changed place false) (slice_set leads place now)
led_visited b p t changed leads place es now k lt is e = record {
  places = length_set leads place now ∙ k.places;
  led = λ n settled. go n settled (cases_eq n place);
}
  where
    go : (n : ℕ) → is_changed (slice_set changed place false) n ≡ false
        → (n ≡ place) ⊎ (n ≡ place → ⊥)
        → AreLeadsAt b p t n (leads_at (slice_set leads place now) n)
    go n settled (inl same) =
        let P : ℕ → Type 0 = λ m. AreLeadsAt b p t m (leads_at (slice_set leads place now) m) in
        let inside : place < length leads = let c = k.places in omega (arith, lt, c) in
        subst P (sym same) (es, is, get_or-set_same leads place now [] inside ∙ e)
    go n settled (inr apart) =
        let P : Leads → Type 0 = λ ls. AreLeadsAt b p t n ls in
        subst P (sym (get_or-set_other leads place n now [] apart))
        (k.led n (sym (get_or-set_other changed place n false false apart) ∙ settled))

-- the row where an edge leads knew it already
pub led_same : (b : Board) (p : List Instr) (place : ℕ) (t new : Table) (changed : List Bool)
    (leads : List Leads) (e : Edge) (told : Bool) → IsLed b p t changed leads
    → IsLearnt b place t new e told → told ≡ false → IsLed b p new changed leads
led_same b p place t new changed leads e told k h f = record {
  places = k.places;
  led = λ n settled. leads_stay b p t new n (leads_at leads n) (same n (cases_eq n e.to))
      (k.led n settled);
}
  where
    same : (n : ℕ) → (n ≡ e.to) ⊎ (n ≡ e.to → ⊥) → row_of new n ≡ row_of t n
    same n (inl is) = ap (row_of new) is ∙ (h.kept f ∙ ap (row_of t) (sym is))
    same n (inr apart) = h.same n apart

-- it changed
pub led_changed : (b : Board) (p : List Instr) (place : ℕ) (t new : Table) (changed : List Bool)
    (leads : List Leads) (e : Edge) (told : Bool) → IsLed b p t changed leads
    → IsLearnt b place t new e told → e.to < length changed
    → IsLed b p new (slice_set changed e.to true) leads
led_changed b p place t new changed leads e told k h lt = record {
  places = k.places;
  led = λ n settled. go n settled (cases_eq n e.to);
}
  where
    go : (n : ℕ) → is_changed (slice_set changed e.to true) n ≡ false
        → (n ≡ e.to) ⊎ (n ≡ e.to → ⊥) → AreLeadsAt b p new n (leads_at leads n)
    go n settled (inl same) =
        absurd (false≢true (sym settled ∙ (ap (is_changed (slice_set changed e.to true)) same
        ∙ get_or-set_same changed e.to true false lt)))
    go n settled (inr apart) =
        leads_stay b p t new n (leads_at leads n) (h.same n apart)
        (k.led n (sym (get_or-set_other changed e.to n true false apart) ∙ settled))

-- at the end
pub all_led : (b : Board) (p : List Instr) (t : Table) (changed : List Bool) (cursor : ℕ)
    (leads : List Leads) → IsLed b p t changed leads
    → ((n : ℕ) → n < cursor → is_changed changed n ≡ false)
    → ((n : ℕ) → cursor ≤ n → is_changed changed n ≡ false) → IsLedTable b p t leads
all_led b p t changed cursor leads k before after = record {
  places = k.places;
  led = λ n. k.led n (unchanged n (cases_lt n cursor));
}
  where
    unchanged : (n : ℕ) → (n < cursor) ⊎ (cursor ≤ n) → is_changed changed n ≡ false
    unchanged n (inl lt) = before n lt
    unchanged n (inr le) = after n le
