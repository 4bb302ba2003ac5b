-- A visit of a place: what its edges bring is joined in, edge by edge.
use Rattle.std.proofs.Common.{◌≡◌, ◌<◌, ◌≤◌, ◌+◌, ◌⊎◌, ℕ, List, [], ◌∷◌, length, map, refl, ap}
use Rattle.std.proofs.Common.{sym, ◌∙◌, subst, inl, inr, arith, Bool, true, false}
use Rattle.std.proofs.lemmas.Bool.{cases_eq, false≢true}
use Rattle.std.proofs.lemmas.List.{get_or-set_same, get_or-set_other}
use Rattle.std.specs.Prelude.{min, slice_set, replicate, Some}
use Rattle.board.specs.Boards.{Board}
use Rattle.seq_program.specs.declared.instr.Instr.{Instr}
use Rattle.facts.specs.declared.domain.row.Row.{Row as CodeRow}
use Rattle.facts.specs.declared.duties.rule.Rule.TheVariants.{K1}
use Rattle.facts.specs.declared.domain.source.Source.{Source}
use Rattle.facts.specs.declared.domain.source.Source.TheVariants as source
use Rattle.facts.specs.declared.domain.span.Span.{Span}
use Rattle.facts.specs.transfer.Edges.{Edge, edge}
use Rattle.facts.specs.domain.Rows.{Row, RowCovers, InSpans, SpansCover, SourceCovers, row_view}
use Rattle.facts.specs.domain.Rows.{source_at}
use Rattle.facts.specs.well_formed.Starts.{HoldsStarts}
use Rattle.facts.specs.transfer.TimedEdges.{HasTimed, timed_edges}
use Rattle.facts.specs.transfer.Ways.{timed_view}
use Rattle.table_check.specs.checker.Looking.{HasRowsOf}
use Rattle.table_check.specs.checker.Rules.{IsCovered}
use Rattle.table_check.specs.Tables.{Table, row_of}
use Rattle.fact_search.specs.Forward.{IsForward}
use Rattle.facts.specs.FactLaws.{without_ticks}
use Rattle.fact_search.specs.Searching.{AreEdgesAt, IsBelow, IsFollowed, IsLearnt, IsSearched}
use Rattle.fact_search.specs.Searching.{KnowsStarts, Premises, is_changed}
use Rattle.fact_search.proofs.Leads.Has.{HasEdge}
use Rattle.fact_search.proofs.Shared.Covers.{covers_self, covers_trans}
use Rattle.fact_search.proofs.Shared.Places.{some_same, within}
use Rattle.fact_search.proofs.Shared.Tables.{length_set}
use Rattle.fact_search.proofs.Steps.Below.{IsEdge, is_edge}

-- the code's edges
abbrev pub edges_view : List (ℕ × CodeRow × ℕ) → List Edge
edges_view [] = []
edges_view (x ∷ items) = edge x.0 (row_view x.1) ∷ edges_view items

abbrev firsts : List (Edge × ℕ) → List Edge
firsts [] = []
firsts (x ∷ xs) = x.0 ∷ firsts xs

firsts_view : (items : List (ℕ × CodeRow × ℕ)) → firsts (map timed_view items) ≡ edges_view items
firsts_view [] = refl
firsts_view (x ∷ items) = ap (λ es. edge x.0 (row_view x.1) ∷ es) (firsts_view items)

-- an edge without its ticks, and back
first_has : (es : List (Edge × ℕ)) (x : Edge) (k : ℕ) → HasTimed es x k → HasEdge (firsts es) x
first_has [] x k h = absurd h
first_has (e ∷ es) x k (inl h) = inl h.0
first_has (e ∷ es) x k (inr h) = inr (first_has es x k h)

has_first : (es : List (Edge × ℕ)) (x : Edge) → HasEdge (firsts es) x → (k : ℕ) × HasTimed es x k
has_first [] x h = absurd h
has_first (e ∷ es) x (inl h) = (e.1, inl (h, refl))
has_first (e ∷ es) x (inr h) = let z = has_first es x h in (z.0, inr z.1)

same_edges : (items : List (ℕ × CodeRow × ℕ)) (es : List (Edge × ℕ)) → map timed_view items ≡ es
    → edges_view items ≡ firsts es
same_edges items es e = sym (firsts_view items) ∙ ap firsts e

no_edges : (items : List (ℕ × CodeRow × ℕ)) → map timed_view items ≡ [] → edges_view items ≡ []
no_edges items e = sym (firsts_view items) ∙ ap firsts e

-- a row in each place that had one, which covers it
abbrev Grows : Board → Table → Table → Type 0
Grows b t new = (n : ℕ) (s : Row) → row_of t n ≡ Some s
    → (wider : Row) × (row_of new n ≡ Some wider) × RowCovers b wider s

covered_on : (b : Board) (t new : Table) (e : Edge) → Grows b t new → IsCovered b t e
    → IsCovered b new e
covered_on b t new e g c =
    let x = g e.to c.0 c.1 in
    (x.0, x.1, covers_trans b x.0 c.0 e.row x.2 c.2)

followed_on : (b : Board) (p : List Instr) (t new : Table) (n : ℕ) → Grows b t new
    → row_of new n ≡ row_of t n → IsFollowed b p t n → IsFollowed b p new n
followed_on b p t new n g same k i row here there met e ticks h =
    covered_on b t new e g (k i row here (sym same ∙ there) met e ticks h)

grows_by : (b : Board) (place : ℕ) (t new : Table) (e : Edge) (changed : Bool)
    → IsLearnt b place t new e changed → Grows b t new
grows_by b place t new e changed k n s at' = go (cases_eq n e.to)
  where
    go : (n ≡ e.to) ⊎ (n ≡ e.to → ⊥)
        → (wider : Row) × (row_of new n ≡ Some wider) × RowCovers b wider s
    go (inl same) =
        let x = k.grown s (ap (row_of t) (sym same) ∙ at') in
        (x.0, ap (row_of new) same ∙ x.1, x.2)
    go (inr apart) = (s, k.same n apart ∙ at', covers_self b s)

-- a row that covers one with every start has every start
spans_hold : (ss us : List Span) (xs : List ℕ) → SpansCover ss us → InSpans us xs → InSpans ss xs
spans_hold [] [] [] c h = tt
spans_hold (s ∷ ss) (u ∷ us) (x ∷ xs) c h =
    ((omega (arith, c.0.0, h.0.0), omega (arith, c.0.1, h.0.1)), spans_hold ss us xs c.1 h.1)
spans_hold [] [] (x ∷ xs) c h = absurd h
spans_hold [] (u ∷ us) xs c h = absurd c
spans_hold (s ∷ ss) [] xs c h = absurd c
spans_hold (s ∷ ss) (u ∷ us) [] c h = absurd h

source_none : (s u : Source) → SourceCovers s u → u ≡ source.None → s ≡ source.None
source_none s u (inl e) k = e
source_none s u (inr e) k = e ∙ k

pub starts_hold : (b : Board) (s u : Row) → RowCovers b s u → HoldsStarts b (without_ticks u)
    → HoldsStarts b (without_ticks s)
starts_hold b s u c k = record {
  pages = λ i t at' j d lt.
      c.pages i (within b.targets i t at') _ (k.pages i t at' j d lt);
  protects = λ i t at' j d lt.
      c.protects i (within b.targets i t at') _ (k.protects i t at' j d lt);
  good = λ d g. k.good d (c.good d g);
  regs = spans_hold s.regs u.regs (replicate 8 0) c.regs k.regs;
  counters = spans_hold s.counters u.counters (replicate 4 0) c.counters k.counters;
  sources = λ r. source_none (source_at s.sources r) (source_at u.sources r) (c.sources r)
      (k.sources r);
  lost = (omega (arith, c.lost.0, k.lost.0), omega (arith, c.lost.1, k.lost.1));
  lost_coeff = refl;
}

-- what a visit keeps, where some edges are still to come
pub record IsVisiting (b : Board) (p : List Instr) (place : ℕ) (es : List Edge) (first t : Table)
    (changed : List Bool) (rest : List Edge) (next : ℕ) : Type 0 where
  pub places : length t ≡ length p
  pub flags : length changed ≡ length p
  pub rows : HasRowsOf b t
  pub start : KnowsStarts b t
  pub below : IsForward p → IsBelow b p t
  pub others : (n : ℕ) → (n ≡ place → ⊥) → is_changed changed n ≡ false → IsFollowed b p t n
  pub itself : is_changed changed place ≡ false → row_of t place ≡ row_of first place
  pub covered : (e : Edge) → HasEdge es e → HasEdge rest e ⊎ IsCovered b t e
  pub coming : (e : Edge) → HasEdge rest e → IsEdge b p place e
  pub near : next ≤ place + 1
  pub settled : (n : ℕ) → n < next → is_changed changed n ≡ false
  pub onward : IsForward p → place < next

coming_first : (b : Board) (p : List Instr) (t : Table) (place : ℕ)
    (items : List (ℕ × CodeRow × ℕ)) → Premises b p → (IsForward p → IsBelow b p t)
    → HasRowsOf b t → AreEdgesAt b p t place (map timed_view items) → (e : Edge)
    → HasEdge (edges_view items) e → IsEdge b p place e
coming_first b p t place items given below rows (inl none) e h =
    let P : List Edge → Type 0 = λ es. HasEdge es e in
    absurd (subst P (no_edges items none.0) h)
coming_first b p t place items given below rows (inr x) e h =
    let i : Instr = x.0 in
    let row : Row = x.1 in
    let P : List Edge → Type 0 = λ es. HasEdge es e in
    let z = has_first (timed_edges b place i row) e
    (subst P (same_edges items (timed_edges b place i row) x.5) h) in
    is_edge b p t place i row given below (rows place row x.3) x.2 x.3 (x.4 K1) e z.0 z.1

pub visit_first : (b : Board) (p : List Instr) (t : Table) (changed : List Bool) (place : ℕ)
    (items : List (ℕ × CodeRow × ℕ)) → Premises b p → IsSearched b p t changed
    → place < length p → ((n : ℕ) → n < place → is_changed changed n ≡ false)
    → AreEdgesAt b p t place (map timed_view items)
    → IsVisiting b p place (edges_view items) t t (slice_set changed place false)
    (edges_view items) (place + 1)
visit_first b p t changed place items given k lt before led = record {
  places = k.places;
  flags = length_set changed place false ∙ k.flags;
  rows = k.rows;
  start = k.start;
  below = k.below;
  others = λ n apart e. k.followed n (sym (get_or-set_other changed place n false false apart) ∙ e);
  itself = λ e. refl;
  covered = λ e h. inl h;
  coming = λ e h. coming_first b p t place items given k.below k.rows led e h;
  near = omega arith;
  settled = λ n less. settled n less (cases_eq n place);
  onward = λ forward. omega arith;
}
  where
    settled : (n : ℕ) → n < place + 1 → (n ≡ place) ⊎ (n ≡ place → ⊥)
        → is_changed (slice_set changed place false) n ≡ false
    settled n less (inl same) =
        let inside : place < length changed = let f = k.flags in omega (arith, lt, f) in
        ap (is_changed (slice_set changed place false)) same
        ∙ get_or-set_same changed place false false inside
    settled n less (inr apart) =
        get_or-set_other changed place n false false apart
        ∙ before n (omega (arith, less, apart))

-- one edge more
covered_more : (b : Board) (t new : Table) (x : Edge) (rest : List Edge) (e : Edge)
    → Grows b t new → IsCovered b new x → HasEdge (x ∷ rest) e ⊎ IsCovered b t e
    → HasEdge rest e ⊎ IsCovered b new e
covered_more b t new x rest e g now (inl (inl same)) =
    let P : Edge → Type 0 = λ z. IsCovered b new z in inr (subst P (sym same) now)
covered_more b t new x rest e g now (inl (inr h)) = inl h
covered_more b t new x rest e g now (inr c) = inr (covered_on b t new e g c)

below_more : (b : Board) (p : List Instr) (place : ℕ) (t new : Table) (x : Edge) (changed : Bool)
    → IsLearnt b place t new x changed → IsEdge b p place x → (IsForward p → IsBelow b p t)
    → IsForward p → IsBelow b p new
below_more b p place t new x changed k coming below forward any inductive n row at' =
    go (cases_eq n x.to)
  where
    go : (n ≡ x.to) ⊎ (n ≡ x.to → ⊥)
        → (above : Row) × (row_of any n ≡ Some above) × RowCovers b above row
    go (inr apart) = below forward any inductive n row (sym (k.same n apart) ∙ at')
    go (inl same) =
        let c = coming.below forward any inductive in (
          c.0,
          ap (row_of any) same ∙ c.1,
          k.least (coming.onward forward) c.0 over c.2 row (ap (row_of new) (sym same) ∙ at'),
        )
      where
        over : (s : Row) → row_of t x.to ≡ Some s
            → RowCovers b (coming.below forward any inductive).0 s
        over s e =
            let y = below forward any inductive x.to s e in
            let c = coming.below forward any inductive in
            let P : Row → Type 0 = λ z. RowCovers b z s in
            subst P (some_same y.0 c.0 (sym y.1 ∙ c.1)) y.2

start_more : (b : Board) (t new : Table) → Grows b t new → KnowsStarts b t → KnowsStarts b new
start_more b t new g s =
    let x = g 0 s.0 s.1 in
    (x.0, x.1, starts_hold b x.0 s.0 x.2 s.2)

-- the row where it leads knew it already
pub visit_same : (b : Board) (p : List Instr) (place : ℕ) (es : List Edge) (first t new : Table)
    (changed : List Bool) (x : Edge) (rest : List Edge) (next : ℕ)
    → IsVisiting b p place es first t changed (x ∷ rest) next → IsLearnt b place t new x false
    → IsVisiting b p place es first new changed rest next
visit_same b p place es first t new changed x rest next k h =
    let g = grows_by b place t new x false h in
    record {
      places = h.places ∙ k.places;
      flags = k.flags;
      rows = h.rows;
      start = start_more b t new g k.start;
      below = below_more b p place t new x false h (k.coming x (inl refl)) k.below;
      others = λ n apart e. followed_on b p t new n g (same n) (k.others n apart e);
      itself = λ e. same place ∙ k.itself e;
      covered = λ e c. covered_more b t new x rest e g h.covered (k.covered e c);
      coming = λ e c. k.coming e (inr c);
      near = k.near;
      settled = k.settled;
      onward = k.onward;
    }
  where
    same : (n : ℕ) → row_of new n ≡ row_of t n
    same n = go (cases_eq n x.to)
      where
        go : (n ≡ x.to) ⊎ (n ≡ x.to → ⊥) → row_of new n ≡ row_of t n
        go (inl e) = ap (row_of new) e ∙ (h.kept refl ∙ ap (row_of t) (sym e))
        go (inr apart) = h.same n apart

-- the row where it leads changed
pub visit_changed : (b : Board) (p : List Instr) (place : ℕ) (es : List Edge)
    (first t new : Table) (changed : List Bool) (x : Edge) (rest : List Edge) (next : ℕ)
    → IsVisiting b p place es first t changed (x ∷ rest) next → IsLearnt b place t new x true
    → IsVisiting b p place es first new (slice_set changed x.to true) rest (min next x.to)
visit_changed b p place es first t new changed x rest next k h =
    let g = grows_by b place t new x true h in
    let one = k.coming x (inl refl) in
    record {
      places = h.places ∙ k.places;
      flags = length_set changed x.to true ∙ k.flags;
      rows = h.rows;
      start = start_more b t new g k.start;
      below = below_more b p place t new x true h one k.below;
      others = λ n apart e.
          let y = other n e (cases_eq n x.to) in
          followed_on b p t new n g (h.same n y.0) (k.others n apart y.1);
      itself = λ e.
          let y = other place e (cases_eq place x.to) in
          h.same place y.0 ∙ k.itself y.1;
      covered = λ e c. covered_more b t new x rest e g h.covered (k.covered e c);
      coming = λ e c. k.coming e (inr c);
      near = let n = k.near in omega (arith, n);
      settled = λ n less.
          get_or-set_other changed x.to n true false (λ e. absurd (omega (arith, e, less)))
          ∙ k.settled n (omega (arith, less));
      onward = λ forward.
          let y = one.onward forward in
          let z = k.onward forward in omega (arith, y, z);
    }
  where
    other : (n : ℕ) → is_changed (slice_set changed x.to true) n ≡ false
        → (n ≡ x.to) ⊎ (n ≡ x.to → ⊥) → (n ≡ x.to → ⊥) × (is_changed changed n ≡ false)
    other n e (inr apart) = (apart, sym (get_or-set_other changed x.to n true false apart) ∙ e)
    other n e (inl same) =
        let inside : x.to < length changed =
        let a = (k.coming x (inl refl)).inside in let f = k.flags in omega (arith, a, f) in
        absurd (false≢true (sym e ∙ (ap (is_changed (slice_set changed x.to true)) same
        ∙ get_or-set_same changed x.to true false inside)))

-- at the end all edges are covered
pub visit_last : (b : Board) (p : List Instr) (place : ℕ) (items : List (ℕ × CodeRow × ℕ))
    (first t : Table) (changed : List Bool) (next : ℕ)
    → IsVisiting b p place (edges_view items) first t changed [] next
    → AreEdgesAt b p first place (map timed_view items) → IsSearched b p t changed
visit_last b p place items first t changed next k led = record {
  places = k.places;
  flags = k.flags;
  rows = k.rows;
  start = k.start;
  followed = λ n e. followed n e (cases_eq n place);
  below = k.below;
}
  where
    here : is_changed changed place ≡ false
        → AreEdgesAt b p first place (map timed_view items) → IsFollowed b p t place
    here e (inl none) i row at' there met x ticks h =
        absurd (none.1 i row at' (sym (k.itself e) ∙ there) met)
    here e (inr y) i row at' there met x ticks h =
        let j : Instr = y.0 in
        let old : Row = y.1 in
        let si : i ≡ j = some_same i j (sym at' ∙ y.2) in
        let sr : row ≡ old = some_same row old (sym there ∙ (k.itself e ∙ y.3)) in
        let P : Instr → Type 0 = λ z. HasTimed (timed_edges b place z row) x ticks in
        let Q : Row → Type 0 = λ z. HasTimed (timed_edges b place j z) x ticks in
        let R : List Edge → Type 0 = λ es. HasEdge es x in
        done x (k.covered x (subst R (sym (same_edges items (timed_edges b place j old) y.5))
        (first_has (timed_edges b place j old) x ticks (subst Q sr (subst P si h)))))
      where
        done : (x : Edge) → ⊥ ⊎ IsCovered b t x → IsCovered b t x
        done x (inl never) = absurd never
        done x (inr c) = c

    followed : (n : ℕ) → is_changed changed n ≡ false → (n ≡ place) ⊎ (n ≡ place → ⊥)
        → IsFollowed b p t n
    followed n e (inr apart) = k.others n apart e
    followed n e (inl same) =
        let P : ℕ → Type 0 = λ m. IsFollowed b p t m in
        subst P (sym same) (here (ap (is_changed changed) (sym same) ∙ e) led)

-- the same of the code's edges
pub coming_edge : (b : Board) (p : List Instr) (place : ℕ) (es : List Edge) (first t : Table)
    (changed : List Bool) (items rest : List (ℕ × CodeRow × ℕ)) (x : ℕ × CodeRow × ℕ) (next : ℕ)
    → items ≡ x ∷ rest → IsVisiting b p place es first t changed (edges_view items) next
    → IsEdge b p place (edge x.0 (row_view x.1))
coming_edge b p place es first t changed items rest x next e k =
    let P : List (ℕ × CodeRow × ℕ) → Type 0 = λ xs. HasEdge (edges_view xs)
    (edge x.0 (row_view x.1)) in
    k.coming (edge x.0 (row_view x.1)) (subst P (sym e) (inl refl))

pub code_same : (b : Board) (p : List Instr) (place : ℕ) (es : List Edge) (first t new : Table)
    (changed : List Bool) (items rest : List (ℕ × CodeRow × ℕ)) (x : ℕ × CodeRow × ℕ) (next : ℕ)
    (told : Bool)
    → items ≡ x ∷ rest → IsVisiting b p place es first t changed (edges_view items) next
    → IsLearnt b place t new (edge x.0 (row_view x.1)) told → told ≡ false
    → IsVisiting b p place es first new changed (edges_view rest) next
code_same b p place es first t new changed items rest x next told e k h f =
    let P : List (ℕ × CodeRow × ℕ) → Type 0 = λ xs. IsVisiting b p place es first t changed
    (edges_view xs) next in
    let Q : Bool → Type 0 = λ z. IsLearnt b place t new (edge x.0 (row_view x.1)) z in
    visit_same b p place es first t new changed (edge x.0 (row_view x.1)) (edges_view rest) next
    (subst P e k) (subst Q f h)

pub code_changed : (b : Board) (p : List Instr) (place : ℕ) (es : List Edge)
    (first t new : Table) (changed : List Bool) (items rest : List (ℕ × CodeRow × ℕ))
    (x : ℕ × CodeRow × ℕ) (next least : ℕ) (told : Bool)
    → items ≡ x ∷ rest → IsVisiting b p place es first t changed (edges_view items) next
    → IsLearnt b place t new (edge x.0 (row_view x.1)) told → told ≡ true → least ≡ min next x.0
    → IsVisiting b p place es first new (slice_set changed x.0 true) (edges_view rest) least
code_changed b p place es first t new changed items rest x next least told e k h f l =
    let P : List (ℕ × CodeRow × ℕ) → Type 0 = λ xs. IsVisiting b p place es first t changed
    (edges_view xs) next in
    let Q : Bool → Type 0 = λ z. IsLearnt b place t new (edge x.0 (row_view x.1)) z in
    let R : ℕ → Type 0 = λ n. IsVisiting b p place es first new (slice_set changed x.0 true)
    (edges_view rest) n in
    subst R (sym l)
    (visit_changed b p place es first t new changed (edge x.0 (row_view x.1)) (edges_view rest)
    next (subst P e k) (subst Q f h))
