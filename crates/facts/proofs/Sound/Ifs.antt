-- The two edges of `if`.
use Rattle.std.proofs.Common.{◌≡◌, ℕ, zero, suc, ◌+◌, ◌-◌, ◌^◌, ◌%◌, ◌<◌, ◌≤◌, ◌⊎◌, List, [], ◌∷◌}
use Rattle.std.proofs.Common.{◌++◌, length, refl, ap, sym, ◌∙◌, subst, inl, inr, arith, Bool, true}
use Rattle.std.proofs.Common.{false, not, ◌&&◌, ◌||◌, cond}
use Rattle.std.proofs.lemmas.Bool.{eqb-true, eqb-false, eq-eqb, and_parts, and_from, or_cases}
use Rattle.std.proofs.lemmas.Bool.{cases_Bool, cond-true, cond-false, cond_both, not_from_false}
use Rattle.std.proofs.lemmas.Bool.{le-leb}
use Rattle.std.proofs.lemmas.Nat.{and_comm, and_mask}
use Rattle.std.proofs.lemmas.List.{get_or-set_same}
use Rattle.std.specs.Int.Bits.{and_self, and_zero_l}
use Rattle.std.proofs.lemmas.Nat.Bits.{bit_at_and, bit_at-zero}
use Rattle.std.specs.Int.{bit_at}
use Rattle.std.specs.Prelude.{slice_index, slice_set, bit_and, ◌==◌, min, IsTrue}
use Rattle.pmbus_table.specs.Status.{reported_good}
use Rattle.board.specs.Boards.{Board}
use Rattle.board.specs.Valid.{IsBoard}
use Rattle.targets.specs.States.{BusState}
use Rattle.seq_program.specs.declared.instr.Instr.TheVariants.{If}
use Rattle.simulator.specs.Machines.{Machine, Entry}
use Rattle.simulator.specs.Moves.{silently, passes}
use Rattle.simulator.specs.Reports.{IsReportedGood}
use Rattle.facts.specs.declared.domain.source.Source.{Source}
use Rattle.facts.specs.declared.domain.source.Source.TheVariants as source
use Rattle.facts.specs.declared.domain.span.Span.{Span}
use Rattle.facts.specs.domain.Sets.{Set, empty}
use Rattle.facts.specs.domain.Rows.{Row, Admits, IsRow, IsFrom, InSpan, InSpans, set_at, span_at}
use Rattle.facts.specs.domain.Rows.{rank}
use Rattle.facts.specs.domain.Rows.{source_at}
use Rattle.facts.specs.duties.Duties.{one}
use Rattle.facts.specs.transfer.Edges.{Edge, edge, edge_if, possible, is_possible, has_any, bounds}
use Rattle.facts.specs.transfer.Edges.{keep, learn_good, if_may_jump, if_jump_row, if_may_go_on}
use Rattle.facts.specs.transfer.Edges.{if_next_row, is_single, in_span, all_bits, good_bits}
use Rattle.facts.proofs.Shared.EdgeLists.{HasEdge}
use Rattle.facts.proofs.Sound.OwnLeads.{LeadsOwn}
use Rattle.facts.proofs.Shared.Lists.{InSpans-at, InSpans-length}
use Rattle.facts.proofs.Sound.RowChanges.{Change, admits_same, set-updated}
use Rattle.facts.proofs.Sound.Silent.{HasEdge-append, HasEdge-front, HasEdge-if}
use Rattle.facts.proofs.Shared.Bounds.{first_has}
use Rattle.facts.proofs.Shared.Places.{found, is_target, page_small, protect_small}

and_assoc : (a b c : ℕ) → bit_and (bit_and a b) c ≡ bit_and a (bit_and b c)
and_assoc a b c = Rattle.std.proofs.lemmas.Nat.and_assoc c a b

-- what passes the test
passed : (x k v : ℕ) → passes x k v ≡ true → bit_and x k ≡ v
passed x k v e = eqb-true (bit_and x k) v e

value_passes : (x k v : ℕ) → passes x k v ≡ true → passes v k v ≡ true
value_passes x k v e =
    let is = passed x k v e in
    eq-eqb (bit_and v k) v (ap (λ y. bit_and y k) (sym is) ∙ (and_assoc x k k ∙
    (ap (bit_and x) (and_self k) ∙ is)))

all_bits_same : (x v : ℕ) → x < 65536 → bit_and x all_bits ≡ v → x ≡ v
all_bits_same x v small e =
    let m : bit_and x (2 ^ 16 - 1) ≡ x % 2 ^ 16 = and_mask x 16 in
    let n : bit_and x all_bits ≡ x % 65536 = m in
    omega (arith, n, e)

-- bits 11 and 6 of a number whose bits under the mask are 0
clear_bit : (x i : ℕ) → bit_and x good_bits ≡ 0 → bit_at good_bits i ≡ 1 → bit_at x i ≡ 0
clear_bit x i e set =
    let both : bit_at (bit_and x good_bits) i ≡ min (bit_at x i) (bit_at good_bits i) =
    bit_at_and x good_bits i in
    let none : bit_at (bit_and x good_bits) i ≡ 0 = ap (λ n. bit_at n i) e ∙ bit_at-zero i in
    let least : min (bit_at x i) 1 ≡ 0 =
    ap (λ n. min (bit_at x i) n) (sym set) ∙ (sym both ∙ none) in
    by (bit_at x i) least
  where
    by : (n : ℕ) → min n 1 ≡ 0 → n ≡ 0
    by n e = omega (arith, e)

good_bits_shown : (x k v : ℕ) → bit_and x k ≡ v
    → (passes k good_bits good_bits && passes v good_bits 0) ≡
    true → IsTrue (reported_good x)
good_bits_shown x k v e shows =
    let parts = and_parts (passes k good_bits good_bits) (passes v good_bits 0) shows in
    let none : bit_and x good_bits ≡ 0 = ap (bit_and x) (sym (passed k good_bits good_bits parts.0))
    ∙ (sym (and_assoc x k good_bits) ∙ (ap (λ y. bit_and y good_bits) e ∙ passed v good_bits 0
    parts.1)) in
    and_from (bit_at x 11 == 0) (bit_at x 6 == 0)
    (eq-eqb (bit_at x 11) 0 (clear_bit x 11 none refl))
    (eq-eqb (bit_at x 6) 0 (clear_bit x 6 none refl))

-- a set keeps the values that pass where the register equals one of them
admits_keep : (b : Board) (row : Row) (m : Machine) (h : List Entry) (s : Source) (x : ℕ)
    (p : ℕ → Bool)
    → IsRow b row → Admits b row m h → IsFrom b m h s x → p x ≡ true → Admits b (keep row s p) m h
admits_keep b row m h source.None x p shaped k f e = k
admits_keep b row m h (source.Status d) x p shaped k f e = k
admits_keep b row m h (source.Page t) x p shaped k f e = record {
  pages = set-updated b row.pages t (λ v. set_at row.pages t v && p v) (slice_index m.bus.page)
      (slice_index m.bus.page)
      (let L : ℕ → Type 0 = λ n. t < n in subst L (sym shaped.page_sets) f.0)
      (and_from _ _ (k.pages t f.0) (ap p (sym f.1) ∙ e)) k.pages (λ u at' _. refl);
  protects = k.protects;
  regs = k.regs;
  sources = k.sources;
  counters = k.counters;
  lost = k.lost;
  good = k.good;
}
admits_keep b row m h (source.Protect t) x p shaped k f e = record {
  pages = k.pages;
  protects =
      set-updated b row.protects t (λ v. set_at row.protects t v && p v) (slice_index m.bus.protect)
      (slice_index m.bus.protect)
      (let L : ℕ → Type 0 = λ n. t < n in subst L (sym shaped.protect_sets) f.0)
      (and_from _ _ (k.protects t f.0) (ap p (sym f.1) ∙ e)) k.protects (λ u at' _. refl);
  regs = k.regs;
  sources = k.sources;
  counters = k.counters;
  lost = k.lost;
  good = k.good;
}

-- a rail is good where its report is the register's value
admits_good : (b : Board) (row : Row) (m : Machine) (h : List Entry) (s : Source) (x : ℕ)
    (shows : Bool)
    → Admits b row m h → IsFrom b m h s x → (shows ≡ true → IsTrue (reported_good x))
    → Admits b (learn_good row s shows) m h
admits_good b row m h source.None x shows k f g = k
admits_good b row m h (source.Page t) x shows k f g = k
admits_good b row m h (source.Protect t) x shows k f g = k
admits_good b row m h (source.Status d) x shows k f g =
    cond_both shows (record row { good = λ y. row.good y || y == d }) row (λ r. Admits b r m h)
    (λ yes'. record {
      pages = k.pages;
      protects = k.protects;
      regs = k.regs;
      sources = k.sources;
      counters = k.counters;
      lost = k.lost;
      good = λ y at' e. by y at' yes' (or_cases (row.good y) (y == d) e);
    })
    (λ _. k)
  where
    by : (y : ℕ) → y < length b.rails → shows ≡ true → (row.good y ≡ true) ⊎ ((y == d) ≡ true)
        → IsReportedGood b h y
    by y at' yes' (inl e) = k.good y at' e
    by y at' yes' (inr e) = let P : ℕ → Type 0 = λ z. IsReportedGood b h z in
        subst P (sym (eqb-true y d e)) (record { word = x; last = f.1; good = g yes' })

InSpans-narrow : (ss : List Span) (xs : List ℕ) (r : ℕ) (s : Span) → InSpans ss xs
    → InSpan s (slice_index xs r) → r < length xs → InSpans (slice_set ss r s) xs
InSpans-narrow [] [] r s h k lt = tt
InSpans-narrow (u ∷ us) (y ∷ ys) zero s h k lt = (k, h.1)
InSpans-narrow (u ∷ us) (y ∷ ys) (suc r) s h k lt =
    (h.0, InSpans-narrow us ys r s h.1 k (omega arith))
InSpans-narrow [] (y ∷ ys) r s h k lt = absurd h
InSpans-narrow (u ∷ us) [] r s h k lt = absurd h

pub admits_narrow : (b : Board) (row : Row) (old : List Span) (m : Machine) (h : List Entry) (r : ℕ)
    (s : Span) → Admits b row m h → InSpans old m.regs → InSpan s (slice_index m.regs r)
    → r < length m.regs
    → Admits b (record row { regs = slice_set old r s }) m h
admits_narrow b row old m h r s k o inside lt = record {
  pages = k.pages;
  protects = k.protects;
  regs = InSpans-narrow old m.regs r s o inside lt;
  sources = k.sources;
  counters = k.counters;
  lost = k.lost;
  good = k.good;
}

-- a set with a value has its least one
has_any_of : (s : Set) (v : ℕ) → v ≤ 255 → s v ≡ true → has_any s ≡ true
unfolding bounds
has_any_of s v small e = first_has s 255 0 v (omega arith) (omega (arith, small)) e

-- a source's value is in what is kept
kept_is_possible : (b : Board) (row : Row) (m : Machine) (h : List Entry) (s : Source) (x : ℕ)
    (p : ℕ → Bool) → IsBoard b → IsRow b row → Admits b row m h → IsFrom b m h s x → p x ≡ true
    → is_possible (keep row s p) s ≡ true
kept_is_possible b row m h source.None x p board shaped k f e = refl
kept_is_possible b row m h (source.Status d) x p board shaped k f e = refl
kept_is_possible b row m h (source.Page t) x p board shaped k f e =
    let stored = k.pages t f.0 in
    let kept : Set = λ v. set_at row.pages t v && p v in
    let u = found b.targets t f.0 in
    let small : slice_index m.bus.page t < 256 = page_small u.0 (slice_index m.bus.page t)
    (is_target b t u.0 board u.1)
    ((shaped.pages t u.0 u.1).each (slice_index m.bus.page t) stored) in
    ap has_any (get_or-set_same row.pages t kept empty
    (let L : ℕ → Type 0 = λ n. t < n in subst L (sym shaped.page_sets) f.0))
    ∙ has_any_of kept (slice_index m.bus.page t) (omega (arith, small))
    (and_from _ _ stored (ap p (sym f.1) ∙ e))
kept_is_possible b row m h (source.Protect t) x p board shaped k f e =
    let stored = k.protects t f.0 in
    let kept : Set = λ v. set_at row.protects t v && p v in
    let small : slice_index m.bus.protect t < 256 =
    protect_small (slice_index m.bus.protect t)
    ((shaped.protects t f.0).each (slice_index m.bus.protect t) stored) in
    ap has_any (get_or-set_same row.protects t kept empty
    (let L : ℕ → Type 0 = λ n. t < n in subst L (sym shaped.protect_sets) f.0))
    ∙ has_any_of kept (slice_index m.bus.protect t) (omega (arith, small))
    (and_from _ _ stored (ap p (sym f.1) ∙ e))

learn_is_possible : (row : Row) (s : Source) (shows : Bool) → is_possible row s ≡ true
    → is_possible (learn_good row s shows) s ≡ true
learn_is_possible row source.None shows e = e
learn_is_possible row (source.Status d) shows e = refl
learn_is_possible row (source.Page t) shows e = e
learn_is_possible row (source.Protect t) shows e = e

regs_is_possible : (row : Row) (rs : List Span) (s : Source) → is_possible row s ≡ true
    → is_possible (record row { regs = rs }) s ≡ true
regs_is_possible row rs source.None e = refl
regs_is_possible row rs (source.Status d) e = refl
regs_is_possible row rs (source.Page t) e = e
regs_is_possible row rs (source.Protect t) e = e

pub HasEdge-possible : (row : Row) (r : ℕ) (es : List Edge) (x : Edge) → HasEdge es x
    → is_possible x.row (source_at row.sources r) ≡ true → HasEdge (possible row r es) x
HasEdge-possible row r [] x k e = absurd k
HasEdge-possible row r (y ∷ es) x (inl k) e =
    let at' : is_possible y.row (source_at row.sources r) ≡ true =
    ap (λ (z : Edge). is_possible z.row (source_at row.sources r)) (sym k) ∙ e in
    let P : List Edge → Type 0 = λ l. HasEdge (l ++ possible row r es) x in
    subst P (sym (cond-true (is_possible y.row (source_at row.sources r)) (y ∷ []) [] at')) (inl k)
HasEdge-possible row r (y ∷ es) x (inr k) e =
    HasEdge-append (cond (is_possible y.row (source_at row.sources r)) (y ∷ []) [])
    (possible row r es) x
    (HasEdge-possible row r es x k e)

keep_rank : (row : Row) (s : Source) (p : ℕ → Bool) (cs : List ℕ) (left : ℕ)
    → rank (keep row s p) cs left ≡ rank row cs left
keep_rank row source.None p cs left = refl
keep_rank row (source.Status d) p cs left = refl
keep_rank row (source.Page t) p cs left = refl
keep_rank row (source.Protect t) p cs left = refl

learn_rank : (row : Row) (s : Source) (shows : Bool) (cs : List ℕ) (left : ℕ)
    → rank (learn_good row s shows) cs left ≡ rank row cs left
learn_rank row source.None shows cs left = refl
learn_rank row (source.Page t) shows cs left = refl
learn_rank row (source.Protect t) shows cs left = refl
learn_rank row (source.Status d) true cs left = refl
learn_rank row (source.Status d) false cs left = refl

keep_regs : (row : Row) (s : Source) (p : ℕ → Bool) → Row.regs (keep row s p) ≡ row.regs
keep_regs row source.None p = refl
keep_regs row (source.Status d) p = refl
keep_regs row (source.Page t) p = refl
keep_regs row (source.Protect t) p = refl

pub leads_if : (b : Board) (row : Row) (m : Machine) (h : List Entry) (m' : Machine)
    (h' : List Entry)
    (s : BusState) (r k v l : ℕ)
    → IsBoard b → IsRow b row → Admits b row m h → Change b m h m' h' empty empty empty → r < 8
    → m' ≡ record (silently (If r k v l) m) { bus = s }
    → LeadsOwn b m.place (If r k v l) row m m' h'
leads_if b row m h m' h' s r k v l board shaped ad ch lt goes =
    go (cases_Bool (passes (slice_index m.regs r) k v))
  where
    wide : r < length m.regs
    wide = omega (arith, InSpans-length row.regs m.regs ad.regs, shaped.reg_count)

    inside : InSpan (span_at row.regs r) (slice_index m.regs r)
    inside = InSpans-at row.regs m.regs r ad.regs
        (omega (arith, InSpans-length row.regs m.regs ad.regs, shaped.reg_count))

    small : slice_index m.regs r < 65536
    small = (let top : Span.hi (span_at row.regs r) < 65536 = shaped.reg_range r lt in
        let at' : slice_index m.regs r ≤ Span.hi (span_at row.regs r) = inside.1 in
        omega (arith, top, at'))

    from : IsFrom b m h (source_at row.sources r) (slice_index m.regs r)
    from = ad.sources r (omega (arith, InSpans-length row.regs m.regs ad.regs, shaped.reg_count))

    place : m'.place ≡ cond (passes (slice_index m.regs r) k v) l (m.place + 1)
    place = ap (λ (z : Machine). z.place) goes

    moved : (row' : Row) → Admits b row' m h → Admits b row' m' h'
    moved row' a = admits_same b row' m h m' h' a ch (ap (λ (z : Machine). z.regs) goes)
        (ap (λ (z : Machine). z.counters) goes)

    falls : (row' : Row)
        → ((left : ℕ) → rank row' m'.counters left ≡ rank row m'.counters left)
        → (left : ℕ) → rank row' m'.counters left ≤ rank row m.counters left
    falls row' e left =
        let same = e left in
        let f : rank row m'.counters left ≡ rank row m.counters left =
        ap (λ (z : Machine). rank row z.counters left) goes in
        omega (arith, same, f)

    single_same : is_single (span_at row.regs r) ≡ true
        → Span.lo (span_at row.regs r) ≡ slice_index m.regs r
    single_same y = let z : Span.lo (span_at row.regs r) ≡ Span.hi (span_at row.regs r) =
        eqb-true (Span.lo (span_at row.regs r)) (Span.hi (span_at row.regs r)) y in
        omega (arith, z, inside.0, inside.1)

    full : passes (slice_index m.regs r) k v ≡ true → (k == all_bits) ≡ true
        → slice_index m.regs r ≡ v
    full e y = all_bits_same (slice_index m.regs r) v small
        (ap (bit_and (slice_index m.regs r)) (sym (eqb-true k all_bits y))
        ∙ passed (slice_index m.regs r) k v e)

    may_jump : passes (slice_index m.regs r) k v ≡ true
        → if_may_jump (span_at row.regs r) k v ≡ true
    may_jump e = and_from _ _ (value_passes (slice_index m.regs r) k v e) (and_from _ _
        (cond_both (is_single (span_at row.regs r)) (passes (Span.lo (span_at row.regs r)) k v) true
        (λ z. z ≡ true) (λ y. ap (λ x. passes x k v) (single_same y) ∙ e) (λ _. refl))
        (cond_both (k == all_bits) (in_span (span_at row.regs r) v) true (λ z. z ≡ true)
        (λ y. let same = full e y in and_from _ _
        (le-leb (Span.lo (span_at row.regs r)) v (omega (arith, same, inside.0)))
        (le-leb v (Span.hi (span_at row.regs r)) (omega (arith, same, inside.1)))) (λ _. refl)))

    shows : Bool
    shows = passes k good_bits good_bits && passes v good_bits 0

    kept : Row
    kept =
        learn_good (keep row (source_at row.sources r) (λ x. passes x k v))
        (source_at row.sources r)
        (passes k good_bits good_bits && passes v good_bits 0)

    narrow : Row → Row
    narrow x = record x { regs = slice_set row.regs r (one v) }

    go : (passes (slice_index m.regs r) k v ≡ true) ⊎ (passes (slice_index m.regs r) k v ≡ false)
        → LeadsOwn b m.place (If r k v l) row m m' h'
    go (inl e) =
        let source = source_at row.sources r in
        let first = keep row source (λ x. passes x k v) in
        let two = learn_good first source (passes k good_bits good_bits && passes v good_bits 0) in
        let a1 =
        admits_keep b row m h source (slice_index m.regs r) (λ x. passes x k v) shaped ad from e in
        let a2 : Admits b two m h = admits_good b first m h source (slice_index m.regs r)
        (passes k good_bits good_bits && passes v good_bits 0) a1 from
        (good_bits_shown (slice_index m.regs r) k v (passed (slice_index m.regs r) k v e)) in
        let three = record two { regs = slice_set row.regs r (one v) } in
        let p2 : is_possible two source ≡ true = learn_is_possible first source
        (passes k good_bits good_bits && passes v good_bits 0)
        (kept_is_possible b row m h source (slice_index m.regs r)
        (λ x. passes x k v) board shaped ad
        from e) in
        record {
          by = edge l (if_jump_row row r k v);
          there = HasEdge-possible row r (edge_if (if_may_jump (span_at row.regs r) k v) l
              (if_jump_row row r k v)
              ++ edge_if (if_may_go_on (span_at row.regs r) k v) (m.place + 1)
              (if_next_row row r k v)) (edge l (if_jump_row row r k v))
              (HasEdge-front
              (edge_if (if_may_jump (span_at row.regs r) k v) l (if_jump_row row r k v))
              (edge_if (if_may_go_on (span_at row.regs r) k v) (m.place + 1)
              (if_next_row row r k v))
              (edge l (if_jump_row row r k v))
              (HasEdge-if (if_may_jump (span_at row.regs r) k v) l (if_jump_row row r k v)
              (may_jump e)))
              (cond_both (k == all_bits) three two (λ z. is_possible z source ≡ true)
              (λ _. regs_is_possible two (slice_set row.regs r (one v)) source p2) (λ _. p2));
          to = place ∙ cond-true (passes (slice_index m.regs r) k v) l (m.place + 1) e;
          admits =
              moved (if_jump_row row r k v)
              (cond_both (k == all_bits) three two (λ z. Admits b z m h)
              (λ y. admits_narrow b two row.regs m h r (one v) a2 ad.regs
              (let same = full e y in (omega (arith, same), omega (arith, same)))
              (omega (arith, InSpans-length row.regs m.regs ad.regs, shaped.reg_count))) (λ _. a2));
          falls = falls (if_jump_row row r k v) (λ left.
              let learnt =
              learn_rank first source (passes k good_bits good_bits && passes v good_bits 0)
              m'.counters left ∙ keep_rank row source (λ x. passes x k v) m'.counters left in
              cond_both (k == all_bits) three two
              (λ z. rank z m'.counters left ≡ rank row m'.counters left)
              (λ _. learnt) (λ _. learnt));
        }
    go (inr e) =
        let source = source_at row.sources r in
        let fails : not (passes (slice_index m.regs r) k v) ≡ true =
        not_from_false (passes (slice_index m.regs r) k v) e in
        let may : if_may_go_on (span_at row.regs r) k v ≡ true = and_from _ _
        (cond_both (is_single (span_at row.regs r))
        (not (passes (Span.lo (span_at row.regs r)) k v)) true
        (λ z. z ≡ true) (λ y. ap (λ x. not (passes x k v)) (single_same y) ∙ fails) (λ _. refl))
        (not_from_false ((k == 0) && (v == 0))
        (Rattle.std.proofs.lemmas.Bool.false_from_ne_true ((k == 0) && (v == 0)) (λ y.
        let parts = and_parts (k == 0) (v == 0) y in
        let zero' : bit_and (slice_index m.regs r) k ≡ v =
        ap (bit_and (slice_index m.regs r)) (eqb-true k 0 parts.0)
        ∙ (and_comm (slice_index m.regs r) 0 ∙
        (and_zero_l (slice_index m.regs r) ∙ sym (eqb-true v 0 parts.1))) in
        eqb-false (bit_and (slice_index m.regs r) k) v e zero'))) in
        record {
          by = edge (m.place + 1) (if_next_row row r k v);
          there = HasEdge-possible row r (edge_if (if_may_jump (span_at row.regs r) k v) l
              (if_jump_row row r k v)
              ++ edge_if (if_may_go_on (span_at row.regs r) k v) (m.place + 1)
              (if_next_row row r k v)) (edge (m.place + 1) (if_next_row row r k v))
              (HasEdge-append
              (edge_if (if_may_jump (span_at row.regs r) k v) l (if_jump_row row r k v))
              (edge_if (if_may_go_on (span_at row.regs r) k v) (m.place + 1)
              (if_next_row row r k v))
              (edge (m.place + 1) (if_next_row row r k v))
              (HasEdge-if (if_may_go_on (span_at row.regs r) k v) (m.place + 1)
              (if_next_row row r k v)
              may))
              (kept_is_possible b row m h source (slice_index m.regs r)
              (λ x. not (passes x k v)) board
              shaped ad from fails);
          to = place ∙ cond-false (passes (slice_index m.regs r) k v) l (m.place + 1) e;
          admits = moved (if_next_row row r k v)
              (admits_keep b row m h source (slice_index m.regs r)
              (λ x. not (passes x k v)) shaped ad from
              fails);
          falls =
              falls (if_next_row row r k v)
              (keep_rank row source (λ x. not (passes x k v)) m'.counters);
        }
