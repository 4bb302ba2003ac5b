-- The rows of a message's edges are rows of the board, where K1 is met.
use Rattle.std.proofs.Common.{◌≡◌, ℕ, ◌<◌, ◌≤◌, ◌⊎◌, [], refl, sym, subst, inl, inr, arith, Bool}
use Rattle.std.proofs.Common.{true, false, not, ◌&&◌, cond}
use Rattle.std.proofs.lemmas.Bool.{eqb-true, eq-eqb, or_cases, or_left, cond_both}
use Rattle.std.proofs.lemmas.List.Quantifiers.{position-Some}
use Rattle.std.proofs.lemmas.List.Elements.{recursion_from_All}
use Rattle.std.specs.Prelude.{IsTrue, Option, Some, None, ◌==◌}
use Rattle.pmbus_table.specs.Codes.{page_code, operation_code, write_protect_code}
use Rattle.pmbus_table.specs.Codes.{status_word_code}
use Rattle.pmbus_table.specs.Operation.{enables}
use Rattle.pmbus_table.specs.Protect.{is_protection}
use Rattle.board.specs.Boards.{Allow, Rail, Target, Board}
use Rattle.board.specs.Valid.{IsBoard, IsEntry, is_page_value, has_words}
use Rattle.board.specs.declared.entry.Range.{Range}
use Rattle.seq_program.specs.declared.instr.Written.TheVariants as written
use Rattle.facts.specs.declared.domain.source.Source.TheVariants as source
use Rattle.facts.specs.domain.Sets.{Set, only, gains}
use Rattle.facts.specs.domain.Rows.{Row, set_at, IsSource, IsSetOf}
use Rattle.seq_program.specs.Requests.{Content, Value, Block, Transaction, code_in}
use Rattle.seq_program.specs.Requests.{Nothing as NoContent}
use Rattle.facts.specs.duties.Duties.{MayBeSent, IsKnownContent, IsKnownValue}
use Rattle.facts.specs.transfer.Edges.{Effect, SetsPage, SetsProtect, TurnsOff, ReadsStatus}
use Rattle.facts.specs.transfer.Edges.{ReadsPage}
use Rattle.facts.specs.transfer.Edges.{ReadsProtect, Loads, Nothing, content_effect, effect_by}
use Rattle.facts.specs.transfer.Edges.{effect_of}
use Rattle.facts.specs.transfer.Edges.{done_row, else_row}
use Rattle.facts.specs.transfer.Edges.{without_touched, status_source, status_of, single, rail_on}
use Rattle.facts.specs.transfer.Edges.{loaded}
use Rattle.facts.specs.transfer.Edges.{span_of, bounds}
use Rattle.facts.specs.FactLaws.{IsShaped}
use Rattle.facts.proofs.Shared.Bounds.{bounds_hold}
use Rattle.facts.proofs.Covered.SetBounds.{ends_in, status_on}
use Rattle.facts.proofs.Shared.Places.{is_target, within}
use Rattle.facts.proofs.Shared.Asking.{values_there}
use Rattle.facts.proofs.Shared.Forms.{found_entry}
use Rattle.facts.proofs.Covered.MessageEdges.{FitsEffect, read_has, some_page, some_protect}
use Rattle.facts.proofs.Covered.Shapes.{page_shaped, protect_shaped, touched_shaped, reg_shaped}
use Rattle.facts.proofs.Covered.Shapes.{IsRegSpan}

-- values that are written are the target's
abbrev pub KnownEffect : Target → Effect → Type 0
KnownEffect t (SetsPage v) = IsTrue (is_page_value t.pages v)
KnownEffect t (SetsProtect v) = IsTrue (is_protection v)
KnownEffect t (ReadsStatus r) = Unit {0}
KnownEffect t (ReadsPage r) = Unit {0}
KnownEffect t (ReadsProtect r) = Unit {0}
KnownEffect t (Loads r) = Unit {0}
KnownEffect t TurnsOff = Unit {0}
KnownEffect t Nothing = Unit {0}

known_content : (t : Target) (c : ℕ) (content : Content) → IsKnownContent t c content
    → KnownEffect t (content_effect c content)
known_content t c (Value (written.Byte v)) k =
    cond_both (c == page_code) (SetsPage v) _ (KnownEffect t) (λ e. k.0 (eqb-true c page_code e))
    (λ _.
    cond_both (c == write_protect_code) (SetsProtect v) _ (KnownEffect t)
    (λ e. k.1 (eqb-true c write_protect_code e)) (λ _.
    cond_both ((c == operation_code) && not (enables v)) TurnsOff Nothing (KnownEffect t)
    (λ _. tt) (λ _. tt)))
known_content t c (Value (written.Word v)) k = tt
known_content t c (Value (written.Register v)) k = tt
known_content t c NoContent k = tt
known_content t c (Block bytes) k = tt

known_by : (t : Target) (x : Transaction) (g : Option ℕ) → IsKnownValue t x
    → KnownEffect t (effect_by x g)
known_by t x None k = known_content t (code_in x) x.content k
known_by t x (Some r) k =
    let c = code_in x in
    read_has (KnownEffect t) x.form c r
    (cond_both (c == page_code) (ReadsPage r) _ (KnownEffect t) (λ _. tt) (λ _.
    cond_both (c == write_protect_code) (ReadsProtect r) (Loads r) (KnownEffect t) (λ _. tt)
    (λ _. tt)))
    (cond_both (c == status_word_code) (ReadsStatus r) (Loads r) (KnownEffect t) (λ _. tt)
    (λ _. tt)) tt

pub known_effect : (t : Target) (x : Transaction) → IsKnownValue t x → KnownEffect t (effect_of x)
known_effect t x k = known_by t x x.register k

only_shaped : (P : ℕ → Type 0) (v : ℕ) → P v → IsSetOf P (only v)
only_shaped P v k = record {
  some = (v, eq-eqb v v refl);
  each = λ x h. subst P
      (sym (eqb-true x v h)) k;
}

gains_shaped : (P : ℕ → Type 0) (s : Set) (v : ℕ) → P v → IsSetOf P s → IsSetOf P (gains s v)
gains_shaped P s v k old = record {
  some = (old.some.0, or_left (s old.some.0) (old.some.0 == v) old.some.1);
  each = λ x h. go x (or_cases (s x) (x == v) h);
}
  where
    go : (x : ℕ) → (s x ≡ true) ⊎ ((x == v) ≡ true) → P x
    go x (inl e) = old.each x e
    go x (inr e) = subst P (sym (eqb-true x v e)) k

-- what is read
full_small : (words : Bool) → cond words 65535 255 < 65536
full_small true = omega arith
full_small false = omega arith

loaded_shaped : (b : Board) (row : Row) (i : ℕ) (r : Transaction) → IsBoard b → MayBeSent b row i r
    → IsRegSpan (loaded b i r)
unfolding loaded
loaded_shaped b row i r board k =
    let good = found_entry IsEntry r.form (code_in r) (Target.allow k.target) k.entry
    (recursion_from_All IsEntry (Target.allow k.target)
    (is_target b i k.target board k.at).entries) k.listed in
    let values = (good.0).in_values in
    let small = full_small (has_words (Allow.form k.entry)) in
    let P : Range → Type 0 = λ z. IsRegSpan (span_of z) in
    subst P (sym (values_there b i k.target r k.entry k.at k.listed))
    (values.nonempty, omega (arith, values.below, small))

status_shaped : (b : Board) (row : Row) (i : ℕ) → IsSource b (status_source b row i)
unfolding status_source
status_shaped b row i = go (single (set_at row.pages i))
  where
    on : (page : ℕ) (o : Option ℕ) → rail_on b i page ≡ o → IsSource b (status_of o)
    on page None e = tt
    on page (Some d) e =
        let none : Rail = record { target = 0; page = 0; limit_uv = 0; needs = [] } in
        (position-Some (λ (r : Rail). (r.target == i) && (r.page == page)) b.rails d none e).0

    go : (o : Option ℕ) → IsSource b (status_on b i o)
    go None = tt
    go (Some page) = on page (rail_on b i page) refl

bounds_shaped : (s : Set) (v : ℕ) → v ≤ 255 → s v ≡ true → IsRegSpan (bounds s)
bounds_shaped s v small h =
    let k = bounds_hold s v small h in
    let e = ends_in s v small h in (omega (arith, k.0, k.1), omega (arith, e.3))

pub done_shaped : (b : Board) (row : Row) (i : ℕ) (r : Transaction) (e : Effect) → IsBoard b
    → IsShaped b row
    → (m : MayBeSent b row i r) → FitsEffect e → KnownEffect m.target e
    → IsShaped b (done_row b row i r e)
done_shaped b row i r (SetsPage v) board k m f known =
    page_shaped b row i m.target (only v) k m.at (only_shaped _ v known)
done_shaped b row i r (SetsProtect v) board k m f known =
    protect_shaped b row i (only v) k (within b.targets i m.target m.at) (only_shaped _ v known)
done_shaped b row i r TurnsOff board k m f known = touched_shaped b row i k
done_shaped b row i r (ReadsStatus reg) board k m f known =
    reg_shaped b (without_touched b row i) reg (loaded b i r) (status_source b row i)
    (touched_shaped b row i k) f
    (loaded_shaped b row i r board m) (status_shaped b row i)
done_shaped b row i r (ReadsPage reg) board k m f known =
    let there = within b.targets i m.target m.at in
    let has = some_page b row i board k there in
    reg_shaped b row reg (bounds (set_at row.pages i)) (source.Page i) k f
    (bounds_shaped (set_at row.pages i) has.0 has.1 has.2) there
done_shaped b row i r (ReadsProtect reg) board k m f known =
    let there = within b.targets i m.target m.at in
    let has = some_protect b row i k there in
    reg_shaped b row reg (bounds (set_at row.protects i)) (source.Protect i) k f
    (bounds_shaped (set_at row.protects i) has.0 has.1 has.2) there
done_shaped b row i r (Loads reg) board k m f known =
    reg_shaped b row reg (loaded b i r) source.None k f (loaded_shaped b row i r board m) tt
done_shaped b row i r Nothing board k m f known = k

pub else_shaped : (b : Board) (row : Row) (i : ℕ) (r : Transaction) (e : Effect) → IsShaped b row
    → (m : MayBeSent b row i r) → KnownEffect m.target e → IsShaped b (else_row b row i e)
else_shaped b row i r (SetsPage v) k m known =
    page_shaped b row i m.target (gains (set_at row.pages i) v) k m.at
    (gains_shaped _ (set_at row.pages i) v known (k.pages i m.target m.at))
else_shaped b row i r (SetsProtect v) k m known =
    let there = within b.targets i m.target m.at in
    protect_shaped b row i (gains (set_at row.protects i) v) k there
    (gains_shaped _ (set_at row.protects i) v known (k.protects i there))
else_shaped b row i r TurnsOff k m known = touched_shaped b row i k
else_shaped b row i r (ReadsStatus reg) k m known = touched_shaped b row i k
else_shaped b row i r (ReadsPage reg) k m known = k
else_shaped b row i r (ReadsProtect reg) k m known = k
else_shaped b row i r (Loads reg) k m known = k
else_shaped b row i r Nothing k m known = k
