-- The lines of a table that can be written are taken, and the table stands there.
use Rattle.std.proofs.Common.{◌≡◌, ℕ, ◌+◌, ◌<◌, ◌≤◌, ◌^◌, Bool, true, false, List, [], ◌∷◌, ◌++◌}
use Rattle.std.proofs.Common.{length, map, suc, Option, Some, None, inl, inr}
use Rattle.std.proofs.Common.{IfSome, refl, sym, ap, ◌∙◌, arith}
use Rattle.std.specs.Prelude.{zip, IsTrue}
use Rattle.std.specs.List.{AllByRecursion}
use Rattle.std.proofs.lemmas.Bool.Decides.{nat_tests}
use Rattle.std.proofs.lemmas.List.{append_assoc, append-nil}
use Rattle.std.proofs.lemmas.List.Elements.{recursion_from_All}
use Rattle.board.specs.Boards.{Board}
use Rattle.board.specs.Valid.{IsBoard}
use Rattle.facts.specs.domain.Sets.{Set, is_page, is_protect, is_rail, HasValue}
use Rattle.facts.specs.domain.Rows.{Row, IsSource}
use Rattle.facts.specs.declared.domain.source.Source.{Source}
use Rattle.facts.specs.declared.domain.span.Span.{Span}
use Rattle.table_check.specs.Tables.{Table}
use Rattle.table_check.specs.text.Lines.{Words}
use Rattle.table_check.specs.text.Lines.{head_words, each_at, register_words, counter_words}
use Rattle.table_check.specs.text.Lines.{place_lines, lines_from, lost_lines}
use Rattle.table_check.specs.text.Texts.{CanBeSaid}
use Rattle.table_check.specs.declared.text.version.Version.{Version}
use Rattle.table_check.specs.declared.text.version.Version.TheVariants.{First, Second}
use Rattle.table_check.specs.text.Writable.{IsShapedRow, IsTypedRow, IsOfKind, IsWordSpan}
use Rattle.table_check.specs.text.Writable.{IsWritable}
use Rattle.table_check.specs.text.Passes.{no_part, no_pass, unsaid_lost, row_from, with_head}
use Rattle.table_check.proofs.Texts.Known.{KnownOfNumbers}
use Rattle.table_check.proofs.Texts.Spelled.{IsByteSet}
use Rattle.table_check.proofs.Texts.SpelledRows.{IsKnown, IsUnsaid, first_words, head_back}
use Rattle.table_check.proofs.Texts.PartLines.{one_longer}
use Rattle.table_check.proofs.Texts.Stands.{run, IsGoodRow, IsSaidRow, GoodPlace, between}
use Rattle.table_check.proofs.Texts.Fills.{Rest, Sets, LostLeft, from_pages, past, last_words}

-- ---- pairs

firsts : (spans : List Span) (sources : List Source) → length spans ≡ length sources
    → map (λ (k : Span × Source). k.0) (zip spans sources) ≡ spans
firsts [] sources e = refl
firsts (s ∷ spans) [] e = absurd (omega (arith, e))
firsts (s ∷ spans) (x ∷ sources) e =
    ap (λ (ss : List Span). s ∷ ss) (firsts spans sources (omega (arith, e)))

seconds : (spans : List Span) (sources : List Source) → length spans ≡ length sources
    → map (λ (k : Span × Source). k.1) (zip spans sources) ≡ sources
seconds [] [] e = refl
seconds [] (x ∷ sources) e = absurd (omega (arith, e))
seconds (s ∷ spans) [] e = absurd (omega (arith, e))
seconds (s ∷ spans) (x ∷ sources) e =
    ap (λ (ss : List Source). x ∷ ss) (seconds spans sources (omega (arith, e)))

pub pairs : (spans : List Span) (sources : List Source) → length spans ≡ length sources
    → length (zip spans sources) ≡ length spans
pairs [] sources e = refl
pairs (s ∷ spans) [] e = absurd (omega (arith, e))
pairs (s ∷ spans) (x ∷ sources) e =
    let more = pairs spans sources (omega (arith, e)) in omega (arith, more)

pub each_known : (b : Board) (spans : List Span) (sources : List Source)
    → AllByRecursion IsWordSpan spans → AllByRecursion (IsSource b) sources
    → AllByRecursion (IsKnown b) (zip spans sources)
each_known b [] sources p q = tt
each_known b (s ∷ spans) [] p q = tt
each_known b (s ∷ spans) (x ∷ sources) p q =
    ((p.0, q.0), each_known b spans sources p.1 q.1)

-- ---- sets

page_small : (v : ℕ) → IsTrue (is_page v) → v < 256
page_small v t = grind (arith, nat_tests)

protect_small : (v : ℕ) → IsTrue (is_protect v) → v < 256
protect_small v t = grind (arith, nat_tests)

both_sets : (is_value : ℕ → Bool) → ((v : ℕ) → IsTrue (is_value v) → v < 256) → (xs : List Set)
    → AllByRecursion HasValue xs
    → AllByRecursion (λ set. IsOfKind (λ v. IsTrue (is_value v)) set) xs
    → AllByRecursion (IsByteSet is_value) xs
both_sets is_value small [] p q = tt
both_sets is_value small (s ∷ xs) p q =
    ((p.0, λ v t. (small v (q.0 v t), q.0 v t)), both_sets is_value small xs p.1 q.1)

rail_small : (d n : ℕ) → d < n → n ≤ 64 → IsTrue (is_rail d)
rail_small d n less few = grind (arith, nat_tests)

-- ---- a row

unsaid_of : (v : Version) (b : Board) (r : Row) → IsSaidRow v b r → IsUnsaid v r.lost_coeff
unsaid_of First b r said = said.lost_coeff
unsaid_of Second b r said = tt

rest_of : (v : Version) (b : Board) (r : Row) → IsBoard b → IsGoodRow v b r → Rest v b
rest_of v b r board good = record {
  board = board;
  set = r.good;
  rails = λ d t.
      let less = good.0.good d t in (less, rail_small d (length b.rails) less board.few_rails);
  regs = zip r.regs r.sources;
  known =
      each_known b r.regs r.sources (recursion_from_All IsWordSpan r.regs good.1.regs)
      (recursion_from_All (IsSource b) r.sources good.0.sources);
  counters = r.counters;
  spans = recursion_from_All IsWordSpan r.counters good.1.counters;
  lost = r.lost;
  span = good.1.lost;
  ticks = (r.base, r.coeffs, r.lost_coeff);
  numbers = record {
    base = good.1.base;
    count = good.0.coeff_count;
    coeffs = recursion_from_All (λ k. k < 2 ^ 64) r.coeffs good.1.coeffs;
    lost = good.1.lost_coeff;
    unsaid = unsaid_of v b r good.2;
  };
}

-- what is left of its lost arbitrations
left_of : (v : Version) (b : Board) (r : Row) → IsSaidRow v b r
    → LostLeft (unsaid_lost v b) r.lost (lost_lines v r)
left_of First b r said = inl (ap (λ (s : Span). Some s) (sym said.lost), refl)
left_of Second b r said = inr (refl, refl)

sets_of : (v : Version) (b : Board) (r : Row) → IsGoodRow v b r → Sets b (no_part v b)
sets_of v b r good =
    let n = good.0.page_sets in
    let m = good.0.protect_sets in
    record {
      pages = r.pages;
      page_count = omega (arith, n);
      page_sets = both_sets is_page page_small r.pages
          (recursion_from_All HasValue r.pages good.0.pages)
          (recursion_from_All (λ set. IsOfKind (λ v. IsTrue (is_page v)) set) r.pages good.1.pages);
      protects = r.protects;
      protect_count = omega (arith, m);
      protect_sets = both_sets is_protect protect_small r.protects
          (recursion_from_All HasValue r.protects good.0.protects)
          (recursion_from_All (λ set. IsOfKind (λ v. IsTrue (is_protect v)) set) r.protects
          good.1.protects);
    }

regrouped : (A B R C L X : List Words) (g t : Words)
    → (A ++ (B ++ (g ∷ (R ++ (C ++ (L ++ t ∷ [])))))) ++ X
    ≡ A ++ (B ++ (g ∷ (R ++ (C ++ (L ++ (t ∷ X))))))
regrouped A B R C L X g t =
    append_assoc A (B ++ (g ∷ (R ++ (C ++ (L ++ t ∷ []))))) X
    ∙ ap (λ (ls : List Words). A ++ ls) (append_assoc B (g ∷ (R ++ (C ++ (L ++ t ∷ [])))) X
    ∙ ap (λ (ls : List Words). B ++ (g ∷ ls)) (append_assoc R (C ++ (L ++ t ∷ [])) X
    ∙ ap (λ (ls : List Words). R ++ ls) (append_assoc C (L ++ t ∷ []) X
    ∙ ap (λ (ls : List Words). C ++ ls) (append_assoc L (t ∷ []) X))))

same_row : (v : Version) (b : Board) (r : Row) (said : Option Span) → IsGoodRow v b r
    → row_from (record {
      pages = r.pages;
      protects = r.protects;
      good = Some r.good;
      regs = zip r.regs r.sources;
      counters = r.counters;
      lost = said;
    }) r.good r.lost (r.base, r.coeffs, r.lost_coeff) ≡ r
same_row v b r said good =
    let n = good.0.reg_count in
    let m = good.0.source_count in
    let e : length r.regs ≡ length r.sources = omega (arith, n, m) in
    ap (λ (spans : List Span). record r {
      regs = spans;
      sources = map (λ (k : Span × Source). k.1) (zip r.regs r.sources);
    }) (firsts r.regs r.sources e)
    ∙ ap (λ (sources : List Source). record r { sources = sources }) (seconds r.regs r.sources e)

head_taken : KnownOfNumbers
    → (v : Version) (b : Board) (done : Table) (n : ℕ) (has : Bool) (more : List Words)
    → n ≡ length done
    → n < 2 ^ 64
    → run b (between v done) (first_words n has ∷ more)
    ≡ run b (with_head b (between v done) has) more
head_taken laws v b done n has more e less = rw (← e) (rw (head_back laws n has less) refl)

row_taken : KnownOfNumbers → (v : Version) (b : Board) (done : Table) (n : ℕ) (r : Row)
    (more : List Words) → IsBoard b
    → n ≡ length done → n < 2 ^ 64 → IsGoodRow v b r
    → run b (between v done) (place_lines v b n (Some r) ++ more)
    ≡ run b (between v (done ++ Some r ∷ [])) more
unfolding rest_of sets_of
row_taken laws v b done n r more board e less good =
    let n8 = good.0.reg_count in
    let m8 = good.0.source_count in
    let count = pairs r.regs r.sources (omega (arith, n8, m8)) in
    ap (λ ls. run b (between v done) (head_words n ∷ ls)) (regrouped _ _
    (each_at (register_words b) 0 (zip r.regs r.sources)) (each_at counter_words 0 r.counters)
    (lost_lines v r) more _ (last_words v (r.base, r.coeffs, r.lost_coeff)))
    ∙ head_taken laws v b done n true _ e less
    ∙ from_pages laws v b done (rest_of v b r board good) (no_part v b) (lost_lines v r)
    (sets_of v b r good) (left_of v b r good.2) refl refl refl
    (omega (arith, count, n8)) good.0.counter_count more
    ∙ ap (λ row. run b (past v done row) more) (same_row v b r (unsaid_lost v b) good)

rows_taken : KnownOfNumbers → (v : Version) (b : Board) (rows done : Table) (n : ℕ)
    (more : List Words) → IsBoard b
    → n ≡ length done → n + length rows < 2 ^ 64 → AllByRecursion (GoodPlace v b) rows
    → run b (between v done) (lines_from v b n rows ++ more) ≡ run b (between v (done ++ rows)) more
rows_taken laws v b [] done n more board e few all =
    ap (λ rows. run b (between v rows) more) (sym (append-nil done))
rows_taken laws v b (None ∷ rows) done n more board e few all =
    let size = one_longer done None in
    head_taken laws v b done n false (lines_from v b (n + 1) rows ++ more) e (omega (arith, few))
    ∙ rows_taken laws v b rows (done ++ None ∷ []) (n + 1) more board (omega (arith, e, size))
    (omega (arith, few)) all.1
    ∙ ap (λ rows. run b (between v rows) more) (append_assoc done (None ∷ []) rows)
rows_taken laws v b (Some r ∷ rows) done n more board e few all =
    let size = one_longer done (Some r) in
    ap (λ ls. run b (between v done) ls)
    (append_assoc (place_lines v b n (Some r)) (lines_from v b (n + 1) rows) more)
    ∙ row_taken laws v b done n r (lines_from v b (n + 1) rows ++ more) board e
    (omega (arith, few)) all.0
    ∙ rows_taken laws v b rows (done ++ Some r ∷ []) (n + 1) more board (omega (arith, e, size))
    (omega (arith, few)) all.1
    ∙ ap (λ rows. run b (between v rows) more) (append_assoc done (Some r ∷ []) rows)

abbrev EachSaid : Version → Board → Table → Type 0
EachSaid v b t = AllByRecursion (λ row. IfSome row (IsSaidRow v b)) t

each_said : (v : Version) (b : Board) (t : Table) → CanBeSaid v b t → EachSaid v b t
each_said v b [] said = tt
each_said First b (None ∷ t) said = (tt, each_said First b t (λ n u e. said (suc n) u e))
each_said First b (Some r ∷ t) said =
    (said 0 r refl, each_said First b t (λ n u e. said (suc n) u e))
each_said Second b (None ∷ t) said = (tt, each_said Second b t tt)
each_said Second b (Some r ∷ t) said = (tt, each_said Second b t tt)

pub all_places : (v : Version) (b : Board) (t : Table)
    → AllByRecursion (λ row. IfSome row (IsShapedRow b)) t
    → AllByRecursion (λ row. IfSome row IsTypedRow) t → EachSaid v b t
    → AllByRecursion (GoodPlace v b) t
all_places v b [] p q s = tt
all_places v b (None ∷ t) p q s = (tt, all_places v b t p.1 q.1 s.1)
all_places v b (Some r ∷ t) p q s = ((p.0, q.0, s.0), all_places v b t p.1 q.1 s.1)

pub good_places : (v : Version) (b : Board) (t : Table) → IsWritable b t → CanBeSaid v b t
    → AllByRecursion (GoodPlace v b) t
good_places v b t w said =
    all_places v b t (recursion_from_All (λ row. IfSome row (IsShapedRow b)) t w.0)
    (recursion_from_All (λ row. IfSome row IsTypedRow) t w.1.rows) (each_said v b t said)

-- all of a table, and what follows
pub table_taken : KnownOfNumbers → (v : Version) (b : Board) (t : Table) (more : List Words)
    → IsBoard b → IsWritable b t → CanBeSaid v b t
    → run b (no_pass v) (lines_from v b 0 t ++ more) ≡ run b (between v t) more
table_taken laws v b t more board w said =
    let few = w.1.few in
    rows_taken laws v b t [] 0 more board refl (omega (arith, few)) (good_places v b t w said)
