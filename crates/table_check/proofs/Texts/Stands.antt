-- What stands read after some lines: good rows, and a good part of the next one.
use Rattle.std.proofs.Common.{◌≡◌, ℕ, ◌+◌, ◌<◌, ◌==◌, ◌&&◌, ◌^◌, Bool, true, false, List, []}
use Rattle.std.proofs.Common.{◌∷◌, ◌++◌, length, map, Option, Some, None, IfSome, option_map}
use Rattle.std.proofs.Common.{option_and_then, refl, sym, ap, subst, ◌∙◌, arith, inl, inr}
use Rattle.std.proofs.Common.{IsTrue, lit<}
use Rattle.std.specs.Prelude.{is_some}
use Rattle.std.specs.List.{AllByRecursion}
use Rattle.std.proofs.lemmas.Bool.{cases_lt}
use Rattle.std.proofs.lemmas.Bool.Decides.{nat_tests}
use Rattle.std.proofs.lemmas.List.{append_assoc, append-nil, length-map}
use Rattle.std.proofs.lemmas.List.Elements.{All-from_recursion}
use Rattle.board.specs.Boards.{Board}
use Rattle.board.specs.Valid.{IsBoard}
use Rattle.facts.specs.domain.Sets.{Set, is_page, is_protect, HasValue}
use Rattle.facts.specs.domain.Rows.{Row, IsSource}
use Rattle.facts.specs.declared.domain.source.Source.{Source}
use Rattle.facts.specs.declared.domain.span.Span.{Span}
use Rattle.table_check.specs.Tables.{Table}
use Rattle.table_check.specs.text.Lines.{Words, each_at, page_words, protect_words, good_words}
use Rattle.table_check.specs.text.Lines.{register_words, counter_words, ticks_words, head_words}
use Rattle.table_check.specs.text.Lines.{place_lines, lines_from, lost_lines, factors}
use Rattle.table_check.specs.FlatTables.{IsFlatRow}
use Rattle.table_check.specs.declared.text.version.Version.{Version}
use Rattle.table_check.specs.declared.text.version.Version.TheVariants.{First, Second}
use Rattle.table_check.specs.text.Writable.{IsShapedRow, IsTypedRow, IsOfKind, IsWordSpan}
use Rattle.table_check.specs.text.Saying.{ticks_said, head_said}
use Rattle.table_check.specs.text.Passes.{Part, RowsSoFar, no_part, is_full, row_from, finished}
use Rattle.table_check.specs.text.Passes.{with_head, unsaid_lost}
use Rattle.table_check.specs.text.Passes.{with_line, after_words}
use Rattle.table_check.proofs.Texts.Known.{KnownOfNumbers}
use Rattle.table_check.proofs.Texts.Options.{from_then, from_map, same_some}
use Rattle.table_check.proofs.Texts.Spelled.{IsByteSet, AreRails}
use Rattle.table_check.proofs.Texts.SpelledRows.{IsKnown, AreTicks, ticks_only, first_words}
use Rattle.table_check.proofs.Texts.SpelledRows.{head_only, Ticks, IsUnsaid}
use Rattle.table_check.proofs.Texts.PartLines.{either, each_push, part_lines, good_lines, zip_back}
use Rattle.table_check.proofs.Texts.PartLines.{ended, said_lost, IsAny}
use Rattle.table_check.proofs.Texts.PartLines.{GoodPart, no_items}
use Rattle.table_check.proofs.Texts.PartSteps.{line_added}

-- ---- a row that is finished

pub each_weaker : {X : Type 0} (P Q : X → Type 0) → ((x : X) → P x → Q x) → (xs : List X)
    → AllByRecursion P xs → AllByRecursion Q xs
each_weaker P Q f [] all = tt
each_weaker P Q f (x ∷ xs) all = (f x all.0, each_weaker P Q f xs all.1)

each_image : {X Y : Type 0} (P : Y → Type 0) (f : X → Y) (xs : List X)
    → AllByRecursion (λ x. P (f x)) xs → AllByRecursion P (map f xs)
each_image P f [] all = tt
each_image P f (x ∷ xs) all = (all.0, each_image P f xs all.1)

full_of : (r c : ℕ) (o : Option Span) → ((r == 8) && (c == 4) && is_some o) ≡ true
    → (r ≡ 8) × (c ≡ 4)
full_of r c o t = (grind (arith, nat_tests), grind (arith, nat_tests))

some_none : (S : Set) (o : Option Set) → o ≡ Some S → o ≡ None → ⊥
some_none S o e f = let g : Some S ≡ None = sym e ∙ f in cc

pub all_protects : (v : Version) (b : Board) (p : Part) (S : Set) → GoodPart v b p → p.good ≡ Some S
    → length p.protects ≡ length b.targets
all_protects v b p S good e = elim (cases_lt (length p.protects) (length b.targets)) [
  | inl lt ↦ absurd (some_none S p.good e (good.after_protects lt))
  | inr le ↦ let few = good.few_protects in omega (arith, le, few)
]

pub all_pages : (v : Version) (b : Board) (p : Part) (S : Set) → GoodPart v b p → p.good ≡ Some S
    → length p.pages ≡ length b.targets
all_pages v b p S good e = elim (cases_lt (length p.pages) (length b.targets)) [
  | inl lt ↦
      let none = no_items p.protects (length b.targets) (good.after_pages lt)
      (omega (arith, lt)) in
      let all = all_protects v b p S good e in absurd (omega (arith, none, all))
  | inr le ↦ let few = good.few_pages in omega (arith, le, few)
]

-- rows of the first form say nothing of lost arbitrations
abbrev pub IsSaidRow : Version → Board → Row → Type 0
IsSaidRow First b row = IsFlatRow b row
IsSaidRow Second b row = Unit {0}

abbrev pub IsGoodRow : Version → Board → Row → Type 0
IsGoodRow v b row = IsShapedRow b row × IsTypedRow row × IsSaidRow v b row

said_row : (v : Version) (b : Board) (p : Part) (S : Set) (lost : Span) (ticks : Ticks)
    → IsAny v b p.lost → p.lost ≡ Some lost → IsUnsaid v ticks.2
    → IsSaidRow v b (row_from p S lost ticks)
said_row First b p S lost ticks any is unsaid =
    record { lost = same_some lost _ (sym is ∙ any); lost_coeff = unsaid }
said_row Second b p S lost ticks any is unsaid = tt

pub good_row : (v : Version) (b : Board) (p : Part) (S : Set) (lost : Span) (ticks : Ticks)
    → GoodPart v b p → is_full p ≡ true → p.good ≡ Some S → p.lost ≡ Some lost
    → AreTicks v ticks → IsGoodRow v b (row_from p S lost ticks)
good_row v b p S lost ticks good full e l t =
    let counts = full_of (length p.regs) (length p.counters) p.lost full in
    let span : IfSome (Some lost) IsWordSpan = rw l at good.lost in
    let rails : IfSome (Some S) (AreRails b) = rw e at good.good in (
      record {
        page_sets = all_pages v b p S good e;
        pages = All-from_recursion HasValue p.pages
            (each_weaker (IsByteSet is_page) HasValue (λ s h. h.0) p.pages good.pages);
        protect_sets = all_protects v b p S good e;
        protects = All-from_recursion HasValue p.protects
            (each_weaker (IsByteSet is_protect) HasValue (λ s h. h.0) p.protects good.protects);
        good = λ d here. (rails d here).0;
        reg_count = length-map p.regs (λ (k : Span × Source). k.0) ∙ counts.0;
        source_count = length-map p.regs (λ (k : Span × Source). k.1) ∙ counts.0;
        sources = All-from_recursion (IsSource b) (map (λ (k : Span × Source). k.1) p.regs)
            (each_image (IsSource b) (λ (k : Span × Source). k.1) p.regs
            (each_weaker (IsKnown b) (λ (k : Span × Source). IsSource b k.1) (λ k h. h.1) p.regs
            good.regs));
        counter_count = counts.1;
        coeff_count = t.count;
      },
      record {
        pages = All-from_recursion (λ (set : Set). IsOfKind (λ v. IsTrue (is_page v)) set) p.pages
            (each_weaker (IsByteSet is_page) (λ (set : Set). IsOfKind (λ v. IsTrue (is_page v)) set)
            (λ s h v in'. (h.1 v in').1) p.pages good.pages);
        protects = All-from_recursion
            (λ (set : Set). IsOfKind (λ v. IsTrue (is_protect v)) set) p.protects
            (each_weaker (IsByteSet is_protect)
            (λ (set : Set). IsOfKind (λ v. IsTrue (is_protect v)) set)
            (λ s h v in'. (h.1 v in').1) p.protects good.protects);
        regs = All-from_recursion IsWordSpan (map (λ (k : Span × Source). k.0) p.regs)
            (each_image IsWordSpan (λ (k : Span × Source). k.0) p.regs
            (each_weaker (IsKnown b) (λ (k : Span × Source). IsWordSpan k.0) (λ k h. h.0) p.regs
            good.regs));
        counters = All-from_recursion IsWordSpan p.counters good.counters;
        base = t.base;
        coeffs = All-from_recursion (λ k. k < 2 ^ 64) ticks.1 t.coeffs;
        lost = span;
        lost_coeff = t.lost;
      },
      said_row v b p S lost ticks good.any l t.unsaid,
    )

lost_is : (v : Version) (r : Row) → said_lost v (Some r.lost) ≡ lost_lines v r
lost_is First r = refl
lost_is Second r = refl

pub row_lines : (v : Version) (b : Board) (n : ℕ) (p : Part) (S : Set) (lost : Span)
    (ticks : Ticks) → p.good ≡ Some S → p.lost ≡ Some lost
    → place_lines v b n (Some (row_from p S lost ticks))
    ≡ (head_words n ∷ part_lines v b p) ++ ticks_words ticks.0 (factors v ticks.1 ticks.2) ∷ []
row_lines v b n p S lost ticks e l =
    let row : Row = row_from p S lost ticks in
    let L : List Words = lost_lines v row in
    let A : List Words = each_at (page_words b) 0 p.pages in
    let B : List Words = each_at (protect_words b) 0 p.protects in
    let R : List Words = each_at (register_words b) 0 p.regs in
    let C : List Words = each_at counter_words 0 p.counters in
    let t : Words = ticks_words ticks.0 (factors v ticks.1 ticks.2) in
    ap (λ (ks : List (Span × Source)). head_words n ∷ (A ++ (B ++ (good_words b S
    ∷ (each_at (register_words b) 0 ks ++ (C ++ (L ++ t ∷ []))))))) (zip_back p.regs)
    ∙ ap (λ (ls : List Words). head_words n ∷ ls) (sym (ended b A B R C L (good_words b S) t))
    ∙ ap (λ (o : Option Set).
    (head_words n ∷ (A ++ (B ++ (good_lines b o ++ (R ++ (C ++ L)))))) ++ t ∷ []) (sym e)
    ∙ ap (λ (ls : List Words).
    (head_words n ∷ (A ++ (B ++ (good_lines b p.good ++ (R ++ (C ++ ls)))))) ++ t ∷ [])
    (sym (ap (said_lost v) l ∙ lost_is v row))

pub record Finished (v : Version) (b : Board) (n : ℕ) (p : Part) (ws : Words) (row : Row)
    : Type 0 where
  pub good : IsGoodRow v b row
  pub lines : place_lines v b n (Some row) ≡ (head_words n ∷ part_lines v b p) ++ ws ∷ []

pub row_finished : KnownOfNumbers → (v : Version) (b : Board) (n : ℕ) (p : Part) (ws : Words)
    (row : Row)
    → GoodPart v b p
    → is_full p ≡ true → finished v p ws ≡ Some row → Finished v b n p ws row
unfolding finished
row_finished laws v b n p ws row good full e =
    let q = from_then (λ (S : Set). option_and_then (λ (lost : Span).
    option_map (row_from p S lost) (ticks_said v ws)) p.lost) p.good row e in
    let l = from_then (λ (lost : Span). option_map (row_from p q.value lost) (ticks_said v ws))
    p.lost row q.gives in
    let r = from_map (row_from p q.value l.value) (ticks_said v ws) row l.gives in
    let t = ticks_only laws v ws r.value r.there in
    rw (← r.is) (record {
      good = good_row v b p q.value l.value r.value good full q.there l.there t.1;
      lines =
          row_lines v b n p q.value l.value r.value q.there l.there
          ∙ ap (λ (l : Words). (head_words n ∷ part_lines v b p) ++ l ∷ []) (sym t.0);
    })

-- ---- after some lines

abbrev pub GoodPlace : Version → Board → Option Row → Type 0
GoodPlace v b place = IfSome place (IsGoodRow v b)

abbrev pub left_lines : Version → Board → ℕ → Option Part → List Words
left_lines v b n None = []
left_lines v b n (Some p) = head_words n ∷ part_lines v b p

pub record Stands (v : Version) (b : Board) (pass : RowsSoFar) (lines : List Words) : Type 0 where
  pub version : pass.version ≡ v
  pub rows : AllByRecursion (GoodPlace v b) pass.rows
  pub part : IfSome pass.part (GoodPart v b)
  pub all : lines
      ≡ lines_from v b 0 pass.rows ++ left_lines v b (length pass.rows) pass.part

rows_more : (v : Version) (b : Board) (n : ℕ) (rows : Table) (r : Option Row)
    → lines_from v b n (rows ++ r ∷ [])
    ≡ lines_from v b n rows ++ place_lines v b (n + length rows) r
rows_more v b n [] r =
    let e : n ≡ n + 0 = omega arith in
    append-nil (place_lines v b n r) ∙ ap (λ (k : ℕ). place_lines v b k r) e
rows_more v b n (x ∷ rows) r =
    let e : n + 1 + length rows ≡ n + length (x ∷ rows) = omega arith in
    ap (λ (ls : List Words). place_lines v b n x ++ ls) (rows_more v b (n + 1) rows r
    ∙ ap (λ (k : ℕ). lines_from v b (n + 1) rows ++ place_lines v b k r) e)
    ∙ sym (append_assoc (place_lines v b n x) (lines_from v b (n + 1) rows) _)

pub rows_end : (v : Version) (b : Board) (rows : Table) (r : Option Row)
    → lines_from v b 0 (rows ++ r ∷ []) ++ []
    ≡ lines_from v b 0 rows ++ place_lines v b (length rows) r
rows_end v b rows r =
    let e : 0 + length rows ≡ length rows = omega arith in
    append-nil (lines_from v b 0 (rows ++ r ∷ [])) ∙ rows_more v b 0 rows r
    ∙ ap (λ (k : ℕ). lines_from v b 0 rows ++ place_lines v b k r) e

unsaid_word : (v : Version) (b : Board) → IsBoard b → IfSome (unsaid_lost v b) IsWordSpan
unsaid_word First b board = let few = board.contentions in (lit< tt, omega (arith, few))
unsaid_word Second b board = tt

unsaid_any : (v : Version) (b : Board) → IsAny v b (unsaid_lost v b)
unsaid_any First b = refl
unsaid_any Second b = tt

none_said : (v : Version) (b : Board) → said_lost v (unsaid_lost v b) ≡ []
none_said First b = refl
none_said Second b = refl

pub nothing_read : (v : Version) (b : Board) → IsBoard b → GoodPart v b (no_part v b)
nothing_read v b board = record {
  pages = tt;
  few_pages = omega arith;
  protects = tt;
  few_protects = omega arith;
  good = tt;
  regs = tt;
  few_regs = omega arith;
  counters = tt;
  few_counters = omega arith;
  after_pages = λ _. refl;
  after_protects = λ _. refl;
  after_good = λ _. refl;
  after_regs = λ _. refl;
  lost = unsaid_word v b board;
  any = unsaid_any v b;
  after_counters = λ _. none_said v b;
}

abbrev pub between : Version → Table → RowsSoFar
between v rows = record { version = v; rows = rows; part = None }

headed : (v : Version) (b : Board) (rows : Table) (lines : List Words) (has : Bool) → IsBoard b
    → Stands v b (between v rows) lines
    → Stands v b (with_head b (between v rows) has) (lines ++ first_words (length rows) has ∷ [])
headed v b rows lines true board s = record {
  version = refl;
  rows = s.rows;
  part = nothing_read v b board;
  all = ap (λ (ls : List Words). ls ++ head_words (length rows) ∷ [])
      (s.all ∙ append-nil (lines_from v b 0 rows))
      ∙ ap (λ (ls : List Words). lines_from v b 0 rows ++ (head_words (length rows) ∷ ls))
      (sym (none_said v b));
}
headed v b rows lines false board s = record {
  version = refl;
  rows = each_push (GoodPlace v b) rows None s.rows tt;
  part = tt;
  all = ap (λ (ls : List Words). ls ++ first_words (length rows) false ∷ [])
      (s.all ∙ append-nil (lines_from v b 0 rows)) ∙ sym (rows_end v b rows None);
}

pub stepped : KnownOfNumbers
    → (v : Version) (b : Board) (rows : Table) (o : Option Part) (lines : List Words) (ws : Words)
    (next : RowsSoFar) → IsBoard b
    → Stands v b (record { version = v; rows = rows; part = o }) lines
    → after_words b (record { version = v; rows = rows; part = o }) o ws ≡ Some next
    → Stands v b next (lines ++ ws ∷ [])
stepped laws v b rows None lines ws next board s e =
    let r = from_map (with_head b (between v rows)) (head_said (length rows) ws) next e in
    let is : ws ≡ first_words (length rows) r.value =
    head_only laws (length rows) ws r.value r.there in
    let here = headed v b rows lines r.value board s in
    rw (← r.is) (subst (λ (w : Words). Stands v b (with_head b (between v rows) r.value)
    (lines ++ w ∷ [])) (sym is) here)
stepped laws v b rows (Some p) lines ws next board s e =
    elim (either (is_full p) (option_map done (finished v p ws))
    (option_map more (with_line b p ws))
    (Some next) e) [
      | inl h ↦
          let r = from_map done (finished v p ws) next h.1 in
          let f = row_finished laws v b (length rows) p ws r.value s.part h.0 r.there in
          rw (← r.is) (record {
            version = refl;
            rows = each_push (GoodPlace v b) rows (Some r.value) s.rows f.good;
            part = tt;
            all = behind ∙ ap (λ (ls : List Words). lines_from v b 0 rows ++ ls) (sym f.lines)
                ∙ sym (rows_end v b rows (Some r.value));
          })
      | inr h ↦
          let r = from_map more (with_line b p ws) next h.1 in
          let l = line_added laws v b p r.value ws board s.part h.0 r.there in
          rw (← r.is) (record {
            version = refl;
            rows = s.rows;
            part = l.good;
            all = behind ∙ ap (λ (ls : List Words). lines_from v b 0 rows
                ++ (head_words (length rows) ∷ ls)) (sym l.lines);
          })
    ]
  where
    done : Row → RowsSoFar
    done row = record { version = v; rows = rows ++ Some row ∷ []; part = None }

    more : Part → RowsSoFar
    more q = record { version = v; rows = rows; part = Some q }

    behind : lines ++ ws ∷ []
        ≡ lines_from v b 0 rows ++ ((head_words (length rows) ∷ part_lines v b p) ++ ws ∷ [])
    behind =
        ap (λ (ls : List Words). ls ++ ws ∷ []) s.all
        ∙ append_assoc (lines_from v b 0 rows) (head_words (length rows) ∷ part_lines v b p)
        (ws ∷ [])

-- ---- runs

abbrev pub run : Board → RowsSoFar → List Words → Option RowsSoFar
run b pass [] = Some pass
run b pass (ws ∷ more) =
    option_and_then (λ (next : RowsSoFar). run b next more) (after_words b pass pass.part ws)

pub ran : KnownOfNumbers
    → (v : Version) (b : Board) (lines : List Words) (pass : RowsSoFar) (before : List Words)
    (end : RowsSoFar)
    → IsBoard b → Stands v b pass before → run b pass lines ≡ Some end
    → Stands v b end (before ++ lines)
ran laws v b [] pass before end board s e =
    let is : pass ≡ end = cc in rw (← is) (rw (append-nil before) s)
ran laws v b (ws ∷ lines) pass before end board s e =
    let q =
    from_then (λ (next : RowsSoFar). run b next lines) (after_words b pass pass.part ws) end e in
    let here = subst (λ (x : Version). Stands x b pass before) (sym s.version) s in
    let next = stepped laws pass.version b pass.rows pass.part before ws q.value board here
    q.there in
    let one = subst (λ (x : Version). Stands x b q.value (before ++ ws ∷ [])) s.version next in
    rw (← append_assoc before (ws ∷ []) lines)
    (ran laws v b lines q.value (before ++ ws ∷ []) end board one q.gives)
