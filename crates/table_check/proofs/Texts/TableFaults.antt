-- The first bad line of a text that is read as no table.
use Rattle.std.proofs.Common.{◌≡◌, ◌≤◌, ℕ, zero, suc, ◌+◌, ◌-◌, ◌<◌, ◌^◌, Bool, List, [], ◌∷◌, ◌++◌}
use Rattle.std.proofs.Common.{length, map, Option, Some, None, IfSome, Result, Ok, Err, take, drop}
use Rattle.std.proofs.Common.{replicate, refl, sym, ap, ◌∙◌, arith, inl, inr, subst, IsTrue, lit<}
use Rattle.std.proofs.Common.{true, false}
use Rattle.std.specs.List.{AllByRecursion}
use Rattle.std.specs.Str.{bytes_eq}
use Rattle.std.proofs.lemmas.Bool.{cases_Bool}
use Rattle.std.proofs.lemmas.List.{append-nil, append_assoc, length-append, length-map}
use Rattle.std.proofs.lemmas.List.{length-replicate, map-append, take-append-drop}
use Rattle.std.proofs.lemmas.Bool.{eqb-true}
use Rattle.texts.specs.Reading.{◌>>=◌}
use Rattle.board.specs.Boards.{Board}
use Rattle.board.specs.Valid.{IsBoard}
use Rattle.facts.specs.domain.Sets.{Set, empty, only, is_page, is_protect, HasValue}
use Rattle.facts.specs.domain.Rows.{Row}
use Rattle.facts.specs.declared.domain.source.Source.{Source}
use Rattle.facts.specs.declared.domain.source.Source.TheVariants as source
use Rattle.facts.specs.declared.domain.span.Span.{Span}
use Rattle.table_check.specs.declared.text.fault.TableFault.{TableFault}
use Rattle.table_check.specs.declared.text.fault.TableFault.TheVariants.{BadLine}
use Rattle.table_check.specs.Tables.{Table}
use Rattle.table_check.specs.text.Lines.{Words, each_at, page_words, protect_words, good_words}
use Rattle.table_check.specs.text.Lines.{register_words, counter_words, lines_from}
use Rattle.table_check.specs.text.Lines.{line_of, lost_words, version_words, version_lines}
use Rattle.table_check.specs.declared.text.version.Version.{Version}
use Rattle.table_check.specs.declared.text.version.Version.TheVariants.{First, Second}
use Rattle.table_check.specs.text.Writable.{IsWordSpan}
use Rattle.table_check.specs.text.Texts.{Lines, Begins, IsWrongAt, IsFirstBadLine}
use Rattle.table_check.specs.text.Passes.{Part, RowsSoFar, no_pass, parted, row_from, after_lines}
use Rattle.table_check.specs.text.Passes.{whole_of, version_of, first_number}
use Rattle.table_check.specs.text.Passes.{whole, table_in}
use Rattle.table_check.proofs.Texts.Known.{KnownOfNumbers}
use Rattle.table_check.proofs.Texts.Spelled.{IsByteSet, AreRails}
use Rattle.table_check.proofs.Texts.SpelledRows.{IsKnown, IsUnsaid}
use Rattle.table_check.proofs.Texts.PartLines.{GoodPart, no_items, one_longer}
use Rattle.table_check.proofs.Texts.Stands.{run, ran, Stands, left_lines, all_pages, all_protects}
use Rattle.table_check.proofs.Texts.Fills.{Rest, Sets, LostLeft, at, past, last_words}
use Rattle.table_check.proofs.Texts.Fills.{from_pages, from_registers}
use Rattle.table_check.proofs.Texts.TableReads.{cut, Linked, Stuck, linked, stands, table_stands}
use Rattle.table_check.proofs.Texts.TableReads.{never, said_of, AreBehind, version_only, rest_few}
use Rattle.table_check.proofs.Texts.TableReads.{writable, few_rows, read_all}
use Rattle.table_check.proofs.Texts.LineWords.{lines_whole}

-- ---- the rest of a row, with the least values

each_same : {X : Type 0} (P : X → Type 0) (x : X) (n : ℕ) → P x
    → AllByRecursion P (replicate n x)
each_same P x zero one = tt
each_same P x (suc n) one = (one, each_same P x n one)

zero_unsaid : (v : Version) → IsUnsaid v 0
zero_unsaid First = refl
zero_unsaid Second = tt

-- what is left of a part's lost arbitrations
record LostOf (q : Part) : Type 0 where
  pub lost : Span
  pub span : IsWordSpan lost
  pub left : List Words
  pub is : LostLeft q.lost lost left

lost_of : (v : Version) (b : Board) (q : Part) (o : Option Span) → q.lost ≡ o → GoodPart v b q
    → LostOf q
lost_of v b q None e good =
    let none : Span = record { lo = 0; hi = 0 } in
    record {
      lost = none;
      span = (lit< tt, lit< tt);
      left = lost_words none ∷ [];
      is = inr (e, refl);
    }
lost_of v b q (Some span) e good =
    let word : IfSome (Some span) IsWordSpan = rw e at good.lost in
    record { lost = span; span = word; left = []; is = inl (e, refl) }

least_rest : (v : Version) (b : Board) (q : Part) → IsBoard b → (set : Set) → AreRails b set
    → LostOf q → (r c : ℕ) → Rest v b
least_rest v b q board set rails lost r c = record {
  board = board;
  set = set;
  rails = rails;
  regs = replicate r (record { lo = 0; hi = 0 }, source.None);
  known = each_same (IsKnown b) (record { lo = 0; hi = 0 }, source.None) r
      ((lit< tt, lit< tt), tt);
  counters = replicate c (record { lo = 0; hi = 0 });
  spans = each_same IsWordSpan (record { lo = 0; hi = 0 }) c (lit< tt, lit< tt);
  lost = lost.lost;
  span = lost.span;
  ticks = (0, 0 ∷ 0 ∷ 0 ∷ 0 ∷ [], 0);
  numbers = record {
    base = lit< tt;
    count = refl;
    coeffs = (lit< tt, (lit< tt, (lit< tt, (lit< tt, tt))));
    lost = lit< tt;
    unsaid = zero_unsaid v;
  };
}

zero_set : (is_value : ℕ → Bool) → IsTrue (is_value 0) → IsByteSet is_value (only 0)
unfolding HasValue
zero_set is_value good = ((0, refl), λ v t. one v (eqb-true v 0 t))
  where
    one : (v : ℕ) → v ≡ 0 → (v < 256) × IsTrue (is_value v)
    one v e = (omega (arith, e), subst (λ n. IsTrue (is_value n)) (sym e) good)

least_sets : (v : Version) (b : Board) (q : Part) → GoodPart v b q → Sets b q
least_sets v b q good =
    let p = length b.targets - length q.pages in
    let r = length b.targets - length q.protects in
    let n = length-replicate p (only 0) in
    let m = length-replicate r (only 0) in
    let few = good.few_pages in
    let less = good.few_protects in
    record {
      pages = replicate p (only 0);
      page_count = omega (arith, n, few);
      page_sets = each_same (IsByteSet is_page) (only 0) p (zero_set is_page refl);
      protects = replicate r (only 0);
      protect_count = omega (arith, m, less);
      protect_sets = each_same (IsByteSet is_protect) (only 0) r (zero_set is_protect refl);
    }

-- ---- every good part is that of some row

pub record Completion (v : Version) (b : Board) (rows : Table) (q : Part) : Type 0 where
  pub more : List Words
  pub row : Row
  pub ran : run b (at v rows q) more ≡ Some (past v rows row)

abbrev last_lines : (v : Version) (b : Board) → Rest v b → Part → List Words → List Words
last_lines v b rest q left =
    each_at (register_words b) (length q.regs) rest.regs
    ++ (each_at counter_words (length q.counters) rest.counters
    ++ (left ++ (last_words v rest.ticks ∷ [])))

with_good : KnownOfNumbers → (v : Version) (b : Board) (rows : Table) (q : Part) (rest : Rest v b)
    (left : List Words) → LostLeft q.lost rest.lost left → GoodPart v b q
    → q.good ≡ Some rest.set → length q.regs + length rest.regs ≡ 8
    → length q.counters + length rest.counters ≡ 4 → Completion v b rows q
with_good laws v b rows q rest left k good e n m =
    let pages = all_pages v b q rest.set good e in
    let protects = all_protects v b q rest.set good e in
    record {
      more = last_lines v b rest q left;
      row = row_from (record q {
        regs = q.regs ++ rest.regs;
        counters = q.counters ++ rest.counters;
      }) rest.set rest.lost rest.ticks;
      ran = from_registers laws v b rows rest q left (record {
        pages = omega (arith, pages);
        protects = omega (arith, protects);
        good = e;
      }) k n m [];
    }

without_good : KnownOfNumbers
    → (v : Version) (b : Board) (rows : Table) (q : Part) (rest : Rest v b) (left : List Words)
    (sets : Sets b q) → LostLeft q.lost rest.lost left
    → q.good ≡ None → q.regs ≡ [] → q.counters ≡ [] → length rest.regs ≡ 8
    → length rest.counters ≡ 4 → Completion v b rows q
without_good laws v b rows q rest left sets k e e3 e4 n m = record {
  more = each_at (page_words b) (length q.pages) sets.pages
      ++ (each_at (protect_words b) (length q.protects) sets.protects
      ++ (good_words b rest.set ∷ last_lines v b rest q left));
  row = row_from (record {
    pages = q.pages ++ sets.pages;
    protects = q.protects ++ sets.protects;
    good = Some rest.set;
    regs = q.regs ++ rest.regs;
    counters = q.counters ++ rest.counters;
    lost = q.lost;
  }) rest.set rest.lost rest.ticks;
  ran = from_pages laws v b rows rest q left sets k e e3 e4 n m [];
}

no_rails : (b : Board) → AreRails b empty
no_rails b d t = absurd cc

pub completed_by : KnownOfNumbers → (v : Version) (b : Board) (rows : Table) (q : Part)
    (o : Option Set) → q.good ≡ o → IsBoard b → GoodPart v b q → Completion v b rows q
unfolding least_rest
completed_by laws v b rows q None e board good =
    let lost = lost_of v b q q.lost refl good in
    let e3 = good.after_good e in
    let e4 = good.after_regs (no_items q.regs 8 e3 (omega arith)) in
    without_good laws v b rows q (least_rest v b q board empty (no_rails b) lost 8 4) lost.left
    (least_sets v b q good) lost.is e e3 e4
    refl refl
completed_by laws v b rows q (Some S) e board good =
    let lost = lost_of v b q q.lost refl good in
    let rails : IfSome (Some S) (AreRails b) = rw e at good.good in
    let r = 8 - length q.regs in
    let c = 4 - length q.counters in
    let few = good.few_regs in
    let less = good.few_counters in
    let n = length-replicate r (zero_known) in
    let m = length-replicate c (zero_only) in
    with_good laws v b rows q (least_rest v b q board S rails lost r c) lost.left lost.is good e
    (omega (arith, n, few)) (omega (arith, m, less))
  where
    zero_known : Span × Source
    zero_known = (record { lo = 0; hi = 0 }, source.None)

    zero_only : Span
    zero_only = record { lo = 0; hi = 0 }

-- ---- lines that are taken begin some table

row_begins : (v : Version) (b : Board) (lines rest : Lines) (rows : Table) (row : Row)
    (more : List Words) → length rows ≤ 2 ^ 63 → AreBehind v rest lines
    → Stands v b (past v rows row) (cut rest ++ more) → Begins b lines
row_begins v b lines rest rows row more few behind s =
    let t : Table = rows ++ Some row ∷ [] in
    let size = one_longer rows (Some row) in
    let all : cut rest ++ more ≡ lines_from v b 0 t =
    s.all ∙ append-nil (lines_from v b 0 t) in
    let these : map line_of (lines_from v b 0 t) ≡ rest ++ map line_of more =
    ap (map line_of) (sym all) ∙ map-append line_of (cut rest) more
    ∙ ap (λ (ls : Lines). ls ++ map line_of more) (lines_whole rest) in
    record {
      version = v;
      table = t;
      writable = writable v b t s.rows (omega (arith, few, size));
      said = said_of v b t s.rows;
      more = map line_of more;
      all = map-append line_of (version_lines v) (lines_from v b 0 t)
          ∙ ap (λ (ls : Lines). map line_of (version_lines v) ++ ls) these
          ∙ sym (append_assoc (map line_of (version_lines v)) rest (map line_of more))
          ∙ ap (λ (ls : Lines). ls ++ map line_of more) (sym behind);
    }

rows_small : (v : Version) (b : Board) (rest : Lines) (pass : RowsSoFar) → length rest ≤ 2 ^ 63
    → Stands v b pass (cut rest) → length pass.rows ≤ 2 ^ 63
rows_small v b rest pass small s =
    let few = few_rows v b 0 pass.rows in
    let size = length-map rest parted in
    let same = ap (λ (ls : List Words). length ls) s.all in
    let sum = length-append (lines_from v b 0 pass.rows)
    (left_lines v b (length pass.rows) pass.part) in
    omega (arith, few, size, same, sum, small)

begins_by : KnownOfNumbers → (v w : Version) (b : Board) (lines rest : Lines) (rows : Table)
    (o : Option Part) → IsBoard b → length rest ≤ 2 ^ 63 → AreBehind v rest lines
    → Stands v b (record { version = w; rows = rows; part = o }) (cut rest) → Begins b lines
begins_by laws v w b lines rest rows None board small behind s =
    let are = table_stands v w b lines rest rows (omega (arith, small)) behind s in
    record {
      version = v;
      table = rows;
      writable = are.0;
      said = are.1;
      more = [];
      all = sym are.2 ∙ sym (append-nil lines);
    }
begins_by laws v w b lines rest rows (Some q) board small behind s =
    let here : Stands v b (at v rows q) (cut rest) =
    subst (λ (x : Version). Stands v b (record { version = x; rows = rows; part = Some q })
    (cut rest)) s.version s in
    let c = completed_by laws v b rows q q.good refl board s.part in
    row_begins v b lines rest rows c.row c.more (rows_small v b rest (at v rows q) small here)
    behind (ran laws v b c.more (at v rows q) (cut rest) (past v rows c.row) board here c.ran)

-- lines of which all that say something of places are taken
abbrev AreTaken : Board → Version × Lines → RowsSoFar → Type 0
AreTaken b form pass = run b (no_pass form.0) (cut form.1) ≡ Some pass

begins : KnownOfNumbers → (b : Board) (lines : Lines) (pass : RowsSoFar) → IsBoard b
    → length lines ≤ 2 ^ 63 → AreTaken b (version_of lines) pass → Begins b lines
begins laws b lines pass board small e =
    let few = rest_few lines in
    begins_by laws (version_of lines).0 pass.version b lines (version_of lines).1 pass.rows
    pass.part board (omega (arith, few, small)) (version_only lines)
    (stands laws (version_of lines).0 b (version_of lines).1 pass board e)

-- ---- the first bad line

-- so many lines of a text are these of its places
record CutAt (lines : Lines) (of_places : ℕ) : Type 0 where
  pub count : ℕ
  pub number : count + 1 ≡ first_number (version_of lines).0 + of_places
  pub few : of_places < length (version_of lines).1 → suc count ≤ length lines
  pub good : version_of (take count lines)
      ≡ ((version_of lines).0, take of_places (version_of lines).1)
  pub bad : version_of (take (suc count) lines)
      ≡ ((version_of lines).0, take (suc of_places) (version_of lines).1)

cut_second : (l : List ℕ) (more : Lines) (k : ℕ) → bytes_eq l (line_of version_words) ≡ true
    → CutAt (l ∷ more) k
cut_second l more k t = record {
  count = suc k;
  number = rw t (omega arith);
  few = rw t (λ less. omega (arith, less));
  good = rw t refl;
  bad = rw t refl;
}

cut_first : (l : List ℕ) (more : Lines) (k : ℕ) → bytes_eq l (line_of version_words) ≡ false
    → CutAt (l ∷ more) k
cut_first l more zero f = record {
  count = 0;
  number = rw f refl;
  few = rw f (λ less. omega (arith, less));
  good = rw f refl;
  bad = rw f refl;
}
cut_first l more (suc k) f = record {
  count = suc k;
  number = rw f (omega arith);
  few = rw f (λ less. omega (arith, less));
  good = rw f refl;
  bad = rw f refl;
}

cut_at : (lines : Lines) (k : ℕ) → k < length (version_of lines).1 → CutAt lines k
cut_at [] k less = absurd (omega (arith, less))
cut_at (l ∷ more) k less = elim (cases_Bool (bytes_eq l (line_of version_words))) [
  | inl t ↦ cut_second l more k t
  | inr f ↦ cut_first l more k f
]

some_taken : (n : ℕ) (lines : Lines) → suc n ≤ length lines → 1 ≤ length (take (suc n) lines)
some_taken n [] few = absurd (omega (arith, few))
some_taken n (l ∷ lines) few = omega arith

number_is : (n m : ℕ) → BadLine n ≡ BadLine m → n ≡ m
number_is n m e = cc

abbrev IsStuck : Board → Lines → TableFault → Type 0
IsStuck b lines e =
    Stuck b (first_number (version_of lines).0) (no_pass (version_of lines).0)
    (version_of lines).1 e

wrong_at : KnownOfNumbers → (b : Board) (lines : Lines) (e : TableFault) → IsBoard b
    → length lines ≤ 2 ^ 63
    → (h : IsStuck b lines e) → (c : CutAt lines h.before) → IsWrongAt b lines c.count
wrong_at laws b lines e board small h c =
    let there = c.few h.less in
    let parts = ap (λ (ls : Lines). length ls) (take-append-drop c.count lines) in
    let sum = length-append (take c.count lines) (drop c.count lines) in
    let G : Version × Lines → Type 0 = λ form. AreTaken b form h.next in
    let B : Version × Lines → Type 0 = λ form. run b (no_pass form.0) (cut form.1) ≡ None in
    record {
      there = there;
      good =
          begins laws b (take c.count lines) h.next board
          (omega (arith, parts, sum, small)) (subst G (sym c.good) h.good);
      bad = λ g.
          never laws g.version b g.table (take (suc c.count) lines) g.more board g.writable
          g.said (some_taken c.count lines there) g.all (subst B (sym c.bad) h.bad);
    }

abbrev failed : TableFault → Result Table TableFault
failed e = Err e

same_error : (e f : TableFault) → failed e ≡ failed f → e ≡ f
same_error e f p = cc

ok_error : (t : Table) (e : TableFault) → Ok t ≡ Err e → ⊥
ok_error t e p = cc

whole_wrong : KnownOfNumbers → (b : Board) (lines : Lines) (end : RowsSoFar) (o : Option Part)
    (n : ℕ) → IsBoard b → length lines ≤ 2 ^ 63 → AreTaken b (version_of lines) end
    → whole_of (length lines) end o ≡ Err (BadLine n)
    → table_in b lines ≡ Err (BadLine n) → IsFirstBadLine b lines n
whole_wrong laws b lines end None n board small h e none =
    absurd (ok_error end.rows (BadLine n) e)
whole_wrong laws b lines end (Some q) n board small h e none =
    let is : length lines + 1 ≡ n =
    number_is (length lines + 1) n (same_error (BadLine (length lines + 1)) (BadLine n) e) in
    record {
      before = length lines;
      number = omega (arith, is);
      first = inr (record {
        all = refl;
        good = begins laws b lines end board small h;
        bad = λ t are.
            ok_error t (BadLine n) (sym (read_all laws b lines t board are) ∙ none);
      });
    }

wrong_by : KnownOfNumbers → (b : Board) (lines : Lines) (r : Result RowsSoFar TableFault) (n : ℕ)
    → IsBoard b
    → length lines ≤ 2 ^ 63
    → Linked b (first_number (version_of lines).0) (no_pass (version_of lines).0)
    (version_of lines).1 r
    → (r >>= λ pass. whole (length lines) pass) ≡ Err (BadLine n)
    → table_in b lines ≡ Err (BadLine n) → IsFirstBadLine b lines n
wrong_by laws b lines (Ok end) n board small h e none =
    whole_wrong laws b lines end end.part n board small h e none
wrong_by laws b lines (Err x) n board small h e none =
    let first : ℕ = first_number (version_of lines).0 in
    let is : first + h.before ≡ n =
    number_is (first + h.before) n (sym h.is ∙ same_error x (BadLine n) e) in
    let c = cut_at lines h.before h.less in
    let number = c.number in
    record {
      before = c.count;
      number = omega (arith, is, number);
      first = inl (wrong_at laws b lines x board small h c);
    }

-- the fault carries the first bad line
pub read_wrong : KnownOfNumbers → (b : Board) (lines : Lines) (n : ℕ) → IsBoard b
    → length lines ≤ 2 ^ 63
    → table_in b lines ≡ Err (BadLine n) → IsFirstBadLine b lines n
unfolding table_in
read_wrong laws b lines n board small e =
    let first : ℕ = first_number (version_of lines).0 in
    let pass : RowsSoFar = no_pass (version_of lines).0 in
    wrong_by laws b lines (after_lines b first pass (version_of lines).1) n board small
    (linked b first pass (version_of lines).1) e e
