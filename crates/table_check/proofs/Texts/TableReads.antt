-- Reading a text gives the table whose lines they are, or else the first bad line.
use Rattle.std.proofs.Common.{◌≡◌, ℕ, zero, suc, ◌+◌, ◌<◌, ◌≤◌, ◌^◌, ◌⊎◌, inl, inr, subst, List, []}
use Rattle.std.proofs.Common.{◌∷◌, ◌++◌, length, map}
use Rattle.std.proofs.Common.{Option, Some, None, IfSome, Result, Ok, Err, take, drop, refl}
use Rattle.std.proofs.Common.{option_and_then, sym, ap, ◌∙◌, arith}
use Rattle.std.proofs.Common.{true, false}
use Rattle.std.specs.List.{AllByRecursion}
use Rattle.std.specs.Str.{bytes_eq}
use Rattle.std.proofs.lemmas.Bool.{cases_Bool}
use Rattle.std.proofs.lemmas.List.{append-nil, length-append, length-map, map-append}
use Rattle.std.proofs.lemmas.List.{take-append-drop}
use Rattle.std.proofs.lemmas.List.Elements.{All-from_recursion}
use Rattle.texts.specs.Reading.{◌>>=◌, some_or}
use Rattle.board.specs.Boards.{Board}
use Rattle.board.specs.Valid.{IsBoard}
use Rattle.facts.specs.domain.Rows.{Row}
use Rattle.table_check.specs.declared.text.fault.TableFault.{TableFault}
use Rattle.table_check.specs.declared.text.fault.TableFault.TheVariants.{BadLine}
use Rattle.table_check.specs.Tables.{Table}
use Rattle.table_check.specs.text.Lines.{Words, place_lines, lines_from, line_of, table_lines}
use Rattle.table_check.specs.text.Lines.{version_words, version_lines, head_words, none_words}
use Rattle.table_check.specs.FlatTables.{IsFlat}
use Rattle.table_check.specs.declared.text.version.Version.{Version}
use Rattle.table_check.specs.declared.text.version.Version.TheVariants.{First, Second}
use Rattle.table_check.specs.text.Writable.{IsShapedRow, IsTypedRow, IsWritable}
use Rattle.table_check.specs.text.Texts.{Lines, AreLinesOf, CanBeSaid}
use Rattle.table_check.specs.text.Passes.{Part, RowsSoFar, no_pass, after_words, parted, after_line}
use Rattle.table_check.specs.text.Passes.{after_lines, version_of, first_number}
use Rattle.table_check.specs.text.Passes.{whole_of, whole, table_in}
use Rattle.table_check.proofs.Texts.Known.{KnownOfNumbers}
use Rattle.table_check.proofs.Texts.Options.{none_some, same_some}
use Rattle.table_check.proofs.Texts.Stands.{run, ran, Stands, GoodPlace, IsGoodRow, between}
use Rattle.table_check.proofs.Texts.TableRuns.{table_taken}
use Rattle.table_check.proofs.Texts.LineWords.{places_are_lines, lines_back, lines_whole}
use Rattle.table_check.proofs.Texts.Names.{bytes_eq-same, same_text}

abbrev pub cut : Lines → List Words
cut lines = map parted lines

-- ---- the lines that are taken

pub record Stuck (b : Board) (n : ℕ) (pass : RowsSoFar) (lines : Lines)
    (e : TableFault) : Type 0 where
  pub before : ℕ
  pub is : e ≡ BadLine (n + before)
  pub less : before < length lines
  pub next : RowsSoFar
  pub good : run b pass (cut (take before lines)) ≡ Some next
  pub bad : run b pass (cut (take (suc before) lines)) ≡ None

abbrev pub Linked : Board → ℕ → RowsSoFar → Lines → Result RowsSoFar TableFault → Type 0
Linked b n pass lines (Ok end) = run b pass (cut lines) ≡ Some end
Linked b n pass lines (Err e) = Stuck b n pass lines e

later : (b : Board) (n : ℕ) (pass next : RowsSoFar) (l : List ℕ) (lines : Lines)
    → after_words b pass pass.part (parted l) ≡ Some next → (r : Result RowsSoFar TableFault)
    → Linked b (n + 1) next lines r → Linked b n pass (l ∷ lines) r
later b n pass next l lines e (Ok end) h = rw e h
later b n pass next l lines e (Err x) h =
    let less = h.less in
    let number : n + 1 + h.before ≡ n + suc h.before = omega arith in
    record {
      before = suc h.before;
      is = h.is ∙ ap BadLine number;
      less = omega (arith, less);
      next = h.next;
      good = rw e h.good;
      bad = rw e h.bad;
    }

linked_by : (b : Board) (n : ℕ) (pass : RowsSoFar) (l : List ℕ) (lines : Lines)
    (o : Option RowsSoFar)
    → after_words b pass pass.part (parted l) ≡ o
    → ((next : RowsSoFar) → Linked b (n + 1) next lines (after_lines b (n + 1) next lines))
    → Linked b n pass (l ∷ lines)
    (some_or (BadLine n) o >>= λ next. after_lines b (n + 1) next lines)
linked_by b n pass l lines None e rest =
    let number : n ≡ n + 0 = omega arith in
    record {
      before = 0;
      is = ap BadLine number;
      less = omega arith;
      next = pass;
      good = refl;
      bad = rw e refl;
    }
linked_by b n pass l lines (Some next) e rest =
    later b n pass next l lines e (after_lines b (n + 1) next lines) (rest next)

pub linked : (b : Board) (n : ℕ) (pass : RowsSoFar) (lines : Lines)
    → Linked b n pass lines (after_lines b n pass lines)
unfolding after_line
linked b n pass [] = refl
linked b n pass (l ∷ lines) =
    linked_by b n pass l lines (after_words b pass pass.part (parted l)) refl
    (λ next. linked b (n + 1) next lines)

-- what isn't taken isn't with more lines either
stuck_by : (b : Board) (xs ys : List Words) (o : Option RowsSoFar)
    → ((next : RowsSoFar) → run b next xs ≡ None → run b next (xs ++ ys) ≡ None)
    → option_and_then (λ (next : RowsSoFar). run b next xs) o ≡ None
    → option_and_then (λ (next : RowsSoFar). run b next (xs ++ ys)) o ≡ None
stuck_by b xs ys None rest e = refl
stuck_by b xs ys (Some next) rest e = rest next e

pub stuck : (b : Board) (xs ys : List Words) (pass : RowsSoFar) → run b pass xs ≡ None
    → run b pass (xs ++ ys) ≡ None
stuck b [] ys pass e = absurd (none_some pass (sym e))
stuck b (ws ∷ xs) ys pass e =
    stuck_by b xs ys (after_words b pass pass.part ws) (λ next f. stuck b xs ys next f) e

-- ---- the form of lines

same_head : {X : Type 0} (x y : X) (xs ys : List X) → x ∷ xs ≡ y ∷ ys → x ≡ y
same_head x y xs ys e = cc

same_tail : {X : Type 0} (x y : X) (xs ys : List X) → x ∷ xs ≡ y ∷ ys → xs ≡ ys
same_tail x y xs ys e = cc

none_more : {X : Type 0} (x : X) (xs : List X) → x ∷ xs ≡ [] → ⊥
none_more x xs e = cc

-- lines are that of their form, and the others
pub version_only : (lines : Lines)
    → lines ≡ map line_of (version_lines (version_of lines).0) ++ (version_of lines).1
version_only [] = refl
version_only (line ∷ more) = elim (cases_Bool (bytes_eq line (line_of version_words))) [
  | inl t ↦ rw t (ap (λ (l : List ℕ). l ∷ more) (same_text line (line_of version_words) t))
  | inr f ↦ rw f refl
]

pub rest_few : (lines : Lines) → length (version_of lines).1 ≤ length lines
rest_few [] = omega arith
rest_few (line ∷ more) = elim (cases_Bool (bytes_eq line (line_of version_words))) [
  | inl t ↦ rw t (omega arith)
  | inr f ↦ rw f (omega arith)
]

-- a table's lines begin with these, which say its form
pub record HasForm (b : Board) (t : Table) (lines more : Lines) : Type 0 where
  pub said : CanBeSaid (version_of lines).0 b t
  pub rest : map line_of (lines_from (version_of lines).0 b 0 t) ≡ (version_of lines).1 ++ more

has_first : (b : Board) (t : Table) (l : List ℕ) (lines more : Lines) → CanBeSaid First b t
    → table_lines First b t ≡ l ∷ (lines ++ more)
    → bytes_eq l (line_of version_words) ≡ false → HasForm b t (l ∷ lines) more
has_first b t l lines more said e f = record { said = rw f said; rest = rw f e }

pub has_form : (v : Version) (b : Board) (t : Table) (lines more : Lines) → CanBeSaid v b t
    → table_lines v b t ≡ lines ++ more → (1 ≤ length lines) ⊎ (more ≡ [])
    → HasForm b t lines more
has_form First b t [] more said e k = record { said = said; rest = e }
has_form First b [] (l ∷ lines) more said e k = absurd (none_more l (lines ++ more) (sym e))
has_form First b (None ∷ t) (l ∷ lines) more said e k =
    let head : line_of (none_words 0) ≡ l = same_head (line_of (none_words 0)) l _ _ e in
    has_first b (None ∷ t) l lines more said e (rw (← head) refl)
has_form First b (Some r ∷ t) (l ∷ lines) more said e k =
    let head : line_of (head_words 0) ≡ l = same_head (line_of (head_words 0)) l _ _ e in
    has_first b (Some r ∷ t) l lines more said e (rw (← head) refl)
has_form Second b t [] more said e (inl few) = absurd (omega (arith, few))
has_form Second b t [] more said e (inr none) =
    absurd (none_more (line_of version_words) (map line_of (lines_from Second b 0 t)) (e ∙ none))
has_form Second b t (l ∷ lines) more said e k =
    let head : line_of version_words ≡ l = same_head (line_of version_words) l _ _ e in
    let is : bytes_eq l (line_of version_words) ≡ true =
    rw (← head) (bytes_eq-same (line_of version_words)) in
    record { said = rw is tt; rest = rw is (same_tail (line_of version_words) l _ _ e) }

-- ---- tables that stand

halves : (v : Version) (b : Board) (t : Table) → AllByRecursion (GoodPlace v b) t
    → AllByRecursion (λ row. IfSome row (IsShapedRow b)) t
    × AllByRecursion (λ row. IfSome row IsTypedRow) t
halves v b [] all = (tt, tt)
halves v b (None ∷ t) all = let more = halves v b t all.1 in ((tt, more.0), (tt, more.1))
halves v b (Some r ∷ t) all =
    let more = halves v b t all.1 in ((all.0.0, more.0), (all.0.1, more.1))

flat_at : (b : Board) (t : Table) → AllByRecursion (GoodPlace First b) t → IsFlat b t
flat_at b [] all n u e = absurd (none_some u e)
flat_at b (o ∷ t) all zero u e =
    let P : Option Row → Type 0 = λ o. IfSome o (IsGoodRow First b) in (subst P e all.0).2
flat_at b (o ∷ t) all (suc n) u e = flat_at b t all.1 n u e

pub said_of : (v : Version) (b : Board) (t : Table) → AllByRecursion (GoodPlace v b) t
    → CanBeSaid v b t
said_of First b t all = flat_at b t all
said_of Second b t all = tt

some_lines : (v : Version) (b : Board) (n : ℕ) (r : Option Row)
    → 1 ≤ length (place_lines v b n r)
some_lines v b n None = omega arith
some_lines v b n (Some r) = omega arith

pub few_rows : (v : Version) (b : Board) (n : ℕ) (t : Table)
    → length t ≤ length (lines_from v b n t)
few_rows v b n [] = omega arith
few_rows v b n (r ∷ t) =
    let one = some_lines v b n r in
    let more = few_rows v b (n + 1) t in
    let sum = length-append (place_lines v b n r) (lines_from v b (n + 1) t) in
    omega (arith, one, more, sum)

pub writable : (v : Version) (b : Board) (t : Table) → AllByRecursion (GoodPlace v b) t
    → length t < 2 ^ 64 → IsWritable b t
writable v b t all small =
    let h = halves v b t all in (
      All-from_recursion (λ row. IfSome row (IsShapedRow b)) t h.0,
      record {
        few = small;
        rows = All-from_recursion (λ row. IfSome row IsTypedRow) t h.1;
      },
    )

pub start : (v : Version) (b : Board) → Stands v b (no_pass v) []
start v b = record { version = refl; rows = tt; part = tt; all = refl }

pub stands : KnownOfNumbers → (v : Version) (b : Board) (lines : Lines) (end : RowsSoFar)
    → IsBoard b → run b (no_pass v) (cut lines) ≡ Some end → Stands v b end (cut lines)
stands laws v b lines end board e =
    ran laws v b (cut lines) (no_pass v) [] end board (start v b) e

-- lines that say a form, and then these
abbrev pub AreBehind : Version → Lines → Lines → Type 0
AreBehind v rest lines = lines ≡ map line_of (version_lines v) ++ rest

pub table_stands : (v w : Version) (b : Board) (lines rest : Lines) (rows : Table)
    → length rest < 2 ^ 64 → AreBehind v rest lines
    → Stands v b (record { version = w; rows = rows; part = None }) (cut rest)
    → IsWritable b rows × CanBeSaid v b rows × (lines ≡ table_lines v b rows)
table_stands v w b lines rest rows small behind s =
    let all : cut rest ≡ lines_from v b 0 rows = s.all ∙ append-nil (lines_from v b 0 rows) in
    let size = length-map rest parted in
    let same = ap (λ (ls : List Words). length ls) all in
    let few = few_rows v b 0 rows in
    let these : rest ≡ map line_of (lines_from v b 0 rows) =
    sym (lines_whole rest) ∙ ap (map line_of) all in (
      writable v b rows s.rows (omega (arith, small, size, same, few)),
      said_of v b rows s.rows,
      behind ∙ ap (λ (ls : Lines). map line_of (version_lines v) ++ ls) these
          ∙ sym (map-append line_of (version_lines v) (lines_from v b 0 rows)),
    )

-- ---- reading

whole_is : (v w : Version) (b : Board) (lines rest : Lines) (rows : Table) (o : Option Part)
    (t : Table) → length rest < 2 ^ 64 → AreBehind v rest lines
    → Stands v b (record { version = w; rows = rows; part = o }) (cut rest)
    → whole_of (length lines) (record { version = w; rows = rows; part = o }) o ≡ Ok t
    → AreLinesOf b t lines
whole_is v w b lines rest rows None t small behind s e =
    let same : rows ≡ t = cc in
    let h = table_stands v w b lines rest rows small behind s in
    rw (← same) (h.0, (v, h.1, h.2))
whole_is v w b lines rest rows (Some p) t small behind s e = absurd cc

read_is : KnownOfNumbers → (v : Version) (b : Board) (lines rest : Lines)
    (r : Result RowsSoFar TableFault) (t : Table) → IsBoard b → length rest < 2 ^ 64
    → AreBehind v rest lines → Linked b (first_number v) (no_pass v) rest r
    → (r >>= λ pass. whole (length lines) pass) ≡ Ok t → AreLinesOf b t lines
read_is laws v b lines rest (Ok end) t board small behind h e =
    whole_is v end.version b lines rest end.rows end.part t small behind
    (stands laws v b rest end board h) e
read_is laws v b lines rest (Err x) t board small behind h e = absurd cc

-- what is read are the lines of the table
pub read_only : KnownOfNumbers → (b : Board) (lines : Lines) (t : Table) → IsBoard b
    → length lines < 2 ^ 64
    → table_in b lines ≡ Ok t → AreLinesOf b t lines
unfolding table_in
read_only laws b lines t board small e =
    let v : Version = (version_of lines).0 in
    let rest : Lines = (version_of lines).1 in
    let few = rest_few lines in
    read_is laws v b lines rest (after_lines b (first_number v) (no_pass v) rest) t board
    (omega (arith, few, small)) (version_only lines)
    (linked b (first_number v) (no_pass v) rest) e

pub cut_lines : (v : Version) (b : Board) (t : Table) (rest more : Lines) → IsBoard b
    → IsWritable b t → CanBeSaid v b t → map line_of (lines_from v b 0 t) ≡ rest ++ more
    → lines_from v b 0 t ≡ cut rest ++ cut more
cut_lines v b t rest more board w said e =
    sym (lines_back (lines_from v b 0 t) (places_are_lines v b t board w said)) ∙ ap cut e
    ∙ map-append parted rest more

pub lines_taken : KnownOfNumbers → (v : Version) (b : Board) (t : Table) (rest more : Lines)
    → IsBoard b → IsWritable b t → CanBeSaid v b t
    → map line_of (lines_from v b 0 t) ≡ rest ++ more
    → run b (no_pass v) (cut rest ++ cut more) ≡ Some (between v t)
lines_taken laws v b t rest more board w said e =
    ap (run b (no_pass v)) (sym (append-nil (cut rest ++ cut more))
    ∙ ap (λ (ls : List Words). ls ++ []) (sym (cut_lines v b t rest more board w said e)))
    ∙ table_taken laws v b t [] board w said

-- no table's lines begin so
pub never_from : KnownOfNumbers → (v : Version) (b : Board) (t : Table) (rest more : Lines)
    → IsBoard b → IsWritable b t → CanBeSaid v b t
    → map line_of (lines_from v b 0 t) ≡ rest ++ more
    → run b (no_pass v) (cut rest) ≡ None → ⊥
never_from laws v b t rest more board w said e none =
    none_some (between v t) (sym (stuck b (cut rest) (cut more) (no_pass v) none)
    ∙ lines_taken laws v b t rest more board w said e)

pub never : KnownOfNumbers → (v : Version) (b : Board) (t : Table) (lines more : Lines)
    → IsBoard b → IsWritable b t → CanBeSaid v b t → 1 ≤ length lines
    → table_lines v b t ≡ lines ++ more
    → run b (no_pass (version_of lines).0) (cut (version_of lines).1) ≡ None → ⊥
never laws v b t lines more board w said some e none =
    let f = has_form v b t lines more said e (inl some) in
    never_from laws (version_of lines).0 b t (version_of lines).1 more board w f.said f.rest none

read_of : KnownOfNumbers → (v : Version) (b : Board) (lines rest : Lines)
    (r : Result RowsSoFar TableFault) (t : Table) → IsBoard b → IsWritable b t
    → CanBeSaid v b t → map line_of (lines_from v b 0 t) ≡ rest ++ []
    → Linked b (first_number v) (no_pass v) rest r
    → (r >>= λ pass. whole (length lines) pass) ≡ Ok t
read_of laws v b lines rest (Ok end) t board w said e h =
    let taken = lines_taken laws v b t rest [] board w said e in
    let is : Some (between v t) ≡ Some end =
    sym taken ∙ ap (run b (no_pass v)) (append-nil (cut rest)) ∙ h in
    rw (← same_some (between v t) end is) refl
read_of laws v b lines rest (Err x) t board w said e h =
    absurd (never_from laws v b t (take (suc h.before) rest) (drop (suc h.before) rest) board w
    said (e ∙ append-nil rest ∙ sym (take-append-drop (suc h.before) rest)) h.bad)

-- the lines of a table are read as the table
pub read_all : KnownOfNumbers → (b : Board) (lines : Lines) (t : Table) → IsBoard b
    → AreLinesOf b t lines
    → table_in b lines ≡ Ok t
unfolding table_in
read_all laws b lines t board are =
    let v : Version = (version_of lines).0 in
    let rest : Lines = (version_of lines).1 in
    let f = has_form are.1.0 b t lines [] are.1.1 (sym are.1.2 ∙ sym (append-nil lines))
    (inr refl) in
    read_of laws v b lines rest (after_lines b (first_number v) (no_pass v) rest) t board are.0
    f.said f.rest (linked b (first_number v) (no_pass v) rest)
