-- The lines of a row are taken one after another.
use Rattle.std.proofs.Common.{◌≡◌, ℕ, ◌+◌, ◌<◌, ◌≤◌, ◌==◌, ◌&&◌, true, false, List, []}
use Rattle.std.proofs.Common.{◌∷◌, ◌++◌, length, nat_lt, Option, Some, None, refl, sym, ap}
use Rattle.std.proofs.Common.{◌⊎◌, inl, inr}
use Rattle.std.specs.Prelude.{is_some}
use Rattle.std.proofs.Common.{◌∙◌, arith, codes}
use Rattle.std.specs.List.{AllByRecursion}
use Rattle.std.proofs.lemmas.Bool.{lt-ltb}
use Rattle.std.proofs.lemmas.Bool.Decides.{nat_tests}
use Rattle.std.proofs.lemmas.List.{append_assoc, append-nil, length-append}
use Rattle.board.specs.Boards.{Board}
use Rattle.board.specs.Valid.{IsBoard}
use Rattle.facts.specs.domain.Sets.{Set, is_page, is_protect}
use Rattle.facts.specs.domain.Rows.{Row}
use Rattle.facts.specs.declared.domain.source.Source.{Source}
use Rattle.facts.specs.declared.domain.span.Span.{Span}
use Rattle.table_check.specs.Tables.{Table}
use Rattle.table_check.specs.text.Lines.{Words, each_at, page_words, protect_words, good_words}
use Rattle.table_check.specs.text.Lines.{register_words, counter_words, ticks_words, lost_words}
use Rattle.table_check.specs.text.Lines.{factors}
use Rattle.table_check.specs.declared.text.version.Version.{Version}
use Rattle.table_check.specs.text.Writable.{IsWordSpan}
use Rattle.table_check.specs.text.Passes.{Part, RowsSoFar, is_full, row_from, finished, with_line}
use Rattle.table_check.specs.text.Passes.{with_set, with_good, with_register, with_counter}
use Rattle.table_check.specs.text.Passes.{with_lost}
use Rattle.table_check.proofs.Texts.Known.{KnownOfNumbers}
use Rattle.table_check.proofs.Texts.Spelled.{IsByteSet, AreRails, set_line_back, good_back}
use Rattle.table_check.proofs.Texts.SpelledRows.{IsKnown, AreTicks, register_back, counter_back}
use Rattle.table_check.proofs.Texts.SpelledRows.{ticks_back, lost_back, Ticks}
use Rattle.table_check.proofs.Texts.PartLines.{one_longer}
use Rattle.table_check.proofs.Texts.Stands.{run}

pub below : (a b : ℕ) → a < b → nat_lt a b ≡ true
below a b less = lt-ltb a b less

pub not_below : (a b : ℕ) → b ≤ a → nat_lt a b ≡ false
not_below a b le = grind (arith, nat_tests)

few_regs : (r c : ℕ) (o : Option Span) → r < 8 → ((r == 8) && (c == 4) && is_some o) ≡ false
few_regs r c o less = grind (arith, nat_tests)

few_counters : (r c : ℕ) (o : Option Span) → c < 4 → ((r == 8) && (c == 4) && is_some o) ≡ false
few_counters r c o less = grind (arith, nat_tests)

none_lost : (r c : ℕ) (o : Option Span) → r ≡ 8 → c ≡ 4 → o ≡ None
    → ((r == 8) && (c == 4) && is_some o) ≡ false
none_lost r c o e f g = rw (e, f, g) refl

all_there : (r c : ℕ) (o : Option Span) (span : Span) → r ≡ 8 → c ≡ 4 → o ≡ Some span
    → ((r == 8) && (c == 4) && is_some o) ≡ true
all_there r c o span e f g = rw (e, f, g) refl

abbrev pub at : Version → Table → Part → RowsSoFar
at v rows p = record { version = v; rows = rows; part = Some p }

abbrev pub past : Version → Table → Row → RowsSoFar
past v rows row = record { version = v; rows = rows ++ Some row ∷ []; part = None }

taken : (v : Version) (b : Board) (rows : Table) (p q : Part) (ws : Words) (more : List Words)
    → is_full p ≡ false → with_line b p ws ≡ Some q → run b (at v rows p) (ws ∷ more)
    ≡ run b (at v rows q) more
taken v b rows p q ws more f e = rw f (rw e refl)

-- lines of one kind
abbrev One : {X : Type 0} → Board → (List X → Part) → (ℕ → X → Words) → (X → Type 0) → ℕ → Type 0
One {X} b with' words Good count =
    (done : List X) (x : X) → length done < count → Good x
    → (is_full (with' done) ≡ false)
    × (with_line b (with' done) (words (length done) x) ≡ Some (with' (done ++ x ∷ [])))

family : {X : Type 0} (v : Version) (b : Board) (rows : Table) (with' : List X → Part)
    (words : ℕ → X → Words)
    (Good : X → Type 0) (count : ℕ) → One b with' words Good count → (xs done : List X) (i : ℕ)
    → i ≡ length done → length done + length xs ≤ count → AllByRecursion Good xs
    → (more : List Words)
    → run b (at v rows (with' done)) (each_at words i xs ++ more)
    ≡ run b (at v rows (with' (done ++ xs))) more
family v b rows with' words Good count one [] done i e few all more =
    ap (λ d. run b (at v rows (with' d)) more) (sym (append-nil done))
family v b rows with' words Good count one (x ∷ xs) done i e few all more =
    let o = one done x (omega (arith, few)) all.0 in
    let n = one_longer done x in
    taken v b rows (with' done) (with' (done ++ x ∷ [])) (words i x)
    (each_at words (i + 1) xs ++ more) o.0
    (ap (λ (k : ℕ). with_line b (with' done) (words k x)) e ∙ o.1)
    ∙ family v b rows with' words Good count one xs (done ++ x ∷ []) (i + 1) (omega (arith, e, n))
    (omega (arith, few, n)) all.1 more
    ∙ ap (λ d. run b (at v rows (with' d)) more) (append_assoc done (x ∷ []) xs)

-- ---- what is left of a row

pub record Rest (v : Version) (b : Board) : Type 0 where
  pub board : IsBoard b
  pub set : Set
  pub rails : AreRails b set
  pub regs : List (Span × Source)
  pub known : AllByRecursion (IsKnown b) regs
  pub counters : List Span
  pub spans : AllByRecursion IsWordSpan counters
  pub lost : Span
  pub span : IsWordSpan lost
  pub ticks : Ticks
  pub numbers : AreTicks v ticks

-- lost arbitrations are said, or their line is left
abbrev pub LostLeft : Option Span → Span → List Words → Type 0
LostLeft said lost left =
    ((said ≡ Some lost) × (left ≡ [])) ⊎ ((said ≡ None) × (left ≡ lost_words lost ∷ []))

-- the counters and the last line
pub record HasAll (b : Board) (q : Part) (set : Set) : Type 0 where
  pub pages : length b.targets ≤ length q.pages
  pub protects : length b.targets ≤ length q.protects
  pub good : q.good ≡ Some set

one_counter : KnownOfNumbers → (b : Board) (q : Part) (set : Set) → HasAll b q set
    → length q.regs ≡ 8
    → One b (λ done. record q { counters = done }) counter_words IsWordSpan 4
unfolding with_line with_counter
one_counter laws b q set h n done x less good = (
  few_counters (length q.regs) (length done) q.lost less,
  rw (
    not_below _ _ h.pages,
    not_below _ _ h.protects,
    h.good,
    not_below (length q.regs) 8 (omega (arith, n)),
    below (length done) 4 less,
  ) (rw (counter_back laws (length done) x less good)
      refl),
)

-- the words of the last line
abbrev pub last_words : Version → Ticks → Words
last_words v ticks = ticks_words ticks.0 (factors v ticks.1 ticks.2)

last : KnownOfNumbers → (v : Version) (b : Board) (rows : Table) (q : Part) (set : Set)
    (lost : Span) (ticks : Ticks) → q.good ≡ Some set → q.lost ≡ Some lost
    → is_full q ≡ true → AreTicks v ticks → (more : List Words)
    → run b (at v rows q) (last_words v ticks ∷ more)
    ≡ run b (past v rows (row_from q set lost ticks)) more
unfolding finished
last laws v b rows q set lost ticks e l full t more =
    rw full (rw (e, l) (rw (ticks_back laws v ticks t) refl))

one_lost : KnownOfNumbers → (b : Board) (q : Part) (set : Set) (span : Span) → HasAll b q set
    → length q.regs ≡ 8 → length q.counters ≡ 4 → IsWordSpan span
    → with_line b q (lost_words span) ≡ Some (record q { lost = Some span })
unfolding with_line with_lost
one_lost laws b q set span h n m good =
    rw (
      not_below _ _ h.pages,
      not_below _ _ h.protects,
      h.good,
      not_below (length q.regs) 8 (omega (arith, n)),
      not_below (length q.counters) 4 (omega (arith, m)),
    ) (rw (lost_back laws span good) refl)

-- the line of lost arbitrations where it is left, and the last line
from_lost : KnownOfNumbers → (v : Version) (b : Board) (rows : Table) (rest : Rest v b) (q : Part)
    (left : List Words) → HasAll b q rest.set → length q.regs ≡ 8 → length q.counters ≡ 4
    → LostLeft q.lost rest.lost left → (more : List Words)
    → run b (at v rows q) (left ++ (last_words v rest.ticks ∷ more))
    ≡ run b (past v rows (row_from q rest.set rest.lost rest.ticks)) more
from_lost laws v b rows rest q left h n m (inl k) more =
    rw k.1 (last laws v b rows q rest.set rest.lost rest.ticks h.good k.0
    (all_there (length q.regs) (length q.counters) q.lost rest.lost n m k.0) rest.numbers more)
from_lost laws v b rows rest q left h n m (inr k) more =
    let r : Part = record q { lost = Some rest.lost } in
    rw k.1 (taken v b rows q r (lost_words rest.lost) (last_words v rest.ticks ∷ more)
    (none_lost (length q.regs) (length q.counters) q.lost n m k.0)
    (one_lost laws b q rest.set rest.lost h n m rest.span)
    ∙ last laws v b rows r rest.set rest.lost rest.ticks h.good refl
    (all_there (length q.regs) (length q.counters) (Some rest.lost) rest.lost n m refl)
    rest.numbers more)

from_counters : KnownOfNumbers → (v : Version) (b : Board) (rows : Table) (rest : Rest v b)
    (q : Part) (left : List Words) → HasAll b q rest.set → LostLeft q.lost rest.lost left
    → length q.regs ≡ 8 → length q.counters + length rest.counters ≡ 4 → (more : List Words)
    → run b (at v rows q) (each_at counter_words (length q.counters) rest.counters
    ++ (left ++ (last_words v rest.ticks ∷ more)))
    ≡ run b (past v rows (row_from (record q { counters = q.counters ++ rest.counters }) rest.set
    rest.lost rest.ticks)) more
from_counters laws v b rows rest q left h k n count more =
    let m = length-append q.counters rest.counters in
    family v b rows (λ done. record q { counters = done }) counter_words IsWordSpan 4
    (one_counter laws b q rest.set h n) rest.counters q.counters (length q.counters) refl
    (omega (arith, count)) rest.spans (left ++ (last_words v rest.ticks ∷ more))
    ∙ from_lost laws v b rows rest (record q { counters = q.counters ++ rest.counters }) left
    (record { pages = h.pages; protects = h.protects; good = h.good }) n (omega (arith, m, count))
    k more

one_register : KnownOfNumbers → (b : Board) (q : Part) (set : Set) → IsBoard b → HasAll b q set
    → One b (λ done. record q { regs = done }) (register_words b) (IsKnown b) 8
unfolding with_line with_register
one_register laws b q set board h done x less good = (
  few_regs (length done) (length q.counters) q.lost less,
  rw (not_below _ _ h.pages, not_below _ _ h.protects, h.good, below (length done) 8 less)
      (rw (register_back laws b (length done) x board less good) refl),
)

pub from_registers : KnownOfNumbers → (v : Version) (b : Board) (rows : Table) (rest : Rest v b)
    (q : Part) (left : List Words) → HasAll b q rest.set → LostLeft q.lost rest.lost left
    → length q.regs + length rest.regs ≡ 8 → length q.counters + length rest.counters ≡ 4
    → (more : List Words)
    → run b (at v rows q) (each_at (register_words b) (length q.regs) rest.regs
    ++ (each_at counter_words (length q.counters) rest.counters
    ++ (left ++ (last_words v rest.ticks ∷ more))))
    ≡ run b (past v rows (row_from (record q {
      regs = q.regs ++ rest.regs;
      counters = q.counters ++ rest.counters;
    }) rest.set rest.lost rest.ticks)) more
from_registers laws v b rows rest q left h k n count more =
    let m = length-append q.regs rest.regs in
    family v b rows (λ done. record q { regs = done }) (register_words b) (IsKnown b) 8
    (one_register laws b q rest.set rest.board h) rest.regs q.regs (length q.regs) refl
    (omega (arith, n)) rest.known (each_at counter_words (length q.counters) rest.counters
    ++ (left ++ (last_words v rest.ticks ∷ more)))
    ∙ from_counters laws v b rows rest (record q { regs = q.regs ++ rest.regs }) left
    (record { pages = h.pages; protects = h.protects; good = h.good }) k (omega (arith, m, n))
    count more

one_page : KnownOfNumbers → (b : Board) (q : Part) → IsBoard b → q.regs ≡ []
    → One b (λ done. record q { pages = done }) (page_words b) (IsByteSet is_page)
    (length b.targets)
unfolding with_line with_set
one_page laws b q board none done x less good =
    let names = board.target_names in (
      rw none refl,
      rw (below _ _ less)
          (rw (set_line_back laws is_page (codes "page") b (length done) x
          (omega (arith, less, names)) good) refl),
    )

one_protect : KnownOfNumbers → (b : Board) (q : Part) → IsBoard b → q.regs ≡ []
    → length b.targets ≤ length q.pages
    → One b (λ done. record q { protects = done }) (protect_words b) (IsByteSet is_protect)
    (length b.targets)
unfolding with_line with_set
one_protect laws b q board none pages done x less good =
    let names = board.target_names in (
      rw none refl,
      rw (not_below _ _ pages, below _ _ less)
          (rw (set_line_back laws is_protect (codes "protect") b (length done) x
          (omega (arith, less, names)) good) refl),
    )

one_good : (b : Board) (q : Part) (set : Set) → IsBoard b → AreRails b set
    → length b.targets ≤ length q.pages → length b.targets ≤ length q.protects → q.good ≡ None
    → with_line b q (good_words b set) ≡ Some (record q { good = Some set })
unfolding with_line with_good
one_good b q set board rails pages protects none =
    rw (not_below _ _ pages, not_below _ _ protects, none)
    (rw (good_back b set board rails) refl)

-- with the sets of a row
pub record Sets (b : Board) (q : Part) : Type 0 where
  pub pages : List Set
  pub page_count : length q.pages + length pages ≡ length b.targets
  pub page_sets : AllByRecursion (IsByteSet is_page) pages
  pub protects : List Set
  pub protect_count : length q.protects + length protects ≡ length b.targets
  pub protect_sets : AllByRecursion (IsByteSet is_protect) protects

pub from_pages : KnownOfNumbers
    → (v : Version) (b : Board) (rows : Table) (rest : Rest v b) (q : Part) (left : List Words)
    (sets : Sets b q) → LostLeft q.lost rest.lost left
    → q.good ≡ None → q.regs ≡ [] → q.counters ≡ [] → length rest.regs ≡ 8
    → length rest.counters ≡ 4 → (more : List Words)
    → run b (at v rows q) (each_at (page_words b) (length q.pages) sets.pages
    ++ (each_at (protect_words b) (length q.protects) sets.protects
    ++ (good_words b rest.set
    ∷ (each_at (register_words b) (length q.regs) rest.regs
    ++ (each_at counter_words (length q.counters) rest.counters
    ++ (left ++ (last_words v rest.ticks ∷ more)))))))
    ≡ run b (past v rows (row_from (record {
      pages = q.pages ++ sets.pages;
      protects = q.protects ++ sets.protects;
      good = Some rest.set;
      regs = q.regs ++ rest.regs;
      counters = q.counters ++ rest.counters;
      lost = q.lost;
    }) rest.set rest.lost rest.ticks)) more
from_pages laws v b rows rest q left sets k none no_regs no_counters n count more =
    let p1 : Part = record q { pages = q.pages ++ sets.pages } in
    let p2 : Part = record p1 { protects = q.protects ++ sets.protects } in
    let p3 : Part = record p2 { good = Some rest.set } in
    let c1 = length-append q.pages sets.pages in
    let c2 = length-append q.protects sets.protects in
    let e1 = sets.page_count in
    let e2 = sets.protect_count in
    let z1 = ap length no_regs in
    let z2 = ap length no_counters in
    let pages : length b.targets ≤ length p1.pages = omega (arith, c1, e1) in
    let protects : length b.targets ≤ length p2.protects = omega (arith, c2, e2) in
    family v b rows (λ done. record q { pages = done }) (page_words b) (IsByteSet is_page)
    (length b.targets) (one_page laws b q rest.board no_regs) sets.pages q.pages
    (length q.pages) refl
    (omega (arith, e1)) sets.page_sets _
    ∙ family v b rows (λ done. record p1 { protects = done }) (protect_words b)
    (IsByteSet is_protect) (length b.targets) (one_protect laws b p1 rest.board no_regs pages)
    sets.protects q.protects (length q.protects) refl (omega (arith, e2)) sets.protect_sets _
    ∙ taken v b rows p2 p3 (good_words b rest.set) _ (rw no_regs refl)
    (one_good b p2 rest.set rest.board rest.rails pages protects none)
    ∙ from_registers laws v b rows rest p3 left
    (record { pages = pages; protects = protects; good = refl }) k (omega (arith, z1, n))
    (omega (arith, z2, count)) more
