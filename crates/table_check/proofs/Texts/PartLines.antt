-- The lines of a row's part: what one line more makes of them.
use Rattle.std.proofs.Common.{◌≡◌, ℕ, ◌+◌, ◌<◌, ◌≤◌, ◌⊎◌, Bool, true, false, List, [], ◌∷◌}
use Rattle.std.proofs.Common.{◌++◌, length, map, Option, Some, None, IfSome, if◌then◌else◌, refl}
use Rattle.std.proofs.Common.{sym, ap, ◌∙◌, arith, inl, inr}
use Rattle.std.specs.Prelude.{zip}
use Rattle.std.specs.List.{AllByRecursion}
use Rattle.std.proofs.lemmas.List.{append_assoc, append-nil, length-append}
use Rattle.board.specs.Boards.{Board}
use Rattle.facts.specs.domain.Sets.{Set, is_page, is_protect}
use Rattle.facts.specs.declared.domain.source.Source.{Source}
use Rattle.facts.specs.declared.domain.span.Span.{Span}
use Rattle.table_check.specs.text.Lines.{Words, each_at, page_words, protect_words, good_words}
use Rattle.table_check.specs.declared.text.version.Version.{Version}
use Rattle.table_check.specs.declared.text.version.Version.TheVariants.{First, Second}
use Rattle.table_check.specs.text.Lines.{register_words, counter_words, lost_words}
use Rattle.table_check.specs.text.Writable.{IsWordSpan}
use Rattle.table_check.specs.text.Passes.{Part}
use Rattle.table_check.proofs.Texts.Spelled.{IsByteSet, AreRails}
use Rattle.table_check.proofs.Texts.SpelledRows.{IsKnown}

pub either : {X : Type 0} (t : Bool) (x y z : X) → (if t then x else y) ≡ z
    → ((t ≡ true) × (x ≡ z)) ⊎ ((t ≡ false) × (y ≡ z))
either true x y z e = inl (refl, e)
either false x y z e = inr (refl, e)

pub each_push : {X : Type 0} (P : X → Type 0) (xs : List X) (x : X) → AllByRecursion P xs → P x
    → AllByRecursion P (xs ++ x ∷ [])
each_push P [] x all one = (one, tt)
each_push P (y ∷ xs) x all one = (all.0, each_push P xs x all.1 one)

pub one_longer : {X : Type 0} (xs : List X) (x : X) → length (xs ++ x ∷ []) ≡ length xs + 1
one_longer xs x = length-append xs (x ∷ [])

each_more_at : {X : Type 0} (f : ℕ → X → Words) (i : ℕ) (xs : List X) (x : X)
    → each_at f i (xs ++ x ∷ []) ≡ each_at f i xs ++ f (i + length xs) x ∷ []
each_more_at f i [] x =
    let e : i ≡ i + 0 = omega arith in ap (λ (n : ℕ). f n x ∷ []) e
each_more_at f i (y ∷ xs) x =
    let e : i + 1 + length xs ≡ i + length (y ∷ xs) = omega arith in
    ap (λ (ls : List Words). f i y ∷ ls)
    (each_more_at f (i + 1) xs x ∙ ap (λ (n : ℕ). each_at f (i + 1) xs ++ f n x ∷ []) e)

pub each_more : {X : Type 0} (f : ℕ → X → Words) (xs : List X) (x : X)
    → each_at f 0 (xs ++ x ∷ []) ≡ each_at f 0 xs ++ f (length xs) x ∷ []
each_more f xs x =
    let e : 0 + length xs ≡ length xs = omega arith in
    each_more_at f 0 xs x ∙ ap (λ (n : ℕ). each_at f 0 xs ++ f n x ∷ []) e

abbrev pub good_lines : Board → Option Set → List Words
good_lines b None = []
good_lines b (Some set) = good_words b set ∷ []

-- the first form doesn't say what is lost
abbrev pub said_lost : Version → Option Span → List Words
said_lost First lost = []
said_lost Second None = []
said_lost Second (Some span) = lost_words span ∷ []

abbrev pub lines6 : Board → List Set → List Set → Option Set → List (Span × Source) → List Span
    → List Words → List Words
lines6 b pages protects good regs counters lost =
    each_at (page_words b) 0 pages
    ++ (each_at (protect_words b) 0 protects
    ++ (good_lines b good
    ++ (each_at (register_words b) 0 regs ++ (each_at counter_words 0 counters ++ lost))))

abbrev pub part_lines : Version → Board → Part → List Words
part_lines v b p =
    lines6 b p.pages p.protects p.good p.regs p.counters (said_lost v p.lost)

-- a line at the end of a list, behind another list
deep : (A X Y : List Words) (l : Words) → Y ≡ X ++ l ∷ [] → A ++ Y ≡ (A ++ X) ++ l ∷ []
deep A X Y l e = ap (λ (ls : List Words). A ++ ls) e ∙ sym (append_assoc A X (l ∷ []))

-- and before nothing
last_of : (X Y : List Words) (l : Words) → Y ≡ X ++ l ∷ [] → Y ++ [] ≡ (X ++ []) ++ l ∷ []
last_of X Y l e =
    append-nil Y ∙ e ∙ ap (λ (ls : List Words). ls ++ l ∷ []) (sym (append-nil X))

pub page_line : (b : Board) (pages : List Set) (S : Set) (protects : List Set) (good : Option Set)
    (regs : List (Span × Source)) (counters : List Span) (lost : List Words)
    → protects ≡ [] → good ≡ None → regs ≡ [] → counters ≡ [] → lost ≡ []
    → lines6 b (pages ++ S ∷ []) protects good regs counters lost
    ≡ lines6 b pages protects good regs counters lost ++ page_words b (length pages) S ∷ []
page_line b pages S protects good regs counters lost e1 e2 e3 e4 e5 =
    rw (e1, e2, e3, e4, e5) (last_of (each_at (page_words b) 0 pages) _ _
    (each_more (page_words b) pages S))

pub protect_line : (b : Board) (pages protects : List Set) (S : Set) (good : Option Set)
    (regs : List (Span × Source)) (counters : List Span) (lost : List Words)
    → good ≡ None → regs ≡ [] → counters ≡ [] → lost ≡ []
    → lines6 b pages (protects ++ S ∷ []) good regs counters lost
    ≡ lines6 b pages protects good regs counters lost ++ protect_words b (length protects) S ∷ []
protect_line b pages protects S good regs counters lost e2 e3 e4 e5 =
    rw (e2, e3, e4, e5) (deep (each_at (page_words b) 0 pages) _ _ _
    (last_of (each_at (protect_words b) 0 protects) _ _ (each_more (protect_words b) protects S)))

pub good_line : (b : Board) (pages protects : List Set) (S : Set) (good : Option Set)
    (regs : List (Span × Source)) (counters : List Span) (lost : List Words)
    → good ≡ None → regs ≡ [] → counters ≡ [] → lost ≡ []
    → lines6 b pages protects (Some S) regs counters lost
    ≡ lines6 b pages protects good regs counters lost ++ good_words b S ∷ []
good_line b pages protects S good regs counters lost e2 e3 e4 e5 =
    rw (e2, e3, e4, e5) (deep (each_at (page_words b) 0 pages) _ _ _
    (deep (each_at (protect_words b) 0 protects) [] _ (good_words b S) refl))

pub register_line : (b : Board) (pages protects : List Set) (good : Option Set)
    (regs : List (Span × Source)) (known : Span × Source) (counters : List Span)
    (lost : List Words) → counters ≡ [] → lost ≡ []
    → lines6 b pages protects good (regs ++ known ∷ []) counters lost
    ≡ lines6 b pages protects good regs counters lost ++ register_words b (length regs) known ∷ []
register_line b pages protects good regs known counters lost e4 e5 =
    rw (e4, e5) (deep (each_at (page_words b) 0 pages) _ _ _
    (deep (each_at (protect_words b) 0 protects) _ _ _ (deep (good_lines b good) _ _ _
    (last_of (each_at (register_words b) 0 regs) _ _ (each_more (register_words b) regs known)))))

pub counter_line : (b : Board) (pages protects : List Set) (good : Option Set)
    (regs : List (Span × Source)) (counters : List Span) (span : Span) (lost : List Words)
    → lost ≡ []
    → lines6 b pages protects good regs (counters ++ span ∷ []) lost
    ≡ lines6 b pages protects good regs counters lost ++ counter_words (length counters) span ∷ []
counter_line b pages protects good regs counters span lost e5 =
    rw e5 (deep (each_at (page_words b) 0 pages) _ _ _
    (deep (each_at (protect_words b) 0 protects) _ _ _ (deep (good_lines b good) _ _ _
    (deep (each_at (register_words b) 0 regs) _ _ _
    (last_of (each_at counter_words 0 counters) _ _ (each_more counter_words counters span))))))

pub lost_line : (b : Board) (pages protects : List Set) (good : Option Set)
    (regs : List (Span × Source)) (counters : List Span) (lost : List Words) (line : Words)
    → lost ≡ []
    → lines6 b pages protects good regs counters (line ∷ [])
    ≡ lines6 b pages protects good regs counters lost ++ line ∷ []
lost_line b pages protects good regs counters lost line e5 =
    rw e5 (deep (each_at (page_words b) 0 pages) _ _ _
    (deep (each_at (protect_words b) 0 protects) _ _ _ (deep (good_lines b good) _ _ _
    (deep (each_at (register_words b) 0 regs) _ _ _
    (deep (each_at counter_words 0 counters) [] _ line refl)))))

-- the last line of a row
pub zip_back : (regs : List (Span × Source))
    → zip (map (λ (k : Span × Source). k.0) regs) (map (λ (k : Span × Source). k.1) regs) ≡ regs
zip_back [] = refl
zip_back (k ∷ regs) = ap (λ (ks : List (Span × Source)). k ∷ ks) (zip_back regs)

pub ended : (b : Board) (A B R C L : List Words) (g t : Words)
    → (A ++ (B ++ (g ∷ (R ++ (C ++ L))))) ++ t ∷ []
    ≡ A ++ (B ++ (g ∷ (R ++ (C ++ (L ++ t ∷ [])))))
ended b A B R C L g t =
    append_assoc A (B ++ (g ∷ (R ++ (C ++ L)))) (t ∷ [])
    ∙ ap (λ (ls : List Words). A ++ ls) (append_assoc B (g ∷ (R ++ (C ++ L))) (t ∷ [])
    ∙ ap (λ (ls : List Words). B ++ (g ∷ ls)) (append_assoc R (C ++ L) (t ∷ [])
    ∙ ap (λ (ls : List Words). R ++ ls) (append_assoc C L (t ∷ []))))

-- ---- parts that keep to the order of the lines

-- in the first form there may be any number of lost arbitrations
abbrev pub IsAny : Version → Board → Option Span → Type 0
IsAny First b lost = lost ≡ Some record { lo = 0; hi = b.contentions }
IsAny Second b lost = Unit {0}

pub record GoodPart (v : Version) (b : Board) (p : Part) : Type 0 where
  pub pages : AllByRecursion (IsByteSet is_page) p.pages
  pub few_pages : length p.pages ≤ length b.targets
  pub protects : AllByRecursion (IsByteSet is_protect) p.protects
  pub few_protects : length p.protects ≤ length b.targets
  pub good : IfSome p.good (AreRails b)
  pub regs : AllByRecursion (IsKnown b) p.regs
  pub few_regs : length p.regs ≤ 8
  pub counters : AllByRecursion IsWordSpan p.counters
  pub few_counters : length p.counters ≤ 4
  pub after_pages : length p.pages < length b.targets → p.protects ≡ []
  pub after_protects : length p.protects < length b.targets → p.good ≡ None
  pub after_good : p.good ≡ None → p.regs ≡ []
  pub after_regs : length p.regs < 8 → p.counters ≡ []
  pub lost : IfSome p.lost IsWordSpan
  pub any : IsAny v b p.lost
  pub after_counters : length p.counters < 4 → said_lost v p.lost ≡ []

pub no_items : {X : Type 0} (xs : List X) (n : ℕ) → xs ≡ [] → 0 < n → length xs < n
no_items xs n e less = let z = ap length e in omega (arith, z, less)
