-- One more line of a bundle, below the lines above it.
use Rattle.std.proofs.Common.{◌≡◌, ℕ, suc, ◌+◌, ◌<◌, ◌++◌, Bool, true, false, not, List}
use Rattle.std.proofs.Common.{[]}
use Rattle.std.proofs.Common.{◌∷◌, length, take, drop, find, count_by, get_or, Option, Some, sym}
use Rattle.std.proofs.Common.{ap}
use Rattle.std.proofs.Common.{subst, ◌∙◌, length-drop, inl, inr, arith, add-one}
use Rattle.std.specs.Prelude.{slice_get, All}
use Rattle.std.specs.List.{enumerate_from}
use Rattle.std.proofs.Math.Seq.{drop-cons, take-add}
use Rattle.std.proofs.lemmas.List.Elements.{All-append, All-cons, All-nil}
use Rattle.std.proofs.lemmas.List.Sums.{count_by_more_yes, count_by_more_no}
use Rattle.std.proofs.lemmas.Option.{slice_get_cases}
use Rattle.bundles.specs.declared.command.Header.{Header}
use Rattle.bundles.specs.Bundles.{Line, starts_section, is_header, belongs, is_unexpected}

-- the line of a place, and those below it
pub record StandsAt (all : List Line) (place : ℕ) (line : Line) (below : List Line) : Type 0 where
  pub within : place < length all
  pub at : get_or all place [] ≡ line
  pub below_it : below ≡ drop (place + 1) all
  pub with_it : take (place + 1) all ≡ take place all ++ line ∷ []

pub stands_at : (all : List Line) (place : ℕ) (line : Line) (below : List Line)
    → line ∷ below ≡ drop place all → StandsAt all place line below
stands_at all place line below e =
    let within : place < length all =
    omega (arith, ap length e, length-drop place all) in
    let cut : line ∷ below ≡ get_or all place [] ∷ drop (suc place) all =
    e ∙ drop-cons all place [] within in
    record {
      within = within;
      at = cc (cut);
      below_it = rw (add-one place) (cc (cut));
      with_it =
          take-add place 1 all
          ∙ ap (λ (left : List Line). take place all ++ take 1 left) (sym e);
    }

find_skip : {X : Type 0} (p : X → Bool) (x : X) (xs : List X) → p x ≡ false
    → find p (x ∷ xs) ≡ find p xs
find_skip p x xs e = rw e

find_here : {X : Type 0} (p : X → Bool) (x : X) (xs : List X) → p x ≡ true
    → find p (x ∷ xs) ≡ Some x
find_here p x xs e = rw e

-- a line that belongs where it stands is passed
pub find_next : (headers : List Header) (all : List Line) (place above : ℕ) (line : Line)
    (below : List Line) → above ≡ count_by starts_section (take place all)
    → belongs headers above line ≡ true
    → find (is_unexpected headers all) (enumerate_from (place + 1) below)
    ≡ find (is_unexpected headers all) (enumerate_from place (line ∷ below))
find_next headers all place above line below e t =
    let fits : is_unexpected headers all (place, line) ≡ false =
    ap not (subst (λ (n : ℕ). belongs headers n line ≡ true) e t) in
    sym
    (find_skip (is_unexpected headers all) (place, line) (enumerate_from (place + 1) below) fits)

-- the first that doesn't is found
pub find_first : (headers : List Header) (all : List Line) (place above : ℕ) (line : Line)
    (below : List Line) → above ≡ count_by starts_section (take place all)
    → belongs headers above line ≡ false
    → find (is_unexpected headers all) (enumerate_from place (line ∷ below)) ≡ Some (place, line)
find_first headers all place above line below e t =
    let unfit : is_unexpected headers all (place, line) ≡ true =
    ap not (subst (λ (n : ℕ). belongs headers n line ≡ false) e t) in
    find_here (is_unexpected headers all) (place, line) (enumerate_from (place + 1) below) unfit

pub count_header : (all : List Line) (place above : ℕ) (line : Line) (below : List Line)
    → line ∷ below ≡ drop place all → above ≡ count_by starts_section (take place all)
    → starts_section line ≡ true → above + 1 ≡ count_by starts_section (take (place + 1) all)
count_header all place above line below s e t =
    let here = stands_at all place line below s in
    rw (count_by_more_yes starts_section all place [] here.within (ap starts_section here.at ∙ t))
    (ap (λ (n : ℕ). n + 1) e)

pub count_other : (all : List Line) (place above : ℕ) (line : Line) (below : List Line)
    → line ∷ below ≡ drop place all → above ≡ count_by starts_section (take place all)
    → starts_section line ≡ false → above ≡ count_by starts_section (take (place + 1) all)
count_other all place above line below s e t =
    let here = stands_at all place line below s in
    rw (count_by_more_no starts_section all place [] here.within (ap starts_section here.at ∙ t)) e

-- a header that belongs is one of the command's
pub header_is_left : (headers : List Header) (above : ℕ) (line : Line)
    → belongs headers above line ≡ true → starts_section line ≡ true → above < length headers
header_is_left headers above line b t =
    let h : is_header (slice_get headers above) line ≡ true = rw t at b in
    elim (slice_get_cases headers above).1 [
      | inl found ↦ found.1
      | inr past ↦
          let z : false ≡ true = ap (λ (o : Option Header). is_header o line) (sym past.1) ∙ h in
          absurd (cc)
    ]

-- no header stands among the lines of a part
pub passes_other : (all : List Line) (place : ℕ) (line : Line) (below : List Line)
    → line ∷ below ≡ drop place all → All (λ l. starts_section l ≡ false) (take place all)
    → starts_section line ≡ false → All (λ l. starts_section l ≡ false) (take (place + 1) all)
passes_other all place line below s none plain =
    rw (stands_at all place line below s).with_it
    (All-append (λ l. starts_section l ≡ false) (take place all) (line ∷ []) none
    (All-cons (λ l. starts_section l ≡ false) line [] plain
    (All-nil (λ l. starts_section l ≡ false))))
