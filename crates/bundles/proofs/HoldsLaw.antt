-- Reading the parts one by one gives the holds that they name.
use Rattle.std.proofs.Common.{◌≡◌, ℕ, zero, suc, ◌+◌, ◌-◌, ◌≤◌, ◌<◌, inl, inr, Bool, true, false}
use Rattle.std.proofs.Common.{nat_lt, nat_le, ◌==◌, ◌&&◌, max, List, [], ◌∷◌, ◌++◌, length, map}
use Rattle.std.proofs.Common.{replicate, Option, Some, None, option_map, option_and_then}
use Rattle.std.proofs.Common.{if◌then◌else◌, refl, sym, ap, ◌∙◌, append_assoc, arith}
use Rattle.std.specs.List.{list_all, range_with_len}
use Rattle.std.proofs.lemmas.Bool.{cases_Bool, ltb-true, lt-ltb, leb-true, le-leb, and_parts}
use Rattle.std.proofs.lemmas.Bool.{eq-eqb, eqb-true}
use Rattle.std.proofs.lemmas.List.{append-nil, length-append, length-replicate}
use Rattle.bundles.specs.Holds.{hold_of, named_by, ascends, hold_at, slot_count, holds_named}
use Rattle.bundles.specs.HoldsRead.{with_hold, holds_from}

abbrev Hold : Type 0
Hold = ℕ × ℕ

abbrev are_above : ℕ → List Hold → Bool
are_above slot named = list_all (λ (hold : Hold). nat_lt slot hold.0) named

abbrev are_from : ℕ → List Hold → Bool
are_from slot named = list_all (λ (hold : Hold). nat_le slot hold.0) named

-- ---- the hold of a slot

not_equal : (a b : ℕ) → (a ≡ b → ⊥) → (a == b) ≡ false
not_equal a b apart =
    elim (cases_Bool (a == b)) [ inl same ↦ absurd (apart (eqb-true a b same)) | inr other ↦ other ]

at_itself : (h : Hold) (named : List Hold) → hold_at (h ∷ named) h.0 ≡ h.1
at_itself h named = rw (eq-eqb h.0 h.0 refl) refl

past_first : (h : Hold) (named : List Hold) (slot : ℕ) → (h.0 == slot) ≡ false
    → hold_at (h ∷ named) slot ≡ hold_at named slot
past_first h named slot apart = rw apart refl

below_all : (slot : ℕ) (named : List Hold) → are_above slot named ≡ true → hold_at named slot ≡ 0
below_all slot [] a = refl
below_all slot (h ∷ named) a =
    let p = and_parts (nat_lt slot h.0) (are_above slot named) a in
    let less = ltb-true slot h.0 p.0 in
    past_first h named slot (not_equal h.0 slot (λ e. omega (arith, less, e)))
    ∙ below_all slot named p.1

all_above : (low high : ℕ) (named : List Hold) → low ≤ high → are_above high named ≡ true
    → are_above low named ≡ true
all_above low high [] less a = refl
all_above low high (h ∷ named) less a =
    let p = and_parts (nat_lt high h.0) (are_above high named) a in
    let l = ltb-true high h.0 p.0 in
    rw (lt-ltb low h.0 (omega (arith, l, less)), all_above low high named less p.1) refl

-- ---- the holds of the slots from one on

abbrev holds_between : List Hold → ℕ → ℕ → List ℕ
holds_between named from count = map (hold_at named) (range_with_len from count)

abbrev holds_onward : ℕ → List Hold → List ℕ
holds_onward from named = holds_between named from (slot_count named - from)

between_zeros : (h : Hold) (named : List Hold) (from count : ℕ) → from + count ≤ h.0
    → are_above h.0 named ≡ true → holds_between (h ∷ named) from count ≡ replicate count 0
between_zeros h named from zero less a = refl
between_zeros h named from (suc count) less a =
    let first : hold_at (h ∷ named) from ≡ 0 =
    past_first h named from (not_equal h.0 from (λ e. omega (arith, less, e)))
    ∙ below_all from named (all_above from h.0 named (omega (arith, less)) a) in
    rw (first, between_zeros h named (from + 1) count (omega (arith, less)) a) refl

behind : (h : Hold) (named : List Hold) (from count : ℕ) → h.0 < from
    → holds_between (h ∷ named) from count ≡ holds_between named from count
behind h named from zero less = refl
behind h named from (suc count) less =
    rw (
      past_first h named from (not_equal h.0 from (λ e. omega (arith, less, e))),
      behind h named (from + 1) count (omega (arith, less)),
    ) refl

parted : (named : List Hold) (from first later : ℕ)
    → holds_between named from (first + later)
    ≡ holds_between named from first ++ holds_between named (from + first) later
parted named from zero later =
    let e : from + 0 ≡ from = omega arith in
    let f : 0 + later ≡ later = omega arith in
    rw (e, f) refl
parted named from (suc first) later =
    let e : suc first + later ≡ suc (first + later) = omega arith in
    let f : from + 1 + first ≡ from + suc first = omega arith in
    rw e (ap (λ (xs : List ℕ). hold_at named from ∷ xs) (parted named (from + 1) first later
    ∙ ap (λ (n : ℕ). holds_between named (from + 1) first ++ holds_between named n later) f))

from_itself : (h : Hold) (named : List Hold) (count : ℕ)
    → holds_between (h ∷ named) h.0 (suc count) ≡ h.1 ∷ holds_between named (h.0 + 1) count
from_itself h named count =
    ap (λ (n : ℕ). n ∷ holds_between (h ∷ named) (h.0 + 1) count) (at_itself h named)
    ∙ ap (λ (xs : List ℕ). h.1 ∷ xs) (behind h named (h.0 + 1) count (omega arith))

onward_first : (from : ℕ) (h : Hold) (named : List Hold) → from ≤ h.0 → are_above h.0 named ≡ true
    → holds_onward from (h ∷ named) ≡ replicate (h.0 - from) 0 ++ h.1 ∷ holds_onward (h.0 + 1) named
onward_first from h named less a =
    let last : ℕ = slot_count named - (h.0 + 1) in
    let count : max (h.0 + 1) (slot_count named) - from
    ≡ (h.0 - from) + suc (slot_count named - (h.0 + 1)) = omega (arith, less) in
    let seam : from + (h.0 - from) ≡ h.0 = omega (arith, less) in
    ap (holds_between (h ∷ named) from) count
    ∙ parted (h ∷ named) from (h.0 - from) (suc last)
    ∙ ap (λ (xs : List ℕ). xs ++ holds_between (h ∷ named) (from + (h.0 - from)) (suc last))
    (between_zeros h named from (h.0 - from) (omega (arith, less)) a)
    ∙ ap (λ (n : ℕ). replicate (h.0 - from) 0 ++ holds_between (h ∷ named) n (suc last)) seam
    ∙ ap (λ (xs : List ℕ). replicate (h.0 - from) 0 ++ xs) (from_itself h named last)

-- ---- reading on, after some holds

abbrev with_named : List ℕ → List Hold → Option (List ℕ)
with_named done named =
    if ascends named && are_from (length done) named
    then Some (done ++ holds_onward (length done) named) else None

from_above : (slot next : ℕ) (named : List Hold) → next ≡ suc slot
    → are_from next named ≡ are_above slot named
from_above slot next named e = rw e refl

from_less : (low high : ℕ) (named : List Hold) → low ≤ high → are_above high named ≡ true
    → are_from low named ≡ true
from_less low high [] less a = refl
from_less low high (h ∷ named) less a =
    let p = and_parts (nat_lt high h.0) (are_above high named) a in
    let l = ltb-true high h.0 p.0 in
    rw (le-leb low h.0 (omega (arith, l, less)), from_less low high named less p.1) refl

abbrev longer : List ℕ → Hold → List ℕ
longer done h = done ++ replicate (h.0 - length done) 0 ++ h.1 ∷ []

length-longer : (done : List ℕ) (h : Hold) → length done ≤ h.0 → length (longer done h) ≡ suc h.0
length-longer done h less =
    let sum : length done + (h.0 - length done) + 1 ≡ suc h.0 = omega (arith, less) in
    length-append (done ++ replicate (h.0 - length done) 0) (h.1 ∷ [])
    ∙ ap (λ (n : ℕ). n + 1) (length-append done (replicate (h.0 - length done) 0)
    ∙ ap (λ (n : ℕ). length done + n) (length-replicate (h.0 - length done) 0)) ∙ sum

same_choice : (ascending above here from : Bool) (xs ys : List ℕ) → here ≡ true
    → (above ≡ true → (from ≡ true) × (xs ≡ ys))
    → (if ascending && above then Some xs else None)
    ≡ (if (above && ascending) && (here && from) then Some ys else None)
same_choice true true here from xs ys h held = rw (h, (held refl).0) (ap Some (held refl).1)
same_choice false true here from xs ys h held = refl
same_choice true false here from xs ys h held = refl
same_choice false false here from xs ys h held = refl

-- a hold more that stands behind those that are read
one_more : (done : List ℕ) (h : Hold) (named : List Hold) → length done ≤ h.0
    → with_named (longer done h) named ≡ with_named done (h ∷ named)
one_more done h named less =
    let size : length (longer done h) ≡ suc h.0 = length-longer done h less in
    let next : suc h.0 ≡ h.0 + 1 = omega arith in
    ap (λ (b : Bool). if ascends named && b
    then Some (longer done h ++ holds_onward (length (longer done h)) named) else None)
    (from_above h.0 (length (longer done h)) named size)
    ∙ same_choice (ascends named) (are_above h.0 named) (nat_le (length done) h.0)
    (are_from (length done) named) (longer done h ++ holds_onward (length (longer done h)) named)
    (done ++ holds_onward (length done) (h ∷ named)) (le-leb (length done) h.0 less)
    (λ a. (
      from_less (length done) h.0 named less a,
      ap (λ (n : ℕ). longer done h ++ holds_onward n named) (size ∙ next)
          ∙ append_assoc (done ++ replicate (h.0 - length done) 0) (h.1 ∷ [])
          (holds_onward (h.0 + 1) named)
          ∙ append_assoc done (replicate (h.0 - length done) 0) (h.1 ∷ holds_onward (h.0 + 1) named)
          ∙ ap (λ (xs : List ℕ). done ++ xs) (sym (onward_first (length done) h named less a)),
    ))

-- a hold whose slot is read already
one_behind : (done : List ℕ) (h : Hold) (named : List Hold) → nat_le (length done) h.0 ≡ false
    → with_named done (h ∷ named) ≡ None
one_behind done h named f = rw f (never (ascends (h ∷ named)))
  where
    never : (b : Bool)
        → (if b && false then Some (done ++ holds_onward (length done) (h ∷ named)) else None)
        ≡ None
    never true = refl
    never false = refl

after_part : (done : List ℕ) (o : Option Hold) (later : List (List ℕ))
    → ((more : List ℕ) → holds_from more later ≡ option_and_then (with_named more) (named_by later))
    → option_and_then (λ holds. holds_from holds later) (option_and_then (with_hold done) o)
    ≡ option_and_then (with_named done)
    (option_and_then (λ hold. option_map (λ named. hold ∷ named) (named_by later)) o)
after_part done None later below = refl
after_part done (Some h) later below = elim (cases_Bool (nat_le (length done) h.0)) [
  | inl t ↦ rw t (below (longer done h) ∙ joined (named_by later) (leb-true (length done) h.0 t))
  | inr f ↦ rw f (sym (refused (named_by later) f))
]
  where
    joined : (o : Option (List Hold)) → length done ≤ h.0
        → option_and_then (with_named (longer done h)) o
        ≡ option_and_then (with_named done) (option_map (λ named. h ∷ named) o)
    joined None less = refl
    joined (Some named) less = one_more done h named less

    refused : (o : Option (List Hold)) → nat_le (length done) h.0 ≡ false
        → option_and_then (with_named done) (option_map (λ named. h ∷ named) o) ≡ None
    refused None f = refl
    refused (Some named) f = one_behind done h named f

from_done : (done : List ℕ) (parts : List (List ℕ))
    → holds_from done parts ≡ option_and_then (with_named done) (named_by parts)
unfolding holds_from
from_done done [] =
    let none : 0 - length done ≡ 0 = omega arith in
    rw none (ap Some (sym (append-nil done)))
from_done done (part ∷ later) = after_part done (hold_of part) later (λ more. from_done more later)

all_from : (named : List Hold) → are_from 0 named ≡ true
all_from [] = refl
all_from (h ∷ named) = rw (le-leb 0 h.0 (omega arith)) (all_from named)

-- whatever the parts
pub holds_from_named : (parts : List (List ℕ))
    → holds_from [] parts ≡ option_and_then holds_named (named_by parts)
holds_from_named parts = from_done [] parts ∙ whole (named_by parts)
  where
    whole : (o : Option (List Hold))
        → option_and_then (with_named []) o ≡ option_and_then holds_named o
    whole None = refl
    whole (Some named) =
        let all : slot_count named - 0 ≡ slot_count named = omega arith in
        rw (all_from named, all) (all_when (ascends named))
      where
        all_when : (b : Bool)
            → (if b && true then Some (holds_between named 0 (slot_count named)) else None)
            ≡ (if b then Some (holds_between named 0 (slot_count named)) else None)
        all_when true = refl
        all_when false = refl
