-- Slots with their holds, by place, and what makes them a plan.
use Rattle.std.proofs.Common.{◌≡◌, ◌≢◌, ℕ, zero, suc, ◌+◌, ◌<◌, ◌≤◌, Bool, true, false, not, nat_le}
use Rattle.std.proofs.Common.{Some, List, [], ◌∷◌, ◌++◌, take, drop, length, get_or, slice_get, min}
use Rattle.std.proofs.Common.{IsTrue, refl, sym, ap, subst, ◌∙◌, arith}
use Rattle.std.specs.List.{AllByRecursion}
use Rattle.std.proofs.lemmas.Bool.{and_parts, le-leb, leb-true}
use Rattle.std.proofs.lemmas.List.{take_all, take_min}
use Rattle.std.proofs.lemmas.List.Elements.{recursion_from_All, All-from_recursion}
use Rattle.bit_bus.specs.declared.plan.Slot.{Slot}
use Rattle.bit_bus.specs.declared.plan.Slot.TheVariants.{Bit, Again, End}
use Rattle.bit_bus.specs.Planned.{planned, ends_frame, are_inside, are_short, slots_in, EndsOnce}
use Rattle.bit_bus.specs.Planned.{IsPlan}
use Rattle.bit_bus.specs.PlannedSlots.{HoldsAreKept}

pub length-planned : (slots : List Slot) (holds : List ℕ)
    → length (planned slots holds) ≡ length slots
length-planned [] holds = refl
length-planned (s ∷ slots) [] = ap suc (length-planned slots [])
length-planned (s ∷ slots) (h ∷ holds) = ap suc (length-planned slots holds)

pub planned_at : (slots : List Slot) (holds : List ℕ) (i : ℕ) (d : Slot) (hold : ℕ)
    → i < length slots → hold ≡ get_or holds i 0
    → slice_get (planned slots holds) i ≡ Some (get_or slots i d, hold)
planned_at [] holds i d hold lt e = absurd (omega arith)
planned_at (s ∷ slots) [] zero d hold lt e = rw e refl
planned_at (s ∷ slots) [] (suc i) d hold lt e = planned_at slots [] i d hold (omega arith) e
planned_at (s ∷ slots) (h ∷ holds) zero d hold lt e = rw e refl
planned_at (s ∷ slots) (h ∷ holds) (suc i) d hold lt e =
    planned_at slots holds i d hold (omega arith) e

pub drop_from_get : {X : Type 0} → (xs : List X) (i : ℕ) (x : X) → slice_get xs i ≡ Some x
    → drop i xs ≡ x ∷ drop (i + 1) xs
drop_from_get [] i x e = cc
drop_from_get (y ∷ xs) zero x e = let e' : y ≡ x = cc in ap (λ z. z ∷ xs) e'
drop_from_get (y ∷ xs) (suc i) x e =
    let k : suc i + 1 ≡ suc (i + 1) = omega arith in
    rw k (drop_from_get xs i x e)

-- the STOP stands last, and nowhere else

is_stop : (s : Slot) → ends_frame s ≡ true → s ≡ End
is_stop (Bit x) e = cc
is_stop Again e = cc
is_stop End e = refl

is_other : (s : Slot) → s ≢ End → ends_frame s ≡ false
is_other (Bit x) ne = refl
is_other Again ne = refl
is_other End ne = absurd (ne refl)

other_is : (s : Slot) → ends_frame s ≡ false → s ≢ End
other_is s e is = let f : true ≡ false = rw is at e in cc

not_true : (b : Bool) → not b ≡ true → b ≡ false
not_true true e = cc
not_true false e = refl

pub slots_in-planned : (slots : List Slot) (holds : List ℕ) → slots_in (planned slots holds) ≡ slots
slots_in-planned [] holds = refl
slots_in-planned (s ∷ slots) [] = ap (λ (l : List Slot). s ∷ l) (slots_in-planned slots [])
slots_in-planned (s ∷ slots) (h ∷ holds) =
    ap (λ (l : List Slot). s ∷ l) (slots_in-planned slots holds)

pub ends_more : (s : Slot) (slots : List Slot) → s ≢ End → EndsOnce slots → EndsOnce (s ∷ slots)
ends_more s [] ne once = absurd once
ends_more s (t ∷ slots) ne once = (ne, once)

ends_once : (inside : List Slot) (last : Slot) → are_inside inside ≡ true → ends_frame last ≡ true
    → EndsOnce (inside ++ last ∷ [])
ends_once [] last all e = is_stop last e
ends_once (s ∷ inside) last all e =
    let p = and_parts (not (ends_frame s)) (are_inside inside) all in
    ends_more s (inside ++ last ∷ []) (other_is s (not_true (ends_frame s) p.0))
    (ends_once inside last p.1 e)

once_ends : (inside : List Slot) (last : Slot) → EndsOnce (inside ++ last ∷ [])
    → (are_inside inside ≡ true) × (ends_frame last ≡ true)
once_ends [] last once = (refl, rw once refl)
once_ends (s ∷ []) last once = (rw (is_other s once.0) refl, rw once.1 refl)
once_ends (s ∷ t ∷ inside) last once =
    let r = once_ends (t ∷ inside) last once.1 in
    (rw (is_other s once.0) r.0, r.1)

-- no hold of a slot is too long

abbrev IsShort : Slot × ℕ → Type 0
IsShort s = s.1 ≤ 6999

short_holds : (slots : List Slot) (holds : List ℕ) → are_short (take (length slots) holds) ≡ true
    → AllByRecursion IsShort (planned slots holds)
short_holds [] holds e = tt
short_holds (s ∷ slots) [] e = (
  omega arith,
  short_holds slots []
      (rw (take_all (length slots) (let none : List ℕ = [] in none) (omega arith)) refl),
)
short_holds (s ∷ slots) (h ∷ holds) e =
    let p = and_parts (nat_le h 6999) (are_short (take (length slots) holds)) e in
    (leb-true h 6999 p.0, short_holds slots holds p.1)

holds_short : (slots : List Slot) (holds : List ℕ) → AllByRecursion IsShort (planned slots holds)
    → are_short (take (length slots) holds) ≡ true
holds_short [] holds small = refl
holds_short (s ∷ slots) [] small = refl
holds_short (s ∷ slots) (h ∷ holds) small =
    rw (le-leb h 6999 small.0) (holds_short slots holds small.1)

planned_holds : (longest : ℕ) (slots : List Slot) (holds : List ℕ)
    → AllByRecursion (λ h. h ≤ longest) holds
    → AllByRecursion (λ (s : Slot × ℕ). s.1 ≤ longest) (planned slots holds)
planned_holds longest [] holds h = tt
planned_holds longest (s ∷ slots) [] h = (omega arith, planned_holds longest slots [] tt)
planned_holds longest (s ∷ slots) (k ∷ holds) h = (h.0, planned_holds longest slots holds h.1)

pub holds_are_kept : HoldsAreKept
holds_are_kept longest slots holds h =
    All-from_recursion (λ (s : Slot × ℕ). s.1 ≤ longest) (planned slots holds)
    (planned_holds longest slots holds (recursion_from_All (λ h. h ≤ longest) holds h))

-- what the code tries

abbrev pub Iff : Bool → Type 0 → Type 0
Iff b P = (IsTrue b → P) × (P → IsTrue b)

pub once_none : (slots : List Slot) → length slots ≡ 0 → Iff false (EndsOnce slots)
once_none [] e = (λ h. cc, λ once. absurd once)
once_none (s ∷ slots) e = absurd (omega arith)

pub once_inside : (slots inside : List Slot) (last : Slot) (b : Bool) → slots ≡ inside ++ last ∷ []
    → true ≡ ends_frame last → b ≡ are_inside inside → Iff b (EndsOnce slots)
once_inside slots inside last b is stop e = (
  λ t. subst EndsOnce (sym is) (ends_once inside last (sym e ∙ t) (sym stop)),
  λ once. e ∙ (once_ends inside last (subst EndsOnce is once)).0,
)

pub once_not : (slots inside : List Slot) (last : Slot) (b : Bool) → slots ≡ inside ++ last ∷ []
    → b ≡ false → b ≡ ends_frame last → Iff b (EndsOnce slots)
once_not slots inside last b is no_stop e = (
  λ t. let x : true ≡ false = sym t ∙ no_stop in cc,
  λ once. e ∙ (once_ends inside last (subst EndsOnce is once)).1,
)

pub too_many : (slots : List Slot) (holds : List ℕ) → 4096 < length slots
    → Iff false (IsPlan (planned slots holds))
too_many slots holds many = (
  λ h. cc,
  λ plan.
      let few : length (planned slots holds) ≤ 4096 = plan.few in
      let l = length-planned slots holds in
      absurd (omega arith),
)

counted : (slots : List Slot) (holds : List ℕ)
    → take (min (length holds) (length slots)) holds ≡ take (length slots) holds
counted slots holds =
    let order : min (length holds) (length slots) ≡ min (length slots) (length holds) =
    omega arith in
    rw order (take_min (length slots) holds)

pub plan_short : (slots : List Slot) (holds : List ℕ) (n : ℕ) (b : Bool) → length slots ≤ 4096
    → EndsOnce slots → n ≡ min (length holds) (length slots) → b ≡ are_short (take n holds)
    → Iff b (IsPlan (planned slots holds))
plan_short slots holds n b few once en e =
    let l = length-planned slots holds in
    let eb : b ≡ are_short (take (length slots) holds) =
    e ∙ ap (λ (k : ℕ). are_short (take k holds)) en ∙ ap are_short (counted slots holds) in (
      λ t. record {
        few = omega arith;
        ends = subst EndsOnce (sym (slots_in-planned slots holds)) once;
        holds =
            All-from_recursion IsShort (planned slots holds) (short_holds slots holds (sym eb ∙ t));
      },
      λ plan. eb
          ∙ holds_short slots holds (recursion_from_All IsShort (planned slots holds) plan.holds),
    )

pub not_once : (slots : List Slot) (holds : List ℕ) (b : Bool) → b ≡ false
    → (EndsOnce slots → IsTrue b) → Iff b (IsPlan (planned slots holds))
not_once slots holds b f h = (
  λ t.
      let x : true ≡ false = sym t ∙ f in
      cc,
  λ plan. h (subst EndsOnce (slots_in-planned slots holds) plan.ends),
)
