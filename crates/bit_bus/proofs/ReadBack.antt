-- The levels of slots are read as their words, and leave both lines high.
use Rattle.std.proofs.Common.{◌≡◌, ℕ, zero, suc, ◌+◌, ◌-◌, inl, inr, Bool, true, false, List, []}
use Rattle.std.proofs.Common.{◌∷◌, ◌++◌, refl, ap, ◌∙◌, append_assoc, add-one}
use Rattle.std.proofs.lemmas.Bool.{cases_Bool}
use Rattle.std.proofs.lemmas.List.{append-nil}
use Rattle.wires.specs.declared.lines.Sample.{Sample}
use Rattle.wires.specs.declared.event.Event.{Event}
use Rattle.wires.specs.declared.event.Event.TheVariants.{Start, Stop, Rise}
use Rattle.wires.specs.Events.{change, events_after}
use Rattle.bit_bus.specs.declared.plan.Slot.{Slot}
use Rattle.bit_bus.specs.declared.plan.Slot.TheVariants.{Bit, Again, End}
use Rattle.bit_bus.specs.Planned.{slots_in, EndsOnce}
use Rattle.bit_bus.specs.Levels.{level, low_run, is_cut, data_of, whole_levels, cut_levels}
use Rattle.bit_bus.specs.Levels.{slot_levels, EndsHigh}
use Rattle.bit_bus.specs.Word.{slot_word, slot_words, ReadsBack, LeavesBusFree}

-- while SCL is low the level of SDA doesn't matter
low_change : (scl x y after : Bool) → change false scl x after ≡ change false scl y after
low_change true x y after = refl
low_change false x y after = refl

low_forgets : (a x y : Bool) (later : List Sample)
    → events_after (level a false x) later ≡ events_after (level a false y) later
low_forgets a x y [] = refl
low_forgets a x y (t ∷ later) =
    ap (λ (es : List Event). es ++ events_after t later) (low_change t.scl x y t.sda)

low_silent : (a x y : Bool) (n : ℕ) (later : List Sample)
    → events_after (level a false x) (low_run a y n ++ later)
    ≡ events_after (level a false false) later
unfolding low_run
low_silent a x y zero later = low_forgets a x false later
low_silent a x y (suc n) later = low_silent a y y n later

falls_silent : (b d a y : Bool) (n : ℕ) (later : List Sample)
    → events_after (level b true d) (low_run a y (n + 1) ++ later)
    ≡ events_after (level a false false) later
unfolding low_run
falls_silent b d a y n later = rw add-one (low_silent a y y n later)

-- the level that a slot leaves on SDA
abbrev left_by : Slot → Bool
left_by (Bit x) = x
left_by Again = false
left_by End = true

whole_read : (b d a : Bool) (s : Slot) (hold : ℕ) (later : List Sample)
    → events_after (level b true d) (whole_levels a s hold ++ later)
    ≡ slot_word s ++ events_after (level a true (left_by s)) later
whole_read b d a (Bit x) hold later = rw (append_assoc, falls_silent b d a x hold) refl
whole_read b d a Again hold later = rw (append_assoc, falls_silent b d a true hold) refl
whole_read b d a End hold later = rw (append_assoc, falls_silent b d a false hold) refl

cut_read : (b d a : Bool) (s : Slot) (hold : ℕ)
    → events_after (level b true d) (cut_levels a s hold) ≡ Rise false ∷ Stop ∷ []
cut_read b d a s hold =
    rw (append_assoc, falls_silent b d a (data_of s) 4999, low_silent a false false) refl

words : (b d a : Bool) (plan : List (Slot × ℕ))
    → events_after (level b true d) (slot_levels a plan) ≡ slot_words plan
words b d a [] = refl
words b d a (s ∷ later) = elim (cases_Bool (is_cut s.1)) [
  | inl t ↦ rw t (cut_read b d a s.0 s.1)
  | inr f ↦
      rw f (whole_read b d a s.0 s.1 (slot_levels a later)
      ∙ ap (λ (es : List Event). slot_word s.0 ++ es) (words a (left_by s.0) a later))
]

pub reads_back : ReadsBack
reads_back before alert plan = ap (λ (es : List Event). Start ∷ es) (words alert false alert plan)

-- the last sample

ends_later : (xs ys : List Sample) → EndsHigh ys → EndsHigh (xs ++ ys)
ends_later [] ys h = h
ends_later (x ∷ []) [] h = absurd h
ends_later (x ∷ []) (y ∷ ys) h = h
ends_later (x ∷ y ∷ xs) ys h = ends_later (y ∷ xs) ys h

cut_ends : (a : Bool) (s : Slot) (hold : ℕ) → EndsHigh (cut_levels a s hold)
cut_ends a s hold =
    ends_later (low_run a (data_of s) 5000 ++ low_run a false (hold + 1 - 5000))
    (level a true false ∷ level a true true ∷ []) (refl, refl)

last_ends : (a : Bool) (s : Slot) (hold : ℕ) → s ≡ End → EndsHigh (whole_levels a s hold ++ [])
last_ends a s hold e =
    rw (e, append-nil) (ends_later (low_run a false (hold + 1))
    (level a true false ∷ level a true true ∷ []) (refl, refl))

ends : (a : Bool) (plan : List (Slot × ℕ)) → EndsOnce (slots_in plan)
    → EndsHigh (slot_levels a plan)
ends a [] once = absurd once
ends a (s ∷ []) once = elim (cases_Bool (is_cut s.1)) [
  | inl t ↦ rw t (cut_ends a s.0 s.1)
  | inr f ↦ rw f (last_ends a s.0 s.1 once)
]
ends a (s ∷ t ∷ later) once = elim (cases_Bool (is_cut s.1)) [
  | inl c ↦ rw c (cut_ends a s.0 s.1)
  | inr f ↦
      rw f
      (ends_later (whole_levels a s.0 s.1) (slot_levels a (t ∷ later)) (ends a (t ∷ later) once.1))
]

pub leaves_bus_free : LeavesBusFree
leaves_bus_free alert plan valid =
    ends_later (level alert true false ∷ []) (slot_levels alert plan) (ends alert plan valid.ends)
