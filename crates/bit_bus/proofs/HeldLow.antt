-- The clock is low for too long exactly where a slot is cut.
use Rattle.std.proofs.Common.{◌≡◌, ℕ, zero, suc, ◌+◌, ◌-◌, ◌<◌, inl, inr, Bool, true, false}
use Rattle.std.proofs.Common.{is_some, List, [], ◌∷◌, ◌++◌, refl, sym, ap, ◌∙◌, append_assoc, arith}
use Rattle.std.specs.List.{position_from}
use Rattle.std.proofs.lemmas.Bool.{cases_Bool, ltb-true}
use Rattle.wires.specs.declared.lines.Sample.{Sample}
use Rattle.bit_bus.specs.declared.plan.Slot.{Slot}
use Rattle.bit_bus.specs.declared.plan.Slot.TheVariants.{Bit, Again, End}
use Rattle.bit_bus.specs.Levels.{level, low_run, is_cut, data_of, whole_levels, cut_levels}
use Rattle.bit_bus.specs.Levels.{slot_levels, levels, first_cut, idle, EndsHigh}
use Rattle.bit_bus.specs.Word.{CutIsSeen, JoinsSilently}
use Rattle.bit_bus.proofs.LowRuns.{is_held_low, held_is_timeout, timeout_is_held}
use Rattle.wires.specs.declared.event.Event.{Event}
use Rattle.wires.specs.Events.{events_between, events_after}

held_run : (a x : Bool) (n count : ℕ) (later : List Sample)
    → is_held_low count (low_run a x n ++ later) ≡ is_held_low (count + n) later
unfolding low_run
held_run a x zero count later =
    let e : count ≡ count + 0 = omega arith in
    ap (λ (k : ℕ). is_held_low k later) e
held_run a x (suc n) count later =
    let e : count + 1 + n ≡ count + suc n = omega arith in
    held_run a x n (count + 1) later ∙ ap (λ (k : ℕ). is_held_low k later) e

held_one : (a x : Bool) (hold : ℕ) (s : Sample) (later : List Sample) → is_cut hold ≡ false
    → s.scl ≡ true
    → is_held_low 0 ((low_run a x (hold + 1) ++ s ∷ []) ++ later) ≡ is_held_low 0 later
held_one a x hold s later f high =
    let e : 0 + (hold + 1) ≡ hold + 1 = omega arith in
    ap (is_held_low 0) (append_assoc (low_run a x (hold + 1)) (s ∷ []) later)
    ∙ held_run a x (hold + 1) 0 (s ∷ later) ∙ rw (e, high, f) refl

held_two : (a x : Bool) (hold : ℕ) (s t : Sample) (later : List Sample) → is_cut hold ≡ false
    → s.scl ≡ true → t.scl ≡ true
    → is_held_low 0 ((low_run a x (hold + 1) ++ s ∷ t ∷ []) ++ later) ≡ is_held_low 0 later
held_two a x hold s t later f high high' =
    let e : 0 + (hold + 1) ≡ hold + 1 = omega arith in
    ap (is_held_low 0) (append_assoc (low_run a x (hold + 1)) (s ∷ t ∷ []) later)
    ∙ held_run a x (hold + 1) 0 (s ∷ t ∷ later) ∙ rw (e, high, f, high') refl

held_whole : (a : Bool) (s : Slot) (hold : ℕ) (later : List Sample) → is_cut hold ≡ false
    → is_held_low 0 (whole_levels a s hold ++ later) ≡ is_held_low 0 later
held_whole a (Bit x) hold later f = held_one a x hold (level a true x) later f refl
held_whole a Again hold later f =
    held_two a true hold (level a true true) (level a true false) later f refl refl
held_whole a End hold later f =
    held_two a false hold (level a true false) (level a true true) later f refl refl

held_cut : (a : Bool) (s : Slot) (hold : ℕ) → is_cut hold ≡ true
    → is_held_low 0 (cut_levels a s hold) ≡ true
held_cut a s hold t =
    let lt : 5000 < hold + 1 = ltb-true 5000 (hold + 1) t in
    let e : 0 + 5000 + (hold + 1 - 5000) ≡ hold + 1 = omega arith in
    ap (is_held_low 0) (append_assoc (low_run a (data_of s) 5000)
    (low_run a false (hold + 1 - 5000)) (level a true false ∷ level a true true ∷ []))
    ∙ held_run a (data_of s) 5000 0
    (low_run a false (hold + 1 - 5000) ++ level a true false ∷ level a true true ∷ [])
    ∙ held_run a false (hold + 1 - 5000) (0 + 5000) (level a true false ∷ level a true true ∷ [])
    ∙ ap (λ (k : ℕ). is_held_low k (level a true false ∷ level a true true ∷ [])) e
    ∙ rw t refl

held : (a : Bool) (i : ℕ) (plan : List (Slot × ℕ))
    → is_held_low 0 (slot_levels a plan)
    ≡ is_some (position_from (λ (s : Slot × ℕ). is_cut s.1) i plan)
held a i [] = refl
held a i (s ∷ later) = elim (cases_Bool (is_cut s.1)) [
  | inl t ↦ rw t (held_cut a s.0 s.1 t)
  | inr f ↦ rw f (held_whole a s.0 s.1 (slot_levels a later) f ∙ held a (i + 1) later)
]

pub cut_is_seen : CutIsSeen
cut_is_seen before alert plan =
    let e : is_held_low 0 (idle before ∷ levels alert plan) ≡ is_some (first_cut plan) =
    held alert 0 plan in (
      λ timeout. sym e ∙ timeout_is_held (idle before ∷ levels alert plan) timeout,
      λ cut. held_is_timeout (idle before ∷ levels alert plan) (e ∙ cut),
    )

joined_after : (alert : Bool) (s : Sample) (first later : List Sample) → EndsHigh (s ∷ first)
    → events_after s (first ++ idle alert ∷ later)
    ≡ events_after s first ++ events_after (idle alert) later
joined_after alert s [] later h = rw (h.0, h.1) refl
joined_after alert s (t ∷ first) later h =
    ap (λ (es : List Event). events_between s t ++ es) (joined_after alert t first later h)
    ∙ sym
    (append_assoc (events_between s t) (events_after t first) (events_after (idle alert) later))

pub joins_silently : JoinsSilently
joins_silently alert [] later h = absurd h
joins_silently alert (s ∷ first) later h = joined_after alert s first later h
