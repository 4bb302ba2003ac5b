-- The eight bits of a Write Byte's value went out exactly where neither address nor code was
-- refused and no slot up to the last of them was cut.
use Rattle.std.proofs.Common.{◌≡◌, ◌≤◌, ◌<◌, ◌+◌, ◌*◌, ◌-◌, ◌↔◌, ◌&&◌, inl, inr, ℕ, zero, suc}
use Rattle.std.proofs.Common.{nat_lt, Bool, true, false, not, IsTrue, Option, Some, None, List, []}
use Rattle.std.proofs.Common.{◌∷◌, ◌++◌, length, take, refl, sym, ap, ◌∙◌, lit≤, arith}
use Rattle.std.proofs.lemmas.Bool.Decides.{nat_tests}
use Rattle.std.proofs.lemmas.Bool.{cases_Bool, lt-ltb, ltb-true}
use Rattle.std.proofs.Math.Seq.{take-append-add, take-append_seam}
use Rattle.std.proofs.lemmas.List.{length-take, map-append}
use Rattle.wires.specs.Bits.{bits_of}
use Rattle.bit_bus.specs.declared.plan.Slot.{Slot}
use Rattle.bit_bus.specs.declared.plan.Slot.TheVariants.{Bit, End}
use Rattle.smbus.specs.declared.message.Form.TheVariants.{WriteByte}
use Rattle.smbus.specs.Asked.{Asked}
use Rattle.smbus.specs.Answered.{Answered}
use Rattle.smbus.specs.Frames.{byte_bits}
use Rattle.smbus.specs.Protocol.{Piece, whole_of, up_to_refused, bit_marks, byte_marks, marks_of}
use Rattle.smbus.specs.Protocol.Piece.{Sent}
use Rattle.smbus.specs.Slots.{slots_of}
use Rattle.targets.specs.Outcomes.{cut_of}
use Rattle.targets.specs.Effects.{slots_out, marks_to_value, ValueWentOut}
use Rattle.targets.specs.WriteSlots.{reaches_value, cuts_after_value}
use Rattle.targets.proofs.SlotsOut.{IsOut, is_out}

-- the frame of a Write Byte
abbrev pieces : ℕ → ℕ → ℕ → List Piece
pieces address code value = Sent (2 * address) ∷ Sent code ∷ Sent value ∷ []

abbrev slots : Option ℕ → ℕ → ℕ → ℕ → List Slot
slots refuse address code value =
    marks_of (up_to_refused refuse (pieces address code value)) ++ End ∷ []

frame_of : (m : Asked) (a : Answered) (value : ℕ) → m.form ≡ WriteByte → m.out ≡ value ∷ []
    → slots_of m a ≡ slots a.refuse m.address m.code value
frame_of m a value form content =
    ap (λ f. marks_of (up_to_refused a.refuse (whole_of f m.address m.code m.out a.value a.bytes))
    ++ End ∷ []) form
    ∙ ap (λ o. marks_of (up_to_refused a.refuse
    (whole_of WriteByte m.address m.code o a.value a.bytes)) ++ End ∷ []) content

length_byte : (b : ℕ) (acknowledged : Bool) → length (byte_marks b acknowledged) ≡ 9
unfolding byte_bits
length_byte b acknowledged = refl

-- a byte's marks are its bits and the acknowledge
byte_split : (b : ℕ) (acknowledged : Bool)
    → byte_marks b acknowledged ≡ bit_marks (bits_of 8 b) ++ Bit (not acknowledged) ∷ []
unfolding byte_bits
byte_split b acknowledged = map-append Bit (bits_of 8 b) (not acknowledged ∷ [])

length_front : (address code value : ℕ) → length (marks_to_value address code value) ≡ 26
unfolding byte_bits
length_front address code value = refl

-- where address and code are accepted, the frame begins with the value's bits
begins : (refuse : Option ℕ) (address code value : ℕ) → reaches_value refuse ≡ true
    → (later : List Slot)
    × (slots refuse address code value ≡ marks_to_value address code value ++ later)
unfolding byte_bits
begins None address code value e = (Bit false ∷ End ∷ [], refl)
begins (Some zero) address code value e = cc
begins (Some (suc zero)) address code value e = cc
begins (Some (suc (suc zero))) address code value e = (Bit true ∷ End ∷ [], refl)
begins (Some (suc (suc (suc n)))) address code value e = (Bit false ∷ End ∷ [], refl)

-- where one of them is refused, there are fewer slots
too_short : (refuse : Option ℕ) (address code value : ℕ) → reaches_value refuse ≡ false
    → length (slots refuse address code value) ≤ 19
unfolding byte_bits
too_short None address code value e = cc
too_short (Some zero) address code value e = lit≤ tt
too_short (Some (suc zero)) address code value e = lit≤ tt
too_short (Some (suc (suc n))) address code value e = absurd (more (suc (suc n)) (omega arith) e)
  where
    more : (n : ℕ) → 1 < n → nat_lt 1 n ≡ false → ⊥
    more n lt e = grind (arith, nat_tests)

-- what goes out is no longer than the frame, and ends at the cut
bounded : (all sent : List Slot) (cut : Option ℕ) → IsOut 0 all sent cut → 26 ≤ length sent
    → (26 ≤ length all) × (cuts_after_value cut ≡ true)
bounded all sent None o le = let l = ap length o in (omega arith, refl)
bounded all sent (Some c) o le =
    let l = ap length o.1 ∙ length-take (c - 0) all in
    let lt : 25 < c = omega arith in
    (omega arith, lt-ltb 25 c lt)

-- where it goes on after the value's bits, they are its front
front_of : (front later all sent : List Slot) (cut : Option ℕ) → length front ≡ 26
    → all ≡ front ++ later → IsOut 0 all sent cut → cuts_after_value cut ≡ true
    → (rest : List Slot) × (sent ≡ front ++ rest)
front_of front later all sent None l e o t = (later, o ∙ e)
front_of front later all sent (Some c) l e o t =
    let lt : 25 < c = ltb-true 25 c t in
    let n : c - 0 ≡ length front + (c - 26) = omega arith in (
      take (c - 26) later,
      o.1 ∙ (ap (λ k. take k all) n
          ∙ (ap (take (length front + (c - 26))) e ∙ take-append-add front later (c - 26))),
    )

and_both : (a b : Bool) → (a && b) ≡ true → (a ≡ true) × (b ≡ true)
and_both true true e = (refl, refl)
and_both true false e = cc
and_both false b e = cc

pub value_out : (m : Asked) (a : Answered) (value : ℕ) → m.form ≡ WriteByte → m.out ≡ value ∷ []
    → IsTrue (reaches_value a.refuse && cuts_after_value (cut_of m a)) ↔ ValueWentOut value m a
value_out m a value form content = (went, reached)
  where
    frame : slots_of m a ≡ slots a.refuse m.address m.code value
    frame = frame_of m a value form content

    goes : IsOut 0 (slots_of m a) (slots_out m a) (cut_of m a)
    goes = is_out 0 (slots_of m a) a.holds

    front : List Slot
    front = marks_to_value m.address m.code value

    went : IsTrue (reaches_value a.refuse && cuts_after_value (cut_of m a)) → ValueWentOut value m a
    went t =
        let both = and_both (reaches_value a.refuse) (cuts_after_value (cut_of m a)) t in
        let b = begins a.refuse m.address m.code value both.0 in
        let f = front_of (marks_to_value m.address m.code value) b.0 (slots_of m a) (slots_out m a)
        (cut_of m a) (length_front m.address m.code value) (frame ∙ b.1) goes both.1 in
        record {
          count = length (marks_to_value m.address m.code value);
          front =
              sym (ap (take (length (marks_to_value m.address m.code value))) f.1
              ∙ take-append_seam (marks_to_value m.address m.code value) f.0);
        }

    reached : ValueWentOut value m a
        → IsTrue (reaches_value a.refuse && cuts_after_value (cut_of m a))
    reached g =
        let l = sym (length_front m.address m.code value)
        ∙ (ap length g.front ∙ length-take g.count (slots_out m a)) in
        let b = bounded (slots_of m a) (slots_out m a) (cut_of m a) goes (omega arith) in
        elim (cases_Bool (reaches_value a.refuse)) [
          | inl t ↦ rw (t, b.1) refl
          | inr f ↦
              let s = too_short a.refuse m.address m.code value f in
              let same = ap length frame in
              let enough : 26 ≤ length (slots_of m a) = b.0 in
              absurd (omega arith)
        ]
