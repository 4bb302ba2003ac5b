-- What is read keeps to what every program keeps to.
use Rattle.std.proofs.Common.{◌≡◌, ℕ, ◌+◌, ◌-◌, ◌≤◌, ◌<◌, Bool, true, false, not, nat_lt, inl}
use Rattle.std.proofs.Common.{inr, List, [], ◌∷◌, ◌++◌, length, slice_get, Option, Some, None}
use Rattle.std.proofs.Common.{is_some, unwrap_or, IfSome, IsTrue, All, refl, arith}
use Rattle.std.specs.List.{list_all}
use Rattle.std.specs.Str.{bytes_eq}
use Rattle.std.proofs.lemmas.Bool.{cases_Bool, and_parts, ltb-true}
use Rattle.std.proofs.lemmas.List.{length-append}
use Rattle.std.proofs.lemmas.List.Elements.{All-push}
use Rattle.seq_program.specs.declared.instr.Instr.{Instr}
use Rattle.seq_program.specs.Labels.{Label, place_of}
use Rattle.seq_program.specs.PassViews.{AreBelow, IsAmong, Lands}
use Rattle.seq_program.specs.Programs.{is_end, is_some_end, ends}
use Rattle.seq_program.specs.Valid.{IsInstrOn, IsOnBoard, IsProgram}

-- an instruction more, where there is room
pub one_more : (targets : ℕ) (before after : List Instr) (i : Instr) → after ≡ before ++ i ∷ []
    → length before < 1024 → All (λ i. IsInstrOn targets i) before → IsInstrOn targets i
    → (length after ≤ 1024) × All (λ i. IsInstrOn targets i) after
one_more targets before after i e room said new =
    let size : length (before ++ i ∷ []) ≡ length before + 1 = length-append before (i ∷ []) in
    rw e (omega (arith, size, room), All-push (λ i. IsInstrOn targets i) before i said new)

pub is_known_if : (known : Bool) → not known ≡ false → IsTrue known
is_known_if true e = refl
is_known_if false e = absurd cc

pub lands_more : (labels : List Label) (before after : List Instr) (i : Instr)
    → after ≡ before ++ i ∷ [] → All (λ i. Lands labels i) before → Lands labels i
    → All (λ i. Lands labels i) after
lands_more labels before after i e lands new =
    rw e (All-push (λ i. Lands labels i) before i lands new)

-- a label that is known stands where all do
pub known_is_among : (labels : List Label) (name : List ℕ)
    → IsTrue (is_some (place_of labels name))
    → IsAmong labels (unwrap_or (place_of labels name) 0)
known_is_among [] name known = absurd cc
known_is_among (l ∷ labels) name known = λ count below.
    let parts = and_parts (nat_lt l.place count)
    (list_all (λ (l : Label). nat_lt l.place count) labels) below in
    elim (cases_Bool (bytes_eq name l.name)) [
      | inl t ↦ rw t (ltb-true l.place count parts.0)
      | inr f ↦ rw f (known_is_among labels name (rw f at known) count parts.1)
    ]

-- a jump to its place lands
pub jump_lands : (labels : List Label) (place : ℕ) (o : Option ℕ) → IfSome o (λ p. p ≡ place)
    → IsAmong labels place → IfSome o (λ p. IsAmong labels p)
jump_lands labels place None same among = tt
jump_lands labels place (Some p) same among = rw same among

lands_below : (labels : List Label) (count : ℕ) (o : Option ℕ) → AreBelow count labels
    → IfSome o (λ p. IsAmong labels p) → IfSome o (λ p. p < count)
lands_below labels count None below among = tt
lands_below labels count (Some p) below among = among count below

ends_in : (o : Option Instr) → is_some_end o ≡ true → IfSome o (λ i. IsTrue (is_end i))
ends_in None t = tt
ends_in (Some i) t = t

nonempty : (instrs : List Instr) → is_some_end (slice_get instrs (length instrs - 1)) ≡ true
    → 1 ≤ length instrs
nonempty [] t = absurd cc
nonempty (i ∷ instrs) t = omega arith

-- what was read for a board, and ends
pub is_program : (targets : ℕ) (labels : List Label) (instrs : List Instr)
    → length instrs ≤ 1024 → All (λ i. IsInstrOn targets i) instrs
    → All (λ i. Lands labels i) instrs → ends labels instrs ≡ true → IsProgram instrs
is_program targets labels instrs few said lands t =
    let parts = and_parts (is_some_end (slice_get instrs (length instrs - 1)))
    (list_all (λ (l : Label). nat_lt l.place (length instrs)) labels) t in
    record {
      some = nonempty instrs parts.0;
      few = few;
      each = λ k d less. (said k d less).0;
      jumps = λ k d less. lands_below labels (length instrs) _ parts.1 (lands k d less);
      last = ends_in (slice_get instrs (length instrs - 1)) parts.0;
    }

pub on_board : (targets : ℕ) (instrs : List Instr) → All (λ i. IsInstrOn targets i) instrs
    → All (λ i. IsOnBoard targets i) instrs
on_board targets instrs said = λ k d less. (said k d less).1
