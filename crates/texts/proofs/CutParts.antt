-- The parts of a text between a mark: the first, and those behind it.
use Rattle.std.proofs.Common.{◌≡◌, ◌<◌, ◌+◌, ◌==◌, ℕ, suc, Bool, true, false, List, [], ◌∷◌, length}
use Rattle.std.proofs.Common.{Option, Some, None, Bor, MatchOption, IfSome, refl, ap, ◌∙◌, arith}
use Rattle.std.specs.List.{slice_split, onto_first, position_or_len}
use Rattle.std.proofs.Math.ListN.{length-drop}
use Rattle.std.proofs.lemmas.List.Splits.{slice_split_first, slice_split-cons_no}
use Rattle.texts.specs.Cuts.{IsCutAt, HasNo}

nowhere_in : (mark x : ℕ) (text : List ℕ) (b : Bool) → (x == mark) ≡ b
    → (HasNo mark text → slice_split (λ b. b == mark) text ≡ text ∷ [])
    → HasNo mark (x ∷ text) → slice_split (λ b. b == mark) (x ∷ text) ≡ (x ∷ text) ∷ []
nowhere_in mark x text true t below e =
    let z : 0 ≡ suc (length text) = rw t at e in
    absurd (omega (arith, z))
nowhere_in mark x text false t below e =
    let whole : HasNo mark text = omega (arith, rw t at e) in
    slice_split-cons_no (λ b. b == mark) x text t ∙ ap (onto_first x) (below whole)

-- a text without the mark is one part
pub one_part : (mark : ℕ) (text : List ℕ) → HasNo mark text
    → slice_split (λ b. b == mark) text ≡ text ∷ []
one_part mark [] e = refl
one_part mark (x ∷ text) e =
    nowhere_in mark x text (x == mark) refl (one_part mark text) e

-- of another the first part is what stands before the mark
pub first_part : (mark : ℕ) (text front back : List ℕ) → IsCutAt mark text front back
    → slice_split (λ b. b == mark) text ≡ front ∷ slice_split (λ b. b == mark) back
first_part mark text front back cut =
    rw (cut.before, cut.behind) (slice_split_first (λ b. b == mark) text 0 cut.has)

pub parts_at : (mark : ℕ) (text : List ℕ) (r : Option (Bor (List ℕ) × Bor (List ℕ)))
    → MatchOption r (HasNo mark text) (λ cut. IsCutAt mark text cut.0.now cut.1.now)
    → MatchOption r (slice_split (λ b. b == mark) text ≡ text ∷ [])
    (λ cut. slice_split (λ b. b == mark) text
    ≡ cut.0.now ∷ slice_split (λ b. b == mark) cut.1.now)
parts_at mark text None none = one_part mark text none
parts_at mark text (Some c) cut = first_part mark text c.0.now c.1.now cut

pub shorter_behind : (mark : ℕ) (text : List ℕ) (r : Option (Bor (List ℕ) × Bor (List ℕ)))
    → MatchOption r (HasNo mark text) (λ cut. IsCutAt mark text cut.0.now cut.1.now)
    → IfSome r (λ cut. length cut.1.now < length text)
shorter_behind mark text None none = tt
shorter_behind mark text (Some c) cut =
    let at' = position_or_len (λ b. b == mark) text in
    omega (arith, cut.has, ap length cut.behind ∙ length-drop (at' + 1) text)
