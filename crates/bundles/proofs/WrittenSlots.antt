-- Slots that are written one after another.
use Rattle.std.proofs.Common.{◌≡◌, ◌<◌, ℕ, ◌+◌, ◌-◌, suc, Bool, true, not, ◌==◌, List, [], ◌∷◌}
use Rattle.std.proofs.Common.{◌++◌, length, drop, map}
use Rattle.std.proofs.Common.{Option, Some, None, codes, refl, sym, ap, ◌∙◌}
use Rattle.std.proofs.Common.{arith, append_assoc}
use Rattle.std.specs.Prelude.{slice_get}
use Rattle.std.specs.List.{join_with_byte, flat_map}
use Rattle.std.proofs.Math.ListN.{get_or}
use Rattle.std.proofs.lemmas.List.{append-nil, at_drop_more}
use Rattle.texts.specs.Hex.{pair_text}
use Rattle.bundles.specs.AnswerTexts.{ends_held}

-- ---- parts behind a comma, the first behind what stands there

abbrev pub behind : List ℕ → List (List ℕ) → List ℕ
behind comma [] = []
behind comma (part ∷ parts) = (comma ++ part) ++ flat_map (λ p. 44 ∷ p) parts

later_behind : (parts : List (List ℕ)) → flat_map (λ p. 44 ∷ p) parts ≡ behind (codes ",") parts
later_behind [] = refl
later_behind (part ∷ parts) = refl

first_behind : (part : List ℕ) (parts : List (List ℕ))
    → part ++ flat_map (λ p. 44 ∷ p) parts ≡ join_with_byte 44 (part ∷ parts)
first_behind part [] = append-nil part
first_behind part (next ∷ parts) =
    ap (λ (rest : List ℕ). part ++ 44 ∷ rest) (first_behind next parts)

pub joined : (parts : List (List ℕ)) → behind [] parts ≡ join_with_byte 44 parts
joined [] = refl
joined (part ∷ parts) = first_behind part parts

-- a byte more
pub one_pair_more : (text comma bytes : List ℕ) (i d : ℕ) (whole : List ℕ) → i < length bytes
    → text ++ behind comma (map pair_text (drop i bytes)) ≡ whole
    → ((text ++ comma) ++ pair_text (get_or bytes i d))
    ++ behind (codes ",") (map pair_text (drop (i + 1) bytes)) ≡ whole
one_pair_more text comma bytes i d whole less e =
    let part : List ℕ = pair_text (get_or bytes i d) in
    let later : List (List ℕ) = map pair_text (drop (i + 1) bytes) in
    let rest : List ℕ = flat_map (λ p. 44 ∷ p) later in
    ap (λ (tail : List ℕ). ((text ++ comma) ++ part) ++ tail) (sym (later_behind later))
    ∙ append_assoc (text ++ comma) part rest
    ∙ append_assoc text comma (part ++ rest)
    ∙ ap (λ (tail : List ℕ). text ++ tail) (sym (append_assoc comma part rest))
    ∙ sym (at_drop_more (λ (bs : List ℕ). text ++ behind comma (map pair_text bs)) bytes i d less)
    ∙ e

-- nothing more
pub all_written : (text old comma : List ℕ) (left all : List (List ℕ)) → left ≡ []
    → text ++ behind comma left ≡ old ++ behind [] all → text ≡ old ++ join_with_byte 44 all
all_written text old comma left all none written =
    sym (append-nil text)
    ∙ sym (ap (λ (parts : List (List ℕ)). text ++ behind comma parts) none)
    ∙ written
    ∙ ap (λ (rest : List ℕ). old ++ rest) (joined all)

-- ---- the last slot

abbrev pub is_held_or_none : Option ℕ → Bool
is_held_or_none None = true
is_held_or_none (Some hold) = not (hold == 0)

pub held_by_last : (holds : List ℕ)
    → ends_held holds ≡ is_held_or_none (slice_get holds (length holds - 1))
held_by_last [] = refl
held_by_last (hold ∷ []) = refl
held_by_last (hold ∷ next ∷ later) =
    let at' : length (hold ∷ next ∷ later) - 1 ≡ suc (length (next ∷ later) - 1) = omega arith in
    held_by_last (next ∷ later)
    ∙ sym (ap (λ (k : ℕ). is_held_or_none (slice_get (hold ∷ next ∷ later) k)) at')
