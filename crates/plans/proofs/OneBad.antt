-- The lines above a line of a plan are a plan, so with a bad line there is none.
use Rattle.std.proofs.Common.{◌≡◌, ℕ, List, [], ◌∷◌, ◌++◌, Bool, true, false, ◌&&◌, ◌||◌, not, refl}
use Rattle.std.proofs.Common.{sym, ap, ◌∙◌, append_assoc, inl, inr}
use Rattle.std.specs.List.{list_all, list_any}
use Rattle.std.proofs.lemmas.Bool.{cases_Bool}
use Rattle.std.proofs.lemmas.List.Elements.{filter_map-append}
use Rattle.std.proofs.lemmas.List.Folds.{list_all-append, list_any-append}
use Rattle.board.specs.Boards.{Board}
use Rattle.plans.specs.declared.wish.Wish.{Wish}
use Rattle.plans.specs.Wishes.{is_about, subject_of}
use Rattle.plans.specs.Plans.{is_good, wish_on, wishes_in, are_apart, is_plan}
use Rattle.plans.specs.OneReading.{BadIsNoPlan}

front_of : (a b c d : Bool) → (d ≡ true → c ≡ true) → (not (a || b) && d) ≡ true
    → (not a && c) ≡ true
front_of true b c d h t = t
front_of false true c d h t = cc
front_of false false c d h t = h t

are_apart-front : (wishes later : List Wish) → are_apart (wishes ++ later) ≡ true
    → are_apart wishes ≡ true
are_apart-front [] later t = refl
are_apart-front (first ∷ wishes) later t =
    let alike = λ (other : Wish). is_about (subject_of other) first in
    front_of (list_any alike wishes) (list_any alike later) (are_apart wishes)
    (are_apart (wishes ++ later)) (are_apart-front wishes later)
    (ap (λ b. not b && are_apart (wishes ++ later)) (sym (list_any-append alike wishes later)) ∙ t)

both_front : (a b c d : Bool) → (d ≡ true → c ≡ true) → ((a && b) && d) ≡ true
    → (a && c) ≡ true
both_front true true c d h t = h t
both_front true false c d h t = cc
both_front false b c d h t = t

pub is_plan-front : (board : Board) (above below : List (List ℕ))
    → is_plan board (above ++ below) ≡ true → is_plan board above ≡ true
is_plan-front board above below t =
    both_front (list_all (is_good board) above) (list_all (is_good board) below)
    (are_apart (wishes_in board above)) (are_apart (wishes_in board above ++ wishes_in board below))
    (are_apart-front (wishes_in board above) (wishes_in board below))
    (ap (λ b. b && are_apart (wishes_in board above ++ wishes_in board below))
    (sym (list_all-append (is_good board) above below))
    ∙ ap (λ ws. list_all (is_good board) (above ++ below) && are_apart ws)
    (sym (filter_map-append (wish_on board) above below)) ∙ t)

pub bad_is_no_plan : BadIsNoPlan
bad_is_no_plan board lines fault bad =
    let all : lines ≡ (bad.above ++ bad.line ∷ []) ++ bad.below =
    bad.parts ∙ sym (append_assoc bad.above (bad.line ∷ []) bad.below) in
    elim (cases_Bool (is_plan board lines)) [
      | inl t ↦
          let with_line : is_plan board (bad.above ++ bad.line ∷ []) ≡ true =
          is_plan-front board (bad.above ++ bad.line ∷ []) bad.below
          (ap (is_plan board) (sym all) ∙ t) in
          let no_plan = bad.bad in
          cc
      | inr f ↦ f
    ]
