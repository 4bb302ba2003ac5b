-- The lines of a plan that have been read, and what one line more does.
use Rattle.std.proofs.Common.{◌≡◌, ℕ, ◌+◌, List, [], ◌∷◌, ◌++◌, length, Bool, true, false, ◌&&◌}
use Rattle.std.proofs.Common.{◌||◌, not, cond, if◌then◌else◌, Option, Some, None, is_some, is_ok}
use Rattle.std.proofs.Common.{Result, Ok, Err, refl, sym, ap, ◌∙◌, append_assoc, append-nil}
use Rattle.std.proofs.Common.{length-append}
use Rattle.std.specs.List.{list_all, list_any, cons_option}
use Rattle.std.specs.Result.{result_unwrap_or}
use Rattle.std.proofs.lemmas.List.Elements.{filter_map-append}
use Rattle.std.proofs.lemmas.List.Folds.{list_all-append, list_any-append}
use Rattle.texts.specs.declared.reading.ReadError.{ReadError}
use Rattle.texts.specs.declared.reading.ReadError.TheVariants as errors
use Rattle.texts.specs.Reading.{Fails}
use Rattle.board.specs.Boards.{Board}
use Rattle.plans.specs.declared.fault.LineFault.{LineFault}
use Rattle.plans.specs.declared.fault.LineFault.TheVariants as line_fault
use Rattle.plans.specs.declared.fault.PlanFault.{PlanFault}
use Rattle.plans.specs.declared.wish.Wish.{Wish}
use Rattle.plans.specs.Wishes.{is_about, subject_of, wish_about}
use Rattle.plans.specs.Plans.{said_on, is_good, wish_on, wishes_in, are_apart, is_plan, with_said}
use Rattle.plans.specs.Plans.{at_line, IsPlanOf, IsFirstBad, OnFault}

-- the lines above are a plan with these wishes
pub record IsReadTo (board : Board) (lines rest : List (List ℕ)) (number : ℕ) (wishes : List Wish)
    : Type 0 where
  pub above : List (List ℕ)
  pub parts : lines ≡ above ++ rest
  pub counted : number ≡ length above + 1
  pub plan : IsPlanOf board above wishes

one_more : (a b c : Bool) (v : Wish) (o : Option Wish)
    → (not (a || (b || false)) && (c && not (is_some o)))
    ≡ ((not a && c) && not (is_some (cond b (Some v) o)))
one_more true b c v o = refl
one_more false true true v o = refl
one_more false true false v o = refl
one_more false false c v o = refl

-- a wish behind others keeps them apart where none of them is about what it is about
are_apart-more : (wishes : List Wish) (wish : Wish)
    → are_apart (wishes ++ wish ∷ [])
    ≡ (are_apart wishes && not (is_some (wish_about wishes (subject_of wish))))
are_apart-more [] wish = refl
are_apart-more (first ∷ later) wish =
    let alike = λ (other : Wish). is_about (subject_of other) first in
    ap (λ b. not b && are_apart (later ++ wish ∷ []))
    (list_any-append alike later (wish ∷ []))
    ∙ ap (λ b. not (list_any alike later || (alike wish || false)) && b)
    (are_apart-more later wish)
    ∙ one_more (list_any alike later) (alike wish) (are_apart later) first
    (wish_about later (subject_of wish))

-- a line more
is_plan-more : (board : Board) (above : List (List ℕ)) (line : List ℕ)
    → is_plan board (above ++ line ∷ [])
    ≡ ((list_all (is_good board) above && (is_good board line && true))
    && are_apart (wishes_in board above ++ cons_option (wish_on board line) []))
is_plan-more board above line =
    ap (λ b. b && are_apart (wishes_in board (above ++ line ∷ [])))
    (list_all-append (is_good board) above (line ∷ []))
    ∙ ap (λ ws. (list_all (is_good board) above && (is_good board line && true)) && are_apart ws)
    (filter_map-append (wish_on board) above (line ∷ []))

-- whether lines that are a plan, or not, are one with a line that says this
abbrev is_plan_with : Bool → List Wish → Result (Option Wish) LineFault → Bool
is_plan_with good wishes said =
    (good && (is_ok said && true))
    && are_apart (wishes ++ cons_option (result_unwrap_or said None) [])

and_false : (a b : Bool) → ((a && false) && b) ≡ false
and_false true b = refl
and_false false b = refl

apart_false : (a b : Bool) → ((a && true) && (b && false)) ≡ false
apart_false true true = refl
apart_false true false = refl
apart_false false b = refl

apart_true : (a b : Bool) → (a && b) ≡ true → ((a && true) && (b && true)) ≡ true
apart_true true true t = refl
apart_true true false t = t
apart_true false b t = t

blank_true : (a b : Bool) → (a && b) ≡ true → ((a && true) && b) ≡ true
blank_true true b t = t
blank_true false b t = t

abbrev chosen : Bool → List Wish → Result (List Wish) LineFault
chosen taken more = if taken then Err line_fault.Twice else Ok more

taken_bad : (n : ℕ) (e : PlanFault) (more : List Wish) (taken : Bool)
    → at_line n (chosen taken more) ≡ Err e
    → (taken ≡ true) × ((e.line ≡ n) × (chosen taken more ≡ Err e.why))
taken_bad n e more true h = (refl, (cc, cc))
taken_bad n e more false h = cc

free_good : (n : ℕ) (all more : List Wish) (taken : Bool)
    → at_line n (chosen taken more) ≡ Ok all → (taken ≡ false) × (all ≡ more)
free_good n all more true h = cc
free_good n all more false h = (refl, cc)

-- with a bad line the lines are no plan, and the fault is its number and why
bad_with : (n : ℕ) (e : PlanFault) (good : Bool) (wishes : List Wish)
    (said : Result (Option Wish) LineFault) → at_line n (with_said wishes said) ≡ Err e
    → (is_plan_with good wishes said ≡ false)
    × ((e.line ≡ n) × (with_said wishes said ≡ Err e.why))
bad_with n e good wishes (Err why) h = (and_false good _, (cc, cc))
bad_with n e good wishes (Ok None) h = cc
bad_with n e good wishes (Ok (Some wish)) h =
    let p = taken_bad n e (wishes ++ wish ∷ [])
    (is_some (wish_about wishes (subject_of wish))) h in (
      ap (λ b. (good && true) && b) (are_apart-more wishes wish)
          ∙ ap (λ b. (good && true) && (are_apart wishes && not b)) p.0
          ∙ apart_false good (are_apart wishes),
      p.1,
    )

good_with : (n : ℕ) (good : Bool) (wishes more : List Wish) (said : Result (Option Wish) LineFault)
    → (good && are_apart wishes) ≡ true → at_line n (with_said wishes said) ≡ Ok more
    → (is_plan_with good wishes said ≡ true)
    × (more ≡ wishes ++ cons_option (result_unwrap_or said None) [])
good_with n good wishes more (Err why) t h = cc
good_with n good wishes more (Ok None) t h =
    let same : more ≡ wishes = cc in (
      ap (λ ws. (good && true) && are_apart ws) (append-nil wishes)
          ∙ blank_true good (are_apart wishes) t,
      same ∙ sym (append-nil wishes),
    )
good_with n good wishes more (Ok (Some wish)) t h =
    let p = free_good n more (wishes ++ wish ∷ [])
    (is_some (wish_about wishes (subject_of wish))) h in (
      ap (λ b. (good && true) && b) (are_apart-more wishes wish)
          ∙ ap (λ b. (good && true) && (are_apart wishes && not b)) p.0
          ∙ apart_true good (are_apart wishes) t,
      p.1,
    )

pub bad_line : (board : Board) (lines rest below : List (List ℕ)) (line : List ℕ) (number : ℕ)
    (e : PlanFault) (wishes : List Wish) → IsReadTo board lines rest number wishes
    → rest ≡ line ∷ below → at_line number (with_said wishes (said_on board line)) ≡ Err e
    → IsFirstBad board lines e
bad_line board lines rest below line number e wishes read cut h =
    let p = bad_with number e (list_all (is_good board) read.above) (wishes_in board read.above)
    (said_on board line)
    (ap (λ ws. at_line number (with_said ws (said_on board line))) (sym read.plan.wishes_are)
    ∙ h) in
    record {
      above = read.above;
      line = line;
      below = below;
      parts = read.parts ∙ ap (λ l. read.above ++ l) cut;
      counted = p.1.0 ∙ read.counted;
      good = read.plan.good;
      bad = is_plan-more board read.above line ∙ p.0;
      why = p.1.1;
    }

pub fault_line : (board : Board) (lines rest below : List (List ℕ)) (line : List ℕ) (number : ℕ)
    (wishes : List Wish) (e : ReadError PlanFault) → IsReadTo board lines rest number wishes
    → rest ≡ line ∷ below → Fails e (at_line number (with_said wishes (said_on board line)))
    → OnFault e (λ fault. IsFirstBad board lines fault)
fault_line board lines rest below line number wishes errors.Memory read cut h = tt
fault_line board lines rest below line number wishes (errors.Fault fault) read cut h =
    bad_line board lines rest below line number fault wishes read cut h

pub good_line : (board : Board) (lines rest below : List (List ℕ)) (line : List ℕ) (number : ℕ)
    (wishes more : List Wish) → IsReadTo board lines rest number wishes → rest ≡ line ∷ below
    → at_line number (with_said wishes (said_on board line)) ≡ Ok more
    → IsReadTo board lines below (number + 1) more
good_line board lines rest below line number wishes more read cut h =
    let p = good_with number (list_all (is_good board) read.above) (wishes_in board read.above)
    more (said_on board line) read.plan.good
    (ap (λ ws. at_line number (with_said ws (said_on board line))) (sym read.plan.wishes_are)
    ∙ h) in
    record {
      above = read.above ++ line ∷ [];
      parts =
          read.parts ∙ ap (λ l. read.above ++ l) cut
          ∙ sym (append_assoc read.above (line ∷ []) below);
      counted =
          ap (λ n. n + 1) read.counted
          ∙ ap (λ n. n + 1) (sym (length-append read.above (line ∷ [])));
      plan = record {
        good = is_plan-more board read.above line ∙ p.0;
        wishes_are = p.1 ∙ sym (filter_map-append (wish_on board) read.above (line ∷ []));
      };
    }
