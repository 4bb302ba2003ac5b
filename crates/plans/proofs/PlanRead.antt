-- What the lines that were read give.
use Rattle.std.proofs.Common.{◌≡◌, ℕ, ◌+◌, List, [], ◌∷◌, ◌++◌, length, true, false, Some}
use Rattle.std.proofs.Common.{None, Result, Ok, Err, IfErr, IsErrAnd, refl, sym, ap, ◌∙◌, subst}
use Rattle.std.proofs.Common.{append_assoc, append-nil}
use Rattle.std.specs.Result.{result_err}
use Rattle.texts.specs.declared.reading.ReadError.{ReadError}
use Rattle.texts.specs.declared.reading.ReadError.TheVariants as errors
use Rattle.texts.specs.Reading.{Gives, Fails}
use Rattle.board.specs.Boards.{Board}
use Rattle.plans.specs.declared.fault.LineFault.{LineFault}
use Rattle.plans.specs.declared.fault.PlanFault.{PlanFault}
use Rattle.plans.specs.declared.wish.Wish.{Wish}
use Rattle.plans.specs.OneReading.{FirstBadIsOne}
use Rattle.plans.specs.Plans.{said_on, with_said, at_line, fault_at, wishes_in, is_plan}
use Rattle.plans.specs.Plans.{first_bad_below, plan_unless, plan_of, IsFirstBad, OnFault}
use Rattle.plans.proofs.LinesRead.{IsReadTo}
use Rattle.plans.proofs.OneBad.{is_plan-front}

-- no line of a plan is bad
none_below : (board : Board) (above below : List (List ℕ)) → is_plan board (above ++ below) ≡ true
    → first_bad_below board above below ≡ None
none_below board above [] t = refl
none_below board above (line ∷ below) t =
    let all : (above ++ line ∷ []) ++ below ≡ above ++ line ∷ below =
    append_assoc above (line ∷ []) below in
    let whole : is_plan board ((above ++ line ∷ []) ++ below) ≡ true =
    ap (is_plan board) all ∙ t in
    let with_line : is_plan board (above ++ line ∷ []) ≡ true =
    is_plan-front board (above ++ line ∷ []) below whole in
    rw with_line (none_below board (above ++ line ∷ []) below whole)

-- the first one that makes lines no plan is found
found_below : (board : Board) (above good : List (List ℕ)) (line : List ℕ) (below : List (List ℕ))
    (fault : PlanFault) → is_plan board (above ++ good) ≡ true
    → is_plan board ((above ++ good) ++ line ∷ []) ≡ false
    → fault_at board (above ++ good) line ≡ Some fault
    → first_bad_below board above (good ++ line ∷ below) ≡ Some fault
found_below board above [] line below fault t f is =
    let same : above ++ [] ≡ above = append-nil above in
    let no_plan : is_plan board (above ++ line ∷ []) ≡ false =
    ap (λ ls. is_plan board (ls ++ line ∷ [])) (sym same) ∙ f in
    rw no_plan (ap (λ ls. fault_at board ls line) (sym same) ∙ is)
found_below board above (next ∷ good) line below fault t f is =
    let all : (above ++ next ∷ []) ++ good ≡ above ++ next ∷ good =
    append_assoc above (next ∷ []) good in
    let whole : is_plan board ((above ++ next ∷ []) ++ good) ≡ true = ap (is_plan board) all ∙ t in
    let with_next : is_plan board (above ++ next ∷ []) ≡ true =
    is_plan-front board (above ++ next ∷ []) good whole in
    rw with_next
    (found_below board (above ++ next ∷ []) good line below fault whole
    (ap (λ ls. is_plan board (ls ++ line ∷ [])) all ∙ f)
    (ap (λ ls. fault_at board ls line) all ∙ is))

abbrev placed : ℕ → LineFault → PlanFault
placed number why = record { line = number; why = why }

-- a fault with its line's number
fault_with : (n : ℕ) (fault : PlanFault) (r : Result (List Wish) LineFault) → fault.line ≡ n
    → r ≡ Err fault.why → result_err (at_line n r) ≡ Some fault
fault_with n fault (Ok wishes) line why = cc
fault_with n fault (Err other) line why =
    let same : other ≡ fault.why = cc in
    ap (λ l. Some (placed l other)) (sym line) ∙ ap (λ w. Some (placed fault.line w)) same

first_bad_of : (board : Board) (lines : List (List ℕ)) (fault : PlanFault)
    → IsFirstBad board lines fault → plan_of board lines ≡ Err fault
unfolding plan_of
first_bad_of board lines fault bad =
    ap (λ ls. plan_unless (wishes_in board lines) (first_bad_below board [] ls)) bad.parts
    ∙ ap (plan_unless (wishes_in board lines))
    (found_below board [] bad.above bad.line bad.below fault bad.good bad.bad
    (fault_with (length bad.above + 1) fault
    (with_said (wishes_in board bad.above) (said_on board bad.line)) bad.counted bad.why))

-- so there is one
pub first_bad_is_one : FirstBadIsOne
first_bad_is_one board lines one other a b =
    let same : Err one ≡ Err other =
    sym (first_bad_of board lines one a) ∙ first_bad_of board lines other b in
    cc

pub all_read : (board : Board) (lines rest : List (List ℕ)) (number : ℕ) (wishes : List Wish)
    → IsReadTo board lines rest number wishes → rest ≡ [] → plan_of board lines ≡ Ok wishes
unfolding plan_of
all_read board lines rest number wishes read end =
    let whole : lines ≡ read.above =
    read.parts ∙ ap (λ l. read.above ++ l) end ∙ append-nil read.above in
    ap (λ ls. plan_unless (wishes_in board ls) (first_bad_below board [] ls)) whole
    ∙ ap (plan_unless (wishes_in board read.above))
    (none_below board [] read.above read.plan.good)
    ∙ ap Ok (sym read.plan.wishes_are)

pub fault_read : (board : Board) (lines : List (List ℕ)) (e : ReadError PlanFault)
    → OnFault e (λ fault. IsFirstBad board lines fault) → Fails e (plan_of board lines)
fault_read board lines errors.Memory fault = tt
fault_read board lines (errors.Fault fault) bad = first_bad_of board lines fault bad

-- an error that is handed on
pub on_err : {T E : Type 0} (r : Result T E) (e : E) (P : E → Type 0) → IsErrAnd r (λ y. y ≡ e)
    → P e → IfErr r P
on_err (Ok x) e P is p = absurd is
on_err (Err y) e P is p = subst P (sym is) p

pub gives_err : {T Y F : Type 0} (view : T → Y) (r : Result T (ReadError F)) (e : ReadError F)
    (read : Result Y F) → IsErrAnd r (λ y. y ≡ e) → Fails e read → Gives view r read
gives_err view (Ok x) e read is p = absurd is
gives_err view (Err y) e read is p = subst (λ f. Fails f read) (sym is) p
