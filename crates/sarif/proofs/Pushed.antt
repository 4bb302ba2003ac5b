-- One more result is pushed.
use Rattle.std.proofs.Common.{◌≡◌, ◌++◌, ◌∷◌, ◌∙◌, List, [], ap, map, sym}
use Rattle.std.proofs.lemmas.List.{map-append, append_assoc}
use Rattle.serde_json.specs.Data.{Data}
use Rattle.serde_json.specs.View.{view}
use Rattle.serde_json.specs.declared.value.Value.{Value}

pub one_more : (done : List Value) (v : Value) (d : Data) (left later all : List Data)
    → map view done ++ left ≡ all → left ≡ d ∷ later → view v ≡ d
    → map view (done ++ v ∷ []) ++ later ≡ all
one_more done v d left later all before next is =
    ap (λ (l : List Data). l ++ later) (map-append view done (v ∷ []))
    ∙ (append_assoc (map view done) (view v ∷ []) later
    ∙ (ap (λ (x : Data). map view done ++ x ∷ later) is
    ∙ (ap (λ (l : List Data). map view done ++ l) (sym next) ∙ before)))
