-- Addresses of others, read one after another.
use Rattle.std.proofs.Common.{◌≡◌, ◌<◌, ◌+◌, ◌++◌, ◌∷◌, ℕ, [], List, Result, Err, length, drop, sym}
use Rattle.std.proofs.Common.{subst, ◌∙◌}
use Rattle.std.proofs.Math.ListN.{get_or}
use Rattle.std.proofs.lemmas.List.{at_drop_more}
use Rattle.toml.specs.declared.value.Value.{Value}
use Rattle.toml.specs.View.{view, items_view}
use Rattle.texts.specs.Reading.{◌>>=◌}
use Rattle.board.specs.declared.fault.BoardFault.{BoardFault}
use Rattle.board.specs.Boards.{Target}
use Rattle.board.specs.Foreign.{new_foreign, addresses_of}

pub address_refused : (targets : List Target) (done : List ℕ) (values : List Value) (i : ℕ)
    (value : Value) (fault : BoardFault) (whole : Result (List ℕ) BoardFault)
    → i < length values → value ≡ get_or values i value
    → new_foreign targets done (view value) ≡ Err fault
    → addresses_of targets done (items_view (drop i values)) ≡ whole → whole ≡ Err fault
address_refused targets done values i value fault whole lt is refused e =
    sym e ∙ rw refused at read
  where
    read : addresses_of targets done (items_view (drop i values))
        ≡ (new_foreign targets done (view value)
        >>= λ a. addresses_of targets (done ++ a ∷ []) (items_view (drop (i + 1) values)))
    read =
        subst (λ v. addresses_of targets done (items_view (drop i values))
        ≡ (new_foreign targets done (view v)
        >>= λ a. addresses_of targets (done ++ a ∷ []) (items_view (drop (i + 1) values))))
        (sym is) (at_drop_more (λ vs. addresses_of targets done (items_view vs)) values i value lt)
