-- What two clauses say of one result.
use Rattle.std.specs.Prelude.{Result, Ok, Err, IfOk}

pub both_ok : {X E : Type 0} (r : Result X E) (P Q S : X → Type 0) → IfOk r P → IfOk r Q
    → ((x : X) → P x → Q x → S x) → IfOk r S
both_ok (Ok x) P Q S p q both = both x p q
both_ok (Err e) P Q S p q both = tt
