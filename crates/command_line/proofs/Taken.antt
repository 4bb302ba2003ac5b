-- What a reader that is cut off gives.
use Rattle.std.proofs.Common.{◌≡◌, ℕ, List, [], ◌++◌, take, Option, Some, None, option_map, subst}
use Rattle.std.specs.Prelude.{IfSome}

abbrev Gives : Option (List ℕ) → List ℕ → List ℕ → ℕ → Type 0
Gives all old new n = IfSome (option_map (take n) all) (λ xs. new ≡ old ++ xs)

of_all : (all : Option (List ℕ)) (new : List ℕ) (n : ℕ) → Gives all [] new n
    → IfSome all (λ xs. new ≡ take n xs)
of_all None new n given = tt
of_all (Some xs) new n given = given

pub taken : {R : Type 0} (remaining : R → Option (List ℕ)) (limit n : ℕ) (inner reader : R)
    (old new : List ℕ) → limit ≡ n → inner ≡ reader → old ≡ []
    → IfSome (option_map (take limit) (remaining inner)) (λ xs. new ≡ old ++ xs)
    → IfSome (remaining reader) (λ all. new ≡ take n all)
taken remaining limit n inner reader old new same_limit same_reader empty given =
    let at_limit = subst (λ (l : ℕ). Gives (remaining inner) old new l) same_limit given in
    let of_reader = subst (λ (r : _). Gives (remaining r) old new n) same_reader at_limit in
    of_all (remaining reader) new n
    (subst (λ (o : List ℕ). Gives (remaining reader) o new n) empty of_reader)
