use Rattle.std.proofs.Common.{◌≡◌, ℕ, ◌≤◌, List, [], ◌∷◌, ◌++◌, length, drop, get_or, Option, Some}
use Rattle.std.proofs.Common.{None, option_map, option_and_then, refl, sym, ap, ◌∙◌, append_assoc}
use Rattle.std.proofs.Common.{arith, rules}
use Rattle.std.proofs.lemmas.List.{take_rest}
use Rattle.texts.specs.Hex.{pair_of, pairs_of}
use Rattle.texts.proofs.HexLaws.{pairs_only, pairs_spelled}
use Rattle.texts.proofs.hex.pairs_of.Goals as goal

appended : (done : List ℕ) (b : ℕ) (o : Option (List ℕ))
    → option_map (λ more. (done ++ b ∷ []) ++ more) o
    ≡ option_map (λ more. done ++ more) (option_map (λ bs. b ∷ bs) o)
appended done b None = refl
appended done b (Some more) = ap Some (append_assoc done (b ∷ []) more)

one_pair : (done xs : List ℕ) (b : ℕ) → 2 ≤ length xs
    → pair_of (get_or xs 0 0 ∷ get_or xs 1 0 ∷ []) ≡ Some b
    → option_map (λ more. (done ++ b ∷ []) ++ more) (pairs_of (drop 2 xs))
    ≡ option_map (λ more. done ++ more) (pairs_of xs)
unfolding pairs_of
one_pair done [] b h e = absurd (omega arith)
one_pair done (x ∷ []) b h e = absurd (omega arith)
one_pair done (x ∷ y ∷ xs) b h e =
    let read = λ (o : Option ℕ). option_map (λ more. done ++ more)
    (option_and_then (λ b. option_map (λ bs. b ∷ bs) (pairs_of xs)) o) in
    appended done b (pairs_of xs) ∙ sym (ap read e)

pub loop-rest-preserved : goal.loop-rest-preserved
loop-rest-preserved c =
    let e = c.in-Some.ensures in
    let i = c.in_ok-push.ensures.items in
    rw (take_rest c.loop-rest.rest.now 2, i) (one_pair c.loop-rest.bytes.items c.loop-rest.rest.now
    c.in-Some.byte (omega arith) (sym e) ∙ c.loop-rest.invariant)

pub returns-in_default-byte_of-clause-only : goal.returns-in_default-byte_of-clause-only
unfolding pairs_of
returns-in_default-byte_of-clause-only c =
    let read : None ≡ pairs_of c.args.text.now = search rules in
    pairs_only _ _ read

pub returns-then-is_empty-clause-spelled : goal.returns-then-is_empty-clause-spelled
unfolding pairs_of
returns-then-is_empty-clause-spelled c =
    let read : Some c.loop-rest.bytes.items ≡ pairs_of c.args.text.now = search rules in
    pairs_spelled _ _ read

pub returns-then-is_empty-clause-only : goal.returns-then-is_empty-clause-only
unfolding pairs_of
returns-then-is_empty-clause-only c =
    let read : Some c.loop-rest.bytes.items ≡ pairs_of c.args.text.now = search rules in
    pairs_only _ _ read

pub returns-else-is_empty-clause-only : goal.returns-else-is_empty-clause-only
unfolding pairs_of
returns-else-is_empty-clause-only c =
    let read : None ≡ pairs_of c.args.text.now = search rules in
    pairs_only _ _ read
