-- What stands before the ending of a word.
use Rattle.std.proofs.Common.{◌≡◌, ℕ, ◌+◌, ◌-◌, true, false, List, length, take, Option, Some, None}
use Rattle.std.proofs.Common.{Bor, option_copied, refl, sym, ap, ◌∙◌}
use Rattle.std.specs.Prelude.{nat_eq, MatchOption}
use Rattle.std.specs.List.{ends_with}
use Rattle.std.specs.Str.Pattern.{FindsTextSuffix}
use Rattle.std.proofs.lemmas.Str.Pattern.{ends_text}
use Rattle.std.proofs.lemmas.Slice.Eq.{ends_is}
use Rattle.std.proofs.lemmas.Bool.Decides.{Decides-eqb}
use Rattle.seq_program.specs.CommandWords.{before}

pub stripped : (ending word : List ℕ) (r : Option (Bor (List ℕ)))
    → MatchOption r (FindsTextSuffix ending word None) (λ x. (n : ℕ) × FindsTextSuffix ending word
    (Some n) × (x.now ≡ take (length word - n) word) × (length x.now + n ≡ length word))
    → option_copied r ≡ before ending word
unfolding before
stripped ending word None h =
    let no : ends_with nat_eq word ending ≡ false = sym (ends_text false ending word h) in
    rw no
stripped ending word (Some x) h =
    let ends : ends_with nat_eq word ending ≡ true =
    (ends_is Decides-eqb word ending _ refl).1 (take (length word - h.0) word) h.1.1 in
    let rest : x.now ≡ take (length word - length ending) word =
    h.2 ∙ ap (λ (n : ℕ). take (length word - n) word) h.1.0 in
    rw ends (ap Some rest)
