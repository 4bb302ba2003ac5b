-- What stands before an ending.
use Rattle.std.proofs.Common.{◌≡◌, ℕ, ◌-◌, List, ◌++◌, length, take, drop, true, Option, Some, None}
use Rattle.std.proofs.Common.{Bor, MatchOption, option_copied, refl, sym, ap, ◌∙◌, arith, inl, inr}
use Rattle.std.specs.Str.{bytes_eq}
use Rattle.std.specs.Str.Pattern.{FindsTextSuffix, StripsSuffix}
use Rattle.std.proofs.lemmas.Bool.{cases_Bool}
use Rattle.std.proofs.lemmas.List.{take-append-drop, length-take-le}
use Rattle.std.proofs.lemmas.Slice.Eq.{bytes_eq-Decides}
use Rattle.std.proofs.Math.Seq.{drop-append_seam}
use Rattle.plans.specs.Numbers.{before_ending}

-- the ending is what is left behind the text before it
behind : (front ending word : List ℕ) → word ≡ front ++ ending → drop (length front) word ≡ ending
behind front ending word e = ap (drop (length front)) e ∙ drop-append_seam front ending

pub cut_ending : (ending word : List ℕ) (r : Option (Bor (List ℕ)))
    → MatchOption r (FindsTextSuffix ending word None)
    (λ x. StripsSuffix (FindsTextSuffix ending) word x.now)
    → option_copied r ≡ before_ending ending word
cut_ending ending word None none =
    let at = length word - length ending in
    elim (cases_Bool (bytes_eq (drop at word) ending)) [
      | inl t ↦
          let same : drop at word ≡ ending = (bytes_eq-Decides (drop at word) ending).0 t in
          absurd (none (take at word)
          (sym (take-append-drop at word) ∙ ap (λ back. take at word ++ back) same))
      | inr f ↦ rw f refl
    ]
cut_ending ending word (Some x) (n, found, cut, long) =
    let at = length word - n in
    let front : length (take at word) ≡ at = length-take-le at word (omega arith) in
    let back : drop at word ≡ ending =
    ap (λ k. drop k word) (sym front) ∙ behind (take at word) ending word found.1 in
    let same : drop (length word - length ending) word ≡ ending =
    ap (λ k. drop (length word - k) word) (sym found.0) ∙ back in
    let t : bytes_eq (drop (length word - length ending) word) ending ≡ true =
    (bytes_eq-Decides _ _).1 same in
    rw t (ap Some (cut ∙ ap (λ k. take (length word - k) word) found.0))
