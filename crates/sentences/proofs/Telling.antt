-- A sentence is told part by part.
use Rattle.std.proofs.Common.{◌≡◌, ◌++◌, ◌∙◌, ℕ, List, [], ◌∷◌, Option, Some, None, IfSome}
use Rattle.std.proofs.Common.{refl, sym, ap, subst, append_assoc, append-nil, arith}
use Rattle.std.specs.Prelude.{unwrap_or}
use Rattle.std.specs.Fmt.{◌++?◌}
use Rattle.sentences.specs.declared.word.Word.{Word}
use Rattle.sentences.specs.Sentences.{told_of}
use Rattle.sentences.specs.Words.{said}

abbrev Texts : Type 0
Texts = Option (List ℕ)

abbrev Parts : Type 0
Parts = List (List ℕ × Word)

none_some : {x : List ℕ} → None ≡ Some x → ⊥
none_some e = absurd (grind (arith, e))

-- what is told of a part and of those behind it, where something is
record Told (text : List ℕ) (word rest : Texts) (told : List ℕ) : Type 0 where
  pub said : List ℕ
  pub behind : List ℕ
  pub word_is : word ≡ Some said
  pub rest_is : rest ≡ Some behind
  pub is : told ≡ text ++ (said ++ behind)

told_parts : (text : List ℕ) (word rest : Texts) (told : List ℕ)
    → Some text ++? (word ++? rest) ≡ Some told → Told text word rest told
told_parts text None rest told e = absurd (none_some e)
told_parts text (Some said) None told e = absurd (none_some e)
told_parts text (Some said) (Some behind) told e = record {
  said = said;
  behind = behind;
  word_is = refl;
  rest_is = refl;
  is = sym (ap (λ o. unwrap_or o []) e);
}

-- so far all but the last parts are told
pub record IsLeft (left : Parts) (text told : List ℕ) : Type 0 where
  pub rest : List ℕ
  pub left_is : told_of left ≡ Some rest
  pub is : told ≡ text ++ rest

abbrev pub Telling : Parts → Parts → List ℕ → Type 0
Telling all left text = (told : List ℕ) → told_of all ≡ Some told → IsLeft left text told

pub nothing_told : (all : Parts) → Telling all all []
nothing_told all told e = record { rest = told; left_is = e; is = refl }

of_word : (word : Texts) (said : List ℕ) (P : List ℕ → Type 0) → word ≡ Some said
    → IfSome word P → P said
of_word None said P e h = absurd (none_some e)
of_word (Some s) said P e h = subst P (ap (λ o. unwrap_or o []) e) h

-- the next part is told
pub one_told : (all : Parts) (part : List ℕ × Word) (left : Parts) (old new : List ℕ)
    → IfSome (said part.1) (λ word. new ≡ (old ++ part.0) ++ word)
    → Telling all (part ∷ left) old → Telling all left new
one_told all part left old new added telling told e =
    let l = telling told e in
    let p = told_parts part.0 (said part.1) (told_of left) l.rest l.left_is in
    let now = of_word (said part.1) p.said (λ word. new ≡ (old ++ part.0) ++ word) p.word_is added
    in
    record {
      rest = p.behind;
      left_is = p.rest_is;
      is = l.is ∙ ap (λ r. old ++ r) p.is ∙ sym (append_assoc old part.0 (p.said ++ p.behind))
          ∙ sym (append_assoc (old ++ part.0) p.said p.behind)
          ∙ ap (λ t. t ++ p.behind) (sym now);
    }

-- all parts are told
pub all_told : (all : Parts) (text : List ℕ) → Telling all [] text
    → (o : Texts) → told_of all ≡ o → IfSome o (λ told. text ≡ told)
all_told all text telling None e = tt
all_told all text telling (Some told) e =
    let l = telling told e in
    let none : l.rest ≡ [] = sym (ap (λ o. unwrap_or o []) l.left_is) in
    sym (l.is ∙ ap (λ r. text ++ r) none ∙ append-nil text)
