use Rattle.std.proofs.Common.{◌≡◌, ◌++◌, ◌∷◌, ◌+◌, ◌∙◌, ℕ, List, IfSome, ap, arith, drop, length}
use Rattle.std.proofs.Common.{refl, subst, sym}
use Rattle.std.specs.Prelude.{string_bytes}
use Rattle.std.specs.Iterator.Adapters.{zip_first, zip_second}
use Rattle.std.specs.List.{zip}
use Rattle.std.proofs.lemmas.Iterator.{YieldsList-from_slice, YieldsList-from_zip}
use Rattle.std.proofs.lemmas.Iterator.Consumers.{YieldsList-turn, YieldsList-end}
use Rattle.std.proofs.lemmas.Iterator.Splits.{YieldsList-from_str_split}
use Rattle.std.proofs.lemmas.List.{at_drop_more, at_drop_all, length_push}
use Rattle.sentences.specs.Sentences.{texts_of, words_of}
use Rattle.sentences.specs.Words.{said}
use Rattle.sentences.proofs.Telling.{Telling, all_told, one_told}
use Rattle.sentences.proofs.sentence.Sentence.told.Goals as goal

pub loop-piece-preserved : goal.loop-piece-preserved
loop-piece-preserved c =
    let i = c.into_iter-piece-iterator.result in
    let s = c.args.self.now in
    let all = zip (texts_of s.template.now) (words_of s) in
    let n : ℕ = length c.loop-piece.yielded in
    let texts = YieldsList-from_str_split {s = zip_first i} 0 s.template.now (omega arith) (cc) (cc)
    (cc) in
    let words = YieldsList-from_slice {s = zip_second i} (words_of s) (cc) in
    let turn = YieldsList-turn (YieldsList-from_zip {s = i} texts words) c.loop-piece.yielded
    c.loop-piece.piece-iterator c.loop-piece.yielded_by c.next.result c.next.new.self
    (c.in-Some.piece, c.in-Some.word) c.in-Some.is
    c.next.ensures.steps in
    let piece = c.in-Some.piece.now in
    let word = c.in-Some.word.now in
    let left = drop (n + 1) all in
    let old = string_bytes c.loop-piece.text in
    let new = string_bytes c.push_word.new.text in
    let next : drop n all ≡ (piece, word) ∷ left =
    at_drop_more (λ xs. xs) all n _ turn.0 ∙ ap (λ part. part ∷ left) (sym turn.1) in
    let added = subst (λ (text : List ℕ). IfSome (said word) (λ t. new ≡ text ++ t))
    c.in_ok-push_str.ensures.bytes c.in_ok-push_word.ensures in
    let told = one_told all (piece, word) left old new added
    (subst (λ parts. Telling all parts old) next c.loop-piece.invariant) in
    subst (λ (m : ℕ). Telling all (drop m all) new)
    (sym (length_push c.loop-piece.yielded (c.in-Some.piece, c.in-Some.word))) told

pub returns : goal.returns
returns c =
    let i = c.into_iter-piece-iterator.result in
    let s = c.args.self.now in
    let all = zip (texts_of s.template.now) (words_of s) in
    let texts = YieldsList-from_str_split {s = zip_first i} 0 s.template.now (omega arith) (cc) (cc)
    (cc) in
    let words = YieldsList-from_slice {s = zip_second i} (words_of s) (cc) in
    let end = YieldsList-end (YieldsList-from_zip {s = i} texts words) c.loop-piece.yielded
    c.loop-piece.piece-iterator c.loop-piece.yielded_by c.next.result c.next.new.self c.in-None.is
    c.next.ensures.steps in
    let none = at_drop_all (λ xs. xs) all (length c.loop-piece.yielded) (omega (arith, end.1)) in
    let text = string_bytes c.loop-piece.text in
    all_told all text (subst (λ parts. Telling all parts text) none c.loop-piece.invariant) _ refl
