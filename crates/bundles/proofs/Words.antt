-- Words cut at a key or at a byte.
use Rattle.std.proofs.Common.{◌≡◌, ℕ, ◌+◌, ◌<◌, nat_lt, true, false, List, length, drop, Option}
use Rattle.std.proofs.Common.{Some, None, Bor, option_copied, option_map, refl, sym, ap, ◌∙◌, arith}
use Rattle.std.specs.Prelude.{nat_eq, MatchOption, ◌==◌}
use Rattle.std.specs.List.{starts_with, position_or_len}
use Rattle.std.specs.Str.Pattern.{FindsTextPrefix}
use Rattle.std.proofs.lemmas.Str.Pattern.{starts_text, IsSplitOnceResult, split_once_first}
use Rattle.std.proofs.lemmas.Slice.Eq.{starts_is}
use Rattle.std.proofs.lemmas.Bool.Decides.{Decides-eqb}
use Rattle.std.proofs.lemmas.Bool.{lt-ltb, le-ltb}
use Rattle.bundles.specs.Fields.{after_key, cut_at}

pub stripped : (key word : List ℕ) (r : Option (Bor (List ℕ)))
    → MatchOption r (FindsTextPrefix key word None) (λ x. (n : ℕ)
    × FindsTextPrefix key word (Some n) × (x.now ≡ drop n word) × (length x.now + n ≡ length word))
    → option_copied r ≡ after_key key word
unfolding after_key
stripped key word None h =
    let no : starts_with nat_eq word key ≡ false = sym (starts_text false key word h) in
    rw no
stripped key word (Some x) h =
    let starts : starts_with nat_eq word key ≡ true =
    (starts_is Decides-eqb word key _ refl).1 (drop h.0 word) h.1.1 in
    let rest : x.now ≡ drop (length key) word = h.2 ∙ ap (λ (n : ℕ). drop n word) h.1.0 in
    rw starts (ap Some rest)

pub cut : (c : ℕ) (text : List ℕ) (r : Option (Bor (List ℕ) × Bor (List ℕ)))
    → IsSplitOnceResult c text r → c < 128
    → option_map (λ (p : Bor (List ℕ) × Bor (List ℕ)). (p.0.now, p.1.now)) r ≡ cut_at c text
cut c text None h low = let m = split_once_first c text None h low in
    let no : nat_lt (position_or_len (λ b. b == c) text) (length text) ≡ false =
    le-ltb _ _ (omega (arith, m)) in
    rw no
cut c text (Some x) h low = let m = split_once_first c text (Some x) h low in
    let within : nat_lt (position_or_len (λ b. b == c) text) (length text) ≡ true =
    lt-ltb _ _ m.0 in
    rw within (ap Some (cc (m.1, m.2)))
