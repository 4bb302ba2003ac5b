-- Bytes that are listed are read one after another.
use Rattle.std.proofs.Common.{◌≡◌, ◌<◌, ◌+◌, ◌++◌, ◌∷◌, [], ℕ, List, Bor, Option, None, Some, sym}
use Rattle.std.proofs.Common.{map, drop, length, option_map}
use Rattle.std.proofs.Math.ListN.{get_or}
use Rattle.std.proofs.lemmas.List.{append_assoc, at_drop_more}
use Rattle.texts.specs.Hex.{pair_of}
use Rattle.bundles.specs.Answers.{bytes_in}

abbrev pub bytes_of : List (Bor (List ℕ)) → Option (List ℕ)
bytes_of parts = bytes_in (map (λ x. x.now) parts)

-- what is held, and what is still to come, are the same with one byte more held
held_more : (held : List ℕ) (byte : ℕ) (left next whole : Option (List ℕ))
    → left ≡ option_map (λ bytes. byte ∷ bytes) next
    → option_map (λ more. held ++ more) left ≡ whole
    → option_map (λ more. (held ++ (byte ∷ [])) ++ more) next ≡ whole
held_more held byte left None whole seen e = let h = rw seen at e in h
held_more held byte left (Some later) whole seen e =
    let h = rw seen at e in
    rw (append_assoc held (byte ∷ []) later) h

-- the same where the byte is that of the next part
pub one_more : (held : List ℕ) (byte : ℕ) (parts : List (Bor (List ℕ))) (i : ℕ) (d : Bor (List ℕ))
    (whole : Option (List ℕ))
    → i < length parts
    → Some byte ≡ pair_of (get_or parts i d).now
    → option_map (λ more. held ++ more) (bytes_of (drop i parts)) ≡ whole
    → option_map (λ more. (held ++ (byte ∷ [])) ++ more) (bytes_of (drop (i + 1) parts)) ≡ whole
unfolding bytes_in
one_more held byte parts i d whole few named e =
    let seen = at_drop_more bytes_of parts i d few in
    let known = rw (sym named) at seen in
    held_more held byte (bytes_of (drop i parts)) (bytes_of (drop (i + 1) parts)) whole known e
