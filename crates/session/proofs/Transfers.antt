-- What a loop over a reader has kept.
use Rattle.std.proofs.Common.{◌≡◌, ℕ, ◌+◌, ◌-◌, ◌<◌, ◌≤◌, min, Bool, true, false, ltb, List, []}
use Rattle.std.proofs.Common.{◌++◌, length, take, Option, refl, sym, ap, subst, ◌∙◌, inl, inr}
use Rattle.std.proofs.Common.{arith}
use Rattle.std.specs.Prelude.{IfSome}
use Rattle.std.specs.Io.KnownBytes.{Consumes, IsAtEnd}
use Rattle.std.proofs.KnownBytes.{Consumes-nil, Consumes-trans, Consumes-whole}
use Rattle.std.proofs.lemmas.Bool.{cases_lt, lt-ltb, le-ltb}
use Rattle.std.proofs.lemmas.List.{append-nil, take-append-le, take_all, take_min, length-take}
use Rattle.std.proofs.lemmas.List.{length-append}
use Rattle.std.proofs.Math.Seq.{take-append-add}
use Rattle.session.specs.Intake.{kept_limit, IsFrontOf, IsKeptOfAll}

pub record HasRead (first now : Option (List ℕ)) (kept : List ℕ) (too_large : Bool) : Type 0 where
  pub seen : List ℕ
  pub came : Consumes first now seen
  pub front : IsFrontOf kept too_large seen

-- ---- one more piece

take_joined : (limit : ℕ) (all piece : List ℕ)
    → take limit (all ++ piece) ≡ take limit all ++ take (limit - length all) piece
take_joined limit all piece =
    elim (cases_lt limit (length all)) [
      | inl lt ↦
          let le : limit ≤ length all = omega arith in
          let none : limit - length all ≡ 0 = omega arith in
          rw (take-append-le limit all piece le, none) (sym (append-nil (take limit all)))
      | inr le ↦
          let whole : limit ≡ length all + (limit - length all) = omega arith in
          let lhs : take limit (all ++ piece) ≡ all ++ take (limit - length all) piece =
          ap (λ (n : ℕ). take n (all ++ piece)) whole
          ∙ take-append-add all piece (limit - length all) in
          lhs
          ∙ ap (λ (xs : List ℕ). xs ++ take (limit - length all) piece)
          (sym (take_all limit all le))
    ]

kept_joined : (limit : ℕ) (kept all piece : List ℕ) → kept ≡ take limit all
    → kept ++ take (min (length piece) (limit - length kept)) piece ≡ take limit (all ++ piece)
kept_joined limit kept all piece e =
    let len : length kept ≡ min limit (length all) = ap length e ∙ length-take limit all in
    let room : limit - length kept ≡ limit - length all = omega arith in
    let order : min (length piece) (limit - length all) ≡ min (limit - length all) (length piece) =
    omega arith in
    rw (room, order, take_min (limit - length all) piece)
    (ap (λ (xs : List ℕ). xs ++ take (limit - length all) piece) e
    ∙ sym (take_joined limit all piece))

pub keep_front : (kept all piece new : List ℕ) (over : Bool) (count : ℕ) → IsFrontOf kept over all
    → count ≡ min (length piece) (kept_limit - length kept) → new ≡ kept ++ take count piece
    → count < length piece → IsFrontOf new true (all ++ piece)
keep_front kept all piece new over count front e grown lt =
    let len : length kept ≡ min kept_limit (length all) =
    ap length front.bytes ∙ length-take kept_limit all in
    let past : kept_limit < length (all ++ piece) = omega (arith, length-append all piece) in
    record {
      bytes =
          grown ∙ ap (λ (n : ℕ). kept ++ take n piece) e
          ∙ kept_joined kept_limit kept all piece front.bytes;
      more = sym (lt-ltb _ _ past);
    }

pub keep_all : (kept all piece new : List ℕ) (over : Bool) (count : ℕ) → IsFrontOf kept over all
    → count ≡ min (length piece) (kept_limit - length kept) → new ≡ kept ++ take count piece
    → length piece ≤ count → IsFrontOf new over (all ++ piece)
keep_all kept all piece new over count front e grown le =
    let len : length kept ≡ min kept_limit (length all) =
    ap length front.bytes ∙ length-take kept_limit all in
    let same : ltb kept_limit (length all) ≡ ltb kept_limit (length (all ++ piece)) =
    elim (cases_lt kept_limit (length all)) [
      | inl lt ↦ lt-ltb _ _ lt ∙ sym (lt-ltb _ _ (omega (arith, length-append all piece)))
      | inr le' ↦ le-ltb _ _ le' ∙ sym (le-ltb _ _ (omega (arith, length-append all piece)))
    ] in
    record {
      bytes =
          grown ∙ ap (λ (n : ℕ). kept ++ take n piece) e
          ∙ kept_joined kept_limit kept all piece front.bytes;
      more = front.more ∙ same;
    }

-- ---- the loops

pub read_more : (first now next : Option (List ℕ)) (kept new piece : List ℕ) (over over' : Bool)
    → HasRead first now kept over → Consumes now next piece
    → ((all : List ℕ) → IsFrontOf kept over all → IsFrontOf new over' (all ++ piece))
    → HasRead first next new over'
read_more first now next kept new piece over over' h came grows = record {
  seen = h.seen ++ piece;
  came = Consumes-trans first now next h.seen piece h.came came;
  front = grows h.seen h.front;
}

pub read_all : (first now next : Option (List ℕ)) (kept : List ℕ) (over : Bool)
    → HasRead first now kept over → Consumes now next [] → IsAtEnd next
    → IfSome first (IsFrontOf kept over)
read_all first now next kept over h came end =
    Consumes-whole first next h.seen (IsFrontOf kept over) (subst (Consumes first next)
    (append-nil h.seen) (Consumes-trans first now next h.seen [] h.came came)) end h.front

pub kept_whole : (first now next : Option (List ℕ)) (kept : List ℕ) (over : Bool)
    → HasRead first now kept over → Consumes now next [] → IsAtEnd next
    → IsKeptOfAll first next kept over
kept_whole first now next kept over h came end = record {
  all = h.seen;
  read = record {
    came =
        subst (Consumes first next) (append-nil h.seen)
        (Consumes-trans first now next h.seen [] h.came came);
    ended = end;
  };
  front = h.front;
}

pub read_none : (a : Option (List ℕ)) → HasRead a a [] false
read_none a =
    record { seen = []; came = Consumes-nil a; front = record { bytes = refl; more = refl } }
