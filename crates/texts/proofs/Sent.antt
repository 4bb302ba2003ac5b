-- What a loop over a writer has sent.
use Rattle.std.proofs.Common.{◌≡◌, ◌≢◌, ℕ, List, [], ◌++◌, take, drop, Option, refl, sym, ap, subst}
use Rattle.std.proofs.Common.{◌∙◌, append_assoc}
use Rattle.std.specs.Io.KnownBytes.{Appends, Keeps}
use Rattle.std.proofs.KnownBytes.{Appends-nil, Appends-trans, Appends-kept}
use Rattle.std.proofs.lemmas.List.{append-nil, take-append-drop}
use Rattle.texts.specs.Sending.{AppendsBeginning}

pub record HasSent (first now : Option (List ℕ)) (text rest : List ℕ) : Type 0 where
  pub sent : List ℕ
  pub parts : text ≡ sent ++ rest
  pub got : Appends first now sent

pub sent_more : (first now next : Option (List ℕ)) (text rest : List ℕ) (n : ℕ)
    → HasSent first now text rest → Appends now next (take n rest)
    → HasSent first next text (drop n rest)
sent_more first now next text rest n h got = record {
  sent = h.sent ++ take n rest;
  parts =
      h.parts ∙ ap (λ (xs : List ℕ). h.sent ++ xs) (sym (take-append-drop n rest))
      ∙ sym (append_assoc h.sent (take n rest) (drop n rest));
  got = Appends-trans first now next h.sent (take n rest) h.got got;
}

pub sent_part : (first now next : Option (List ℕ)) (text rest : List ℕ)
    → HasSent first now text rest → rest ≢ [] → Keeps now next → AppendsBeginning first next text
sent_part first now next text rest h some kept = record {
  sent = h.sent;
  unsent = rest;
  parts = h.parts;
  short = some;
  got = Appends-kept first now next h.sent h.got kept;
}

pub sent_all : (first now : Option (List ℕ)) (text rest : List ℕ) → HasSent first now text rest
    → rest ≡ [] → Appends first now text
sent_all first now text rest h none =
    subst (Appends first now)
    (sym (h.parts ∙ ap (λ (xs : List ℕ). h.sent ++ xs) none ∙ append-nil h.sent)) h.got

pub sent_none : (a : Option (List ℕ)) (text : List ℕ) → HasSent a a text text
sent_none a text = record { sent = []; parts = refl; got = Appends-nil a }
