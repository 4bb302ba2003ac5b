-- Which messages look like a Send Byte, or like a Read Word.
use Rattle.std.proofs.Common.{◌≡◌, ℕ, zero, suc, ◌+◌, ◌*◌, ◌<◌, Bool, true, false, Option, Some}
use Rattle.std.proofs.Common.{None, List, [], ◌∷◌, ◌++◌, length, refl, sym, ap, subst, ◌∙◌, arith}
use Rattle.smbus.specs.declared.message.Form.{Form}
use Rattle.smbus.specs.declared.message.Form.TheVariants.{Quick, SendByte, ReceiveByte, WriteByte}
use Rattle.smbus.specs.declared.message.Form.TheVariants.{WriteWord, ReadByte, ReadWord}
use Rattle.smbus.specs.declared.message.Form.TheVariants.{ProcessCall, BlockWrite, BlockRead}
use Rattle.smbus.specs.declared.message.Form.TheVariants.{BlockProcessCall, Alert}
use Rattle.smbus.specs.Protocol.{Piece, low, high, whole_of, refused_at, sent_count, up_to_refused}
use Rattle.smbus.specs.Protocol.{HasLength, IsNumbered}
use Rattle.smbus.specs.Protocol.Piece.{Sent, Refused, Got, Repeat}
use Rattle.smbus.proofs.Fronts.{Token, tokens}

-- a refused frame ends in a byte that isn't acknowledged

pub record Ends (n : ℕ) (pieces : List Piece) : Type 0 where
  pub front : List Token
  pub byte : ℕ
  pub was : Bool
  pub more : List Token
  pub refused : tokens (refused_at n pieces) ≡ front ++ Some (byte, false) ∷ []
  pub whole : tokens pieces ≡ front ++ Some (byte, was) ∷ more

ends_more : (t : Token) (n k : ℕ) (p : Piece) (later : List Piece)
    → tokens (refused_at n (p ∷ later)) ≡ t ∷ tokens (refused_at k later)
    → tokens (p ∷ later) ≡ t ∷ tokens later → Ends k later → Ends n (p ∷ later)
ends_more t n k p later r w e = record {
  front = t ∷ e.front;
  byte = e.byte;
  was = e.was;
  more = e.more;
  refused = r ∙ ap (λ (l : List Token). t ∷ l) e.refused;
  whole = w ∙ ap (λ (l : List Token). t ∷ l) e.whole;
}

pub ends_refused : (n : ℕ) (pieces : List Piece) → n < sent_count pieces → Ends n pieces
ends_refused n [] lt = absurd (omega arith)
ends_refused zero (Sent b ∷ later) lt =
    record { front = []; byte = b; was = true; more = tokens later; refused = refl; whole = refl }
ends_refused (suc n) (Sent b ∷ later) lt =
    ends_more (Some (b, true)) (suc n) n (Sent b) later refl refl
    (ends_refused n later (omega arith))
ends_refused zero (Refused b ∷ later) lt =
    record { front = []; byte = b; was = false; more = tokens later; refused = refl; whole = refl }
ends_refused (suc n) (Refused b ∷ later) lt =
    record { front = []; byte = b; was = false; more = tokens later; refused = refl; whole = refl }
ends_refused zero (Got b more ∷ later) lt =
    ends_more (Some (b, more)) zero zero (Got b more) later refl refl (ends_refused zero later lt)
ends_refused (suc n) (Got b more ∷ later) lt =
    ends_more (Some (b, more)) (suc n) (suc n) (Got b more) later refl refl
    (ends_refused (suc n) later lt)
ends_refused zero (Repeat ∷ later) lt =
    ends_more None zero zero Repeat later refl refl (ends_refused zero later lt)
ends_refused (suc n) (Repeat ∷ later) lt =
    ends_more None (suc n) (suc n) Repeat later refl refl (ends_refused (suc n) later lt)

-- a Send Byte

abbrev pub sent_tokens : ℕ → ℕ → List Token
sent_tokens x c = Some (2 * x, true) ∷ Some (c, true) ∷ []

abbrev pub IsSend : Form → ℕ → ℕ → ℕ → ℕ → Type 0
IsSend form a code x c = (form ≡ SendByte) × (a ≡ x) × (code ≡ c)

halves : (a x : ℕ) → 2 * a ≡ 2 * x → a ≡ x
halves a x e = omega arith

same_first : (b b' : ℕ × Bool) (l l' : List Token) → let t : List Token = Some b ∷ l in
    t ≡ Some b' ∷ l' → b ≡ b'
same_first b b' l l' e = cc

same_second : (t t' : Token) (b b' : ℕ × Bool) (l l' : List Token)
    → t ∷ Some b ∷ l ≡ t' ∷ Some b' ∷ l' → b ≡ b'
same_second t t' b b' l l' e = cc

untrue : (b : ℕ × Bool) (b' : ℕ × Bool) → b ≡ b' → b.1 ≡ false → b'.1 ≡ true → ⊥
untrue b b' e f t = cc

sends_whole : (form : Form) (a code : ℕ) (out : List ℕ) (value : ℕ) (block : List ℕ) (x c : ℕ)
    → HasLength form (length out) → tokens (whole_of form a code out value block) ≡ sent_tokens x c
    → IsSend form a code x c
sends_whole (Quick true) a code out value block x c h e = absurd (cc)
sends_whole (Quick false) a code out value block x c h e = absurd (cc)
sends_whole SendByte a code out value block x c h e = (
  refl,
  halves a x (ap (λ (b : ℕ × Bool). b.0) (same_first (2 * a, true) (2 * x, true) _ _ e)),
  ap (λ (b : ℕ × Bool). b.0)
      (same_second (Some (2 * a, true)) (Some (2 * x, true)) (code, true) (c, true) [] [] e),
)
sends_whole ReceiveByte a code out value block x c h e =
    absurd (untrue (low value, false) (c, true) (same_second (Some (2 * a + 1, true))
    (Some (2 * x, true)) (low value, false) (c, true) [] [] e) refl refl)
sends_whole WriteByte a code [] value block x c h e = absurd (omega arith)
sends_whole WriteByte a code (v ∷ out) value block x c h e = absurd (cc)
sends_whole WriteWord a code [] value block x c h e = absurd (omega arith)
sends_whole WriteWord a code (v ∷ out) value block x c h e = absurd (cc)
sends_whole ReadByte a code out value block x c h e = absurd (cc)
sends_whole ReadWord a code out value block x c h e = absurd (cc)
sends_whole ProcessCall a code [] value block x c h e = absurd (cc)
sends_whole ProcessCall a code (v ∷ out) value block x c h e = absurd (cc)
sends_whole BlockWrite a code out value block x c h e = absurd (cc)
sends_whole BlockRead a code out value block x c h e = absurd (cc)
sends_whole BlockProcessCall a code out value block x c h e = absurd (cc)
sends_whole Alert a code out value block x c h e =
    absurd (untrue (low value, false) (c, true) (same_second (Some (2 * a + 1, true))
    (Some (2 * x, true)) (low value, false) (c, true) [] [] e) refl refl)

not_sent : (front : List Token) (b x c : ℕ) → front ++ Some (b, false) ∷ [] ≡ sent_tokens x c → ⊥
not_sent [] b x c e = cc
not_sent (s ∷ []) b x c e =
    untrue (b, false) (c, true)
    (same_second s (Some (2 * x, true)) (b, false) (c, true) [] [] e) refl refl
not_sent (s ∷ t ∷ []) b x c e = cc
not_sent (s ∷ t ∷ u ∷ front) b x c e = cc

pub sends_by : (form : Form) (a code : ℕ) (out : List ℕ) (value : ℕ) (block : List ℕ) (x c : ℕ)
    (refuse : Option ℕ) → HasLength form (length out)
    → IsNumbered refuse (sent_count (whole_of form a code out value block))
    → tokens (up_to_refused refuse (whole_of form a code out value block)) ≡ sent_tokens x c
    → (refuse ≡ None) × IsSend form a code x c
sends_by form a code out value block x c None h n e =
    (refl, sends_whole form a code out value block x c h e)
sends_by form a code out value block x c (Some k) h n e =
    let r = ends_refused k (whole_of form a code out value block) n in
    absurd (not_sent r.front r.byte x c (sym r.refused ∙ e))

-- a Read Word

abbrev pub read_tokens : ℕ → ℕ → ℕ → ℕ → Bool → List Token → List Token
read_tokens x command l h last rest =
    Some (2 * x, true) ∷ Some (command, true) ∷ None ∷ Some (2 * x + 1, true) ∷ Some (l, true)
    ∷ Some (h, last) ∷ rest

abbrev pub IsRead : Form → ℕ → ℕ → ℕ → ℕ → ℕ → ℕ → ℕ → Type 0
IsRead form a code value x command l h =
    (form ≡ ReadWord) × (a ≡ x) × (code ≡ command) × (low value ≡ l) × (high value ≡ h)

not_again : (t u t' u' : Token) (b : ℕ × Bool) (l l' : List Token)
    → t ∷ u ∷ Some b ∷ l ≡ t' ∷ u' ∷ None ∷ l' → ⊥
not_again t u t' u' b l l' e = cc

nth_same : (s t u v w x y z : Token) (b b' d d' : ℕ × Bool) (l l' : List Token)
    → s ∷ t ∷ u ∷ v ∷ Some b ∷ Some d ∷ l ≡ w ∷ x ∷ y ∷ z ∷ Some b' ∷ Some d' ∷ l'
    → (b ≡ b') × (d ≡ d')
nth_same s t u v w x y z b b' d d' l l' e = (cc, cc)

fifth_same : (s t u v w x y z : Token) (b b' : ℕ × Bool) (l l' : List Token)
    → s ∷ t ∷ u ∷ v ∷ Some b ∷ l ≡ w ∷ x ∷ y ∷ z ∷ Some b' ∷ l' → b ≡ b'
fifth_same s t u v w x y z b b' l l' e = cc

first_of_pair : (b b' : ℕ × Bool) → b ≡ b' → b.0 ≡ b'.0
first_of_pair b b' e = ap (λ (b : ℕ × Bool). b.0) e

reports_whole : (form : Form) (a code : ℕ) (out : List ℕ) (value : ℕ) (block : List ℕ)
    (x command l h : ℕ) (last : Bool) (rest : List Token) → HasLength form (length out)
    → (form ≡ BlockRead → code ≡ command → ⊥)
    → tokens (whole_of form a code out value block) ≡ read_tokens x command l h last rest
    → IsRead form a code value x command l h
reports_whole (Quick true) a code out value block x command l h last rest n t e = absurd (cc)
reports_whole (Quick false) a code out value block x command l h last rest n t e = absurd (cc)
reports_whole SendByte a code out value block x command l h last rest n t e = absurd (cc)
reports_whole ReceiveByte a code out value block x command l h last rest n t e = absurd (cc)
reports_whole WriteByte a code [] value block x command l h last rest n t e = absurd (cc)
reports_whole WriteByte a code (v ∷ out) value block x command l h last rest n t e = absurd (cc)
reports_whole WriteWord a code [] value block x command l h last rest n t e = absurd (cc)
reports_whole WriteWord a code (v ∷ out) value block x command l h last rest n t e = absurd (cc)
reports_whole ReadByte a code out value block x command l h last rest n t e = absurd (cc)
reports_whole ReadWord a code out value block x command l h last rest n t e =
    let two = nth_same (Some (2 * a, true)) (Some (code, true)) None (Some (2 * a + 1, true))
    (Some (2 * x, true)) (Some (command, true)) None (Some (2 * x + 1, true)) (low value, true)
    (l, true) (high value, false) (h, last) [] rest e in (
      refl,
      halves a x (first_of_pair (2 * a, true) (2 * x, true)
          (same_first (2 * a, true) (2 * x, true) _ _ e)),
      first_of_pair (code, true) (command, true) (same_second (Some (2 * a, true))
          (Some (2 * x, true)) (code, true) (command, true) _ _ e),
      first_of_pair (low value, true) (l, true) two.0,
      first_of_pair (high value, false) (h, last) two.1,
    )
reports_whole ProcessCall a code [] value block x command l h last rest n t e = absurd (omega arith)
reports_whole ProcessCall a code (v ∷ out) value block x command l h last rest n t e = absurd (cc)
reports_whole BlockWrite a code out value block x command l h last rest n t e = absurd (cc)
reports_whole BlockRead a code out value block x command l h last rest n t e =
    absurd (t refl (first_of_pair (code, true) (command, true)
    (same_second (Some (2 * a, true)) (Some (2 * x, true)) (code, true) (command, true) _ _ e)))
reports_whole BlockProcessCall a code out value block x command l h last rest n t e = absurd (cc)
reports_whole Alert a code out value block x command l h last rest n t e = absurd (cc)

pub record Reads (all : List Token) (x command l h : ℕ) : Type 0 where
  pub last : Bool
  pub rest : List Token
  pub is : all ≡ read_tokens x command l h last rest

-- where a frame that ends in a refused byte begins so, the whole one does
unrefused : (front : List Token) (b : ℕ) (was : Bool) (more : List Token) (x command l h : ℕ)
    (rest : List Token) → front ++ Some (b, false) ∷ [] ≡ read_tokens x command l h false rest
    → Reads (front ++ Some (b, was) ∷ more) x command l h
unrefused [] b was more x command l h rest e = absurd (cc)
unrefused (p ∷ []) b was more x command l h rest e = absurd (cc)
unrefused (p ∷ q ∷ []) b was more x command l h rest e = absurd (cc)
unrefused (p ∷ q ∷ r ∷ []) b was more x command l h rest e = absurd (cc)
unrefused (p ∷ q ∷ r ∷ s ∷ []) b was more x command l h rest e = absurd (cc)
unrefused (p ∷ q ∷ r ∷ s ∷ t ∷ []) b was more x command l h rest e =
    let sixth : (b, false) ≡ (h, false) = cc in
    record {
      last = was;
      rest = more;
      is =
          five p q r s t (Some (2 * x, true)) (Some (command, true)) None (Some (2 * x + 1, true))
          (Some (l, true)) (Some (b, false)) (Some (h, false)) (Some (b, was)) (Some (h, was)) []
          rest more e (ap (λ (k : ℕ). Some (k, was)) (first_of_pair (b, false) (h, false) sixth));
    }
  where
    five : (p q r s t p' q' r' s' t' u u' w w' : Token) (l l' more : List Token)
        → p ∷ q ∷ r ∷ s ∷ t ∷ u ∷ l ≡ p' ∷ q' ∷ r' ∷ s' ∷ t' ∷ u' ∷ l' → w ≡ w'
        → p ∷ q ∷ r ∷ s ∷ t ∷ w ∷ more ≡ p' ∷ q' ∷ r' ∷ s' ∷ t' ∷ w' ∷ more
    five p q r s t p' q' r' s' t' u u' w w' l l' more e f = cc
unrefused (p ∷ q ∷ r ∷ s ∷ t ∷ u ∷ front) b was more x command l h rest e = record {
  last = false;
  rest = front ++ Some (b, was) ∷ more;
  is =
      six p q r s t u (Some (2 * x, true)) (Some (command, true)) None (Some (2 * x + 1, true))
      (Some (l, true)) (Some (h, false)) (front ++ Some (b, false) ∷ []) rest
      (front ++ Some (b, was) ∷ more) e;
}
  where
    six : (p q r s t u p' q' r' s' t' u' : Token) (l l' more : List Token)
        → p ∷ q ∷ r ∷ s ∷ t ∷ u ∷ l ≡ p' ∷ q' ∷ r' ∷ s' ∷ t' ∷ u' ∷ l'
        → p ∷ q ∷ r ∷ s ∷ t ∷ u ∷ more ≡ p' ∷ q' ∷ r' ∷ s' ∷ t' ∷ u' ∷ more
    six p q r s t u p' q' r' s' t' u' l l' more e = cc

not_refused : (j a code : ℕ) (out : List ℕ) (value : ℕ) (block : List ℕ) (x command l h : ℕ)
    (rest : List Token) → j < 3
    → tokens (refused_at j (whole_of ReadWord a code out value block))
    ≡ read_tokens x command l h false rest → ⊥
not_refused zero a code out value block x command l h rest lt e = cc
not_refused (suc zero) a code out value block x command l h rest lt e = cc
not_refused (suc (suc zero)) a code out value block x command l h rest lt e = cc
not_refused (suc (suc (suc j))) a code out value block x command l h rest lt e = omega arith

pub reports_by : (form : Form) (a code : ℕ) (out : List ℕ) (value : ℕ) (block : List ℕ)
    (x command l h : ℕ) (rest : List Token) (refuse : Option ℕ) → HasLength form (length out)
    → IsNumbered refuse (sent_count (whole_of form a code out value block))
    → (form ≡ BlockRead → code ≡ command → ⊥)
    → tokens (up_to_refused refuse (whole_of form a code out value block))
    ≡ read_tokens x command l h false rest
    → (refuse ≡ None) × IsRead form a code value x command l h
reports_by form a code out value block x command l h rest None n k t e =
    (refl, reports_whole form a code out value block x command l h false rest n t e)
reports_by form a code out value block x command l h rest (Some j) n k t e =
    let r = ends_refused j (whole_of form a code out value block) k in
    let s = unrefused r.front r.byte r.was r.more x command l h rest (sym r.refused ∙ e) in
    let w =
    reports_whole form a code out value block x command l h s.last s.rest n t (r.whole ∙ s.is) in
    absurd (not_refused j a code out value block x command l h rest
    (subst (λ (form : Form). j < sent_count (whole_of form a code out value block)) w.0 k)
    (subst (λ (form : Form). tokens (refused_at j (whole_of form a code out value block))
    ≡ read_tokens x command l h false rest) w.0 e))
