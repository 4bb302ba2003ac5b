-- The bytes of the targets that alert, target by target; the least of them is the wire's.
use Rattle.std.proofs.Common.{◌≡◌, ◌≢◌, ◌≤◌, ◌<◌, ◌+◌, ◌⊎◌, inl, inr, ℕ, zero, suc, true, false}
use Rattle.std.proofs.Common.{IsTrue, Option, Some, None, MatchOption, IfSome, List, [], ◌∷◌, map}
use Rattle.std.proofs.Common.{filter, drop, slice_get, refl, sym, ap, ◌∙◌, min, arith}
use Rattle.std.specs.List.{enumerate_from, Contains, AllByRecursion}
use Rattle.std.proofs.lemmas.List.Elements.{All-from_recursion, recursion_from_All}
use Rattle.std.proofs.lemmas.Bool.{cases_Bool}
use Rattle.std.proofs.lemmas.Bool.Decides.{nat_tests}
use Rattle.wires.specs.Bits.{bit}
use Rattle.wires.specs.Arbitration.{wire_byte}
use Rattle.wires.specs.ArbitrationLaws.{LeastByteWins}
use Rattle.board.specs.Boards.{Target, Board}
use Rattle.board.specs.Valid.{IsTarget, IsBoard, is_target_address}
use Rattle.targets.specs.States.{BusState}
use Rattle.targets.specs.Alerting.{address_byte, alert_bytes}
use Rattle.targets.specs.Least.{lesser, least_with}

-- those of targets numbered from i on
abbrev pub bytes_from : BusState → ℕ → List Target → List ℕ
bytes_from s i ts =
    map (λ (t : ℕ × Target). address_byte t.1)
    (filter (λ (t : ℕ × Target). bit s.alerting t.0) (enumerate_from i ts))

drop_suc : {X : Type 0} (xs : List X) (i : ℕ) (x : X) → Some x ≡ slice_get xs i
    → drop i xs ≡ x ∷ drop (suc i) xs
drop_suc [] i x e = cc
drop_suc (y ∷ xs) zero x e = let h : x ≡ y = cc in rw h refl
drop_suc (y ∷ xs) (suc i) x e = drop_suc xs i x e

pub drop_at : {X : Type 0} (xs : List X) (i : ℕ) (x : X) → Some x ≡ slice_get xs i
    → drop i xs ≡ x ∷ drop (i + 1) xs
drop_at xs i x e =
    let n : suc i ≡ i + 1 = omega arith in
    drop_suc xs i x e ∙ ap (λ k. x ∷ drop k xs) n

pub sent_at : (s : BusState) (o : Option ℕ) (i : ℕ) (t : Target) (ts : List Target)
    → bit s.alerting i ≡ true
    → least_with o (bytes_from s i (t ∷ ts))
    ≡ least_with (Some (lesser o (address_byte t))) (bytes_from s (i + 1) ts)
sent_at s o i t ts e = rw e refl

pub quiet_at : (s : BusState) (o : Option ℕ) (i : ℕ) (t : Target) (ts : List Target)
    → bit s.alerting i ≡ false
    → least_with o (bytes_from s i (t ∷ ts)) ≡ least_with o (bytes_from s (i + 1) ts)
quiet_at s o i t ts e = rw e refl

-- the least of a byte and others is below all, and one of them
least_from : (n : ℕ) (bs : List ℕ) (m : ℕ) → least_with (Some n) bs ≡ Some m
    → (m ≤ n) × AllByRecursion (λ b. m ≤ b) bs × ((m ≡ n) ⊎ Contains bs m)
least_from n [] m e = let h : n ≡ m = cc in (omega arith, tt, inl (sym h))
least_from n (b ∷ bs) m e =
    let r = least_from (min b n) bs m e in
    let le : m ≤ min b n = r.0 in
    (omega arith, (omega arith, r.1), from_rest b n bs m r.2)
  where
    from_rest : (b n : ℕ) (bs : List ℕ) (m : ℕ) → (m ≡ min b n) ⊎ Contains bs m
        → (m ≡ n) ⊎ Contains (b ∷ bs) m
    from_rest b n bs m (inl e) =
        elim (least_two b n m e) [ inl h ↦ inr (0, omega arith, sym h) | inr h ↦ inl h ]
      where
        least_two : (b n m : ℕ) → m ≡ min b n → (m ≡ b) ⊎ (m ≡ n)
        least_two b n m e = grind arith
    from_rest b n bs m (inr h) = inr (suc h.0, omega arith, h.2)

some_least : (n : ℕ) (bs : List ℕ) → (m : ℕ) × (least_with (Some n) bs ≡ Some m)
some_least n [] = (n, refl)
some_least n (b ∷ bs) = some_least (min b n) bs

contained : (b : ℕ) (bs : List ℕ) (m : ℕ) → (m ≡ b) ⊎ Contains bs m → Contains (b ∷ bs) m
contained b bs m (inl e) = (0, omega arith, sym e)
contained b bs m (inr h) = (suc h.0, omega arith, h.2)

-- no bytes are below the least
below_all : (bs : List ℕ) (x m : ℕ) → AllByRecursion (λ b. m ≤ b) bs → Contains bs x → m ≤ x
below_all [] x m all (k, lt, e) = absurd (omega arith)
below_all (b ∷ bs) x m all (zero, lt, e) =
    let le : m ≤ b = all.0 in
    let same : b ≡ x = e in
    omega arith
below_all (b ∷ bs) x m all (suc k, lt, e) = below_all bs x m all.1 (k, omega arith, e)

-- the wire carries the least
wire_is : LeastByteWins → (bs : List ℕ) (m : ℕ) → AllByRecursion (λ b. b < 256) bs
    → AllByRecursion (λ b. m ≤ b) bs → Contains bs m → bs ≢ [] → m ≡ wire_byte bs
wire_is wins bs m small all sent some =
    let goes = wins bs (All-from_recursion (λ b. b < 256) bs small) some in
    let above : m ≤ wire_byte bs = below_all bs (wire_byte bs) m all goes.some_sent in
    let below : wire_byte bs ≤ m = below_all bs m (wire_byte bs)
    (recursion_from_All (λ b. wire_byte bs ≤ b) bs goes.least) sent in
    omega (arith, above, below)

least_is_wire : LeastByteWins → (bs : List ℕ) (o : Option ℕ) → AllByRecursion (λ b. b < 256) bs
    → o ≡ least_with None bs
    → MatchOption o (bs ≡ []) (λ byte. (bs ≢ []) × (byte ≡ wire_byte bs))
least_is_wire wins [] None small e = refl
least_is_wire wins [] (Some m) small e = cc
least_is_wire wins (b ∷ bs) None small e = let s = some_least b bs in cc
least_is_wire wins (b ∷ bs) (Some m) small e =
    let l = least_from b bs m (sym e) in
    let some : b ∷ bs ≢ [] = λ q. cc in
    (some, wire_is wins (b ∷ bs) m small (l.0, l.1) (contained b bs m l.2) some)

pub small_address : (t : Target) → IsTarget t → t.address ≤ 127
small_address t is =
    let a : IsTrue (is_target_address t.address) = is.address in
    grind (arith, nat_tests)

bytes_small : (s : BusState) (i : ℕ) (ts : List Target) → AllByRecursion IsTarget ts
    → AllByRecursion (λ b. b < 256) (bytes_from s i ts)
bytes_small s i [] all = tt
bytes_small s i (t ∷ ts) all =
    let a = small_address t all.0 in
    elim (cases_Bool (bit s.alerting i)) [
      | inl e ↦ rw e (omega arith, bytes_small s (i + 1) ts all.1)
      | inr e ↦ rw e (bytes_small s (i + 1) ts all.1)
    ]

pub wire_is_least : LeastByteWins → (b : Board) (s : BusState) (o : Option ℕ) → IsBoard b
    → o ≡ least_with None (bytes_from s 0 b.targets)
    → MatchOption o (alert_bytes b s ≡ [])
    (λ byte. (alert_bytes b s ≢ []) × (byte ≡ wire_byte (alert_bytes b s)))
unfolding alert_bytes
wire_is_least wins b s o is e =
    least_is_wire wins _ o
    (bytes_small s 0 b.targets (recursion_from_All IsTarget b.targets is.targets)) e

least_is_sent : (bs : List ℕ) (o : Option ℕ) → o ≡ least_with None bs
    → IfSome o (λ byte. Contains bs byte)
least_is_sent bs None e = tt
least_is_sent [] (Some m) e = cc
least_is_sent (b ∷ bs) (Some m) e = contained b bs m (least_from b bs m (sym e)).2

pub wire_is_sent : (b : Board) (s : BusState) (o : Option ℕ)
    → o ≡ least_with None (bytes_from s 0 b.targets)
    → IfSome o (λ byte. Contains (alert_bytes b s) byte)
unfolding alert_bytes
wire_is_sent b s o e = least_is_sent _ o e

least_small : LeastByteWins → (bs : List ℕ) (x : ℕ) (later : List ℕ) → bs ≡ x ∷ later
    → AllByRecursion (λ b. b < 256) bs → wire_byte bs < 65536
least_small wins [] x later e small = cc
least_small wins (b ∷ bs) x later e small =
    let s = some_least b bs in
    let l = least_from b bs s.0 s.1 in
    let w = least_is_wire wins (b ∷ bs) (Some s.0) small (sym s.1) in
    let same : s.0 ≡ wire_byte (b ∷ bs) = w.1 in
    let le : s.0 ≤ b = l.0 in
    let lt : b < 256 = small.0 in
    omega arith

pub wire_small : LeastByteWins → (b : Board) (s : BusState) (x : ℕ) (later : List ℕ) → IsBoard b
    → alert_bytes b s ≡ x ∷ later → wire_byte (alert_bytes b s) < 65536
unfolding alert_bytes
wire_small wins b s x later is e =
    least_small wins _ x later e
    (bytes_small s 0 b.targets (recursion_from_All IsTarget b.targets is.targets))

wire_among : LeastByteWins → (bs : List ℕ) (x : ℕ) → AllByRecursion (λ b. b < 256) bs
    → Contains bs x
    → (wire_byte bs ≤ x) × Contains bs (wire_byte bs)
wire_among wins [] x small c = absurd (omega (arith, c.1))
wire_among wins (b ∷ bs) x small c =
    let s = some_least b bs in
    let l = least_from b bs s.0 s.1 in
    let same : s.0 ≡ wire_byte (b ∷ bs) =
    (least_is_wire wins (b ∷ bs) (Some s.0) small (sym s.1)).1 in
    let le : s.0 ≤ x = below_all (b ∷ bs) x s.0 (l.0, l.1) c in
    (omega arith, rw same at (contained b bs s.0 l.2))

-- the wire's byte is one of those that are sent, and the least
pub wire_lowest : LeastByteWins → (b : Board) (s : BusState) (x : ℕ) → IsBoard b
    → Contains (alert_bytes b s) x
    → (wire_byte (alert_bytes b s) ≤ x) × Contains (alert_bytes b s) (wire_byte (alert_bytes b s))
unfolding alert_bytes
wire_lowest wins b s x is c =
    wire_among wins _ x
    (bytes_small s 0 b.targets (recursion_from_All IsTarget b.targets is.targets)) c
