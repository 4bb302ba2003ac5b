-- A loop that joins two lists of parts.
use Rattle.std.proofs.Common.{◌≡◌, ◌≤◌, ◌<◌, ◌+◌, ℕ, zero, suc, List, [], ◌∷◌, ◌++◌}
use Rattle.std.proofs.Common.{length, get_or, take}
use Rattle.std.proofs.lemmas.List.{take_all}
use Rattle.std.proofs.Common.{slice_set, refl, sym, ap, subst, arith}
use Rattle.facts.specs.domain.Rows.{AllCover}
use Rattle.facts.specs.domain.Joining.{IsJoin, AreJoined}

-- the parts before an index are joined, and the others are as they were
abbrev pub AreJoinedTo : {P : Type 0} → (P → P → Type 0) → (P → P → Type 0) → ℕ → List P → List P
    → List P → Type 0
AreJoinedTo Alike Covers zero rs ss us = (rs ≡ ss) × AllCover Alike ss us
AreJoinedTo Alike Covers (suc i) (r ∷ rs) (s ∷ ss) (u ∷ us) =
    IsJoin Covers r s u × AreJoinedTo Alike Covers i rs ss us
AreJoinedTo Alike Covers (suc i) rs ss us = ⊥

pub all_length : {P : Type 0} (Alike : P → P → Type 0) (ss us : List P) → AllCover Alike ss us
    → length ss ≡ length us
all_length Alike [] [] c = refl
all_length Alike (s ∷ ss) (u ∷ us) c = ap suc (all_length Alike ss us c.1)
all_length Alike [] (u ∷ us) c = absurd c
all_length Alike (s ∷ ss) [] c = absurd c

pub same_length : {P : Type 0} (Alike Covers : P → P → Type 0) (i : ℕ) (rs ss us : List P)
    → AreJoinedTo Alike Covers i rs ss us → length rs ≡ length us
same_length Alike Covers zero rs ss us h =
    subst (λ xs. length xs ≡ length us) (sym h.0) (all_length Alike ss us h.1)
same_length Alike Covers (suc i) (r ∷ rs) (s ∷ ss) (u ∷ us) h =
    ap suc (same_length Alike Covers i rs ss us h.1)
same_length Alike Covers (suc i) [] ss us h = absurd h
same_length Alike Covers (suc i) (r ∷ rs) [] us h = absurd h
same_length Alike Covers (suc i) (r ∷ rs) (s ∷ ss) [] h = absurd h

pub all_at : {P : Type 0} (Alike : P → P → Type 0) (ss us : List P) (i : ℕ) (d e : P)
    → AllCover Alike ss us → i < length ss → Alike (get_or ss i d) (get_or us i e)
all_at Alike [] us i d e c lt = absurd (omega (arith, lt))
all_at Alike (s ∷ ss) [] i d e c lt = absurd c
all_at Alike (s ∷ ss) (u ∷ us) zero d e c lt = c.0
all_at Alike (s ∷ ss) (u ∷ us) (suc i) d e c lt =
    all_at Alike ss us i d e c.1 (omega (arith, lt))

pub alike_at : {P : Type 0} (Alike Covers : P → P → Type 0) (i : ℕ) (rs ss us : List P) (d e : P)
    → AreJoinedTo Alike Covers i rs ss us → i < length rs
    → Alike (get_or rs i d) (get_or us i e)
alike_at Alike Covers zero rs ss us d e h lt =
    subst (λ xs. Alike (get_or xs 0 d) (get_or us 0 e)) (sym h.0)
    (all_at Alike ss us 0 d e h.1 (subst (λ xs. 0 < length xs) h.0 lt))
alike_at Alike Covers (suc i) (r ∷ rs) (s ∷ ss) (u ∷ us) d e h lt =
    alike_at Alike Covers i rs ss us d e h.1 (omega (arith, lt))
alike_at Alike Covers (suc i) [] ss us d e h lt = absurd h
alike_at Alike Covers (suc i) (r ∷ rs) [] us d e h lt = absurd h
alike_at Alike Covers (suc i) (r ∷ rs) (s ∷ ss) [] d e h lt = absurd h

first_joined : {P : Type 0} (Alike Covers : P → P → Type 0) (ss us : List P) (x d e : P)
    → AllCover Alike ss us → 0 < length ss → IsJoin Covers x (get_or ss 0 d) (get_or us 0 e)
    → AreJoinedTo Alike Covers 1 (slice_set ss 0 x) ss us
first_joined Alike Covers [] us x d e c lt j = absurd (omega (arith, lt))
first_joined Alike Covers (s ∷ ss) [] x d e c lt j = absurd c
first_joined Alike Covers (s ∷ ss) (u ∷ us) x d e c lt j = (j, (refl, c.1))

joined_next : {P : Type 0} (Alike Covers : P → P → Type 0) (i : ℕ) (rs ss us : List P) (x d e : P)
    → AreJoinedTo Alike Covers i rs ss us → i < length rs
    → IsJoin Covers x (get_or rs i d) (get_or us i e)
    → AreJoinedTo Alike Covers (suc i) (slice_set rs i x) ss us
joined_next Alike Covers zero rs ss us x d e h lt j =
    subst (λ xs. AreJoinedTo Alike Covers 1 (slice_set xs 0 x) ss us) (sym h.0)
    (first_joined Alike Covers ss us x d e h.1 (subst (λ xs. 0 < length xs) h.0 lt)
    (subst (λ xs. IsJoin Covers x (get_or xs 0 d) (get_or us 0 e)) h.0 j))
joined_next Alike Covers (suc i) (r ∷ rs) (s ∷ ss) (u ∷ us) x d e h lt j =
    (h.0, joined_next Alike Covers i rs ss us x d e h.1 (omega (arith, lt)) j)
joined_next Alike Covers (suc i) [] ss us x d e h lt j = absurd h
joined_next Alike Covers (suc i) (r ∷ rs) [] us x d e h lt j = absurd h
joined_next Alike Covers (suc i) (r ∷ rs) (s ∷ ss) [] x d e h lt j = absurd h

pub joined_more : {P : Type 0} (Alike Covers : P → P → Type 0) (i : ℕ) (rs ss us : List P)
    (x d e : P) → AreJoinedTo Alike Covers i rs ss us → i < length rs
    → IsJoin Covers x (get_or rs i d) (get_or us i e)
    → AreJoinedTo Alike Covers (i + 1) (slice_set rs i x) ss us
joined_more Alike Covers i rs ss us x d e h lt j =
    let more : suc i ≡ i + 1 = omega arith in
    subst (λ n. AreJoinedTo Alike Covers n (slice_set rs i x) ss us) more
    (joined_next Alike Covers i rs ss us x d e h lt j)

none_left : {P : Type 0} (Alike Covers : P → P → Type 0) (ss us : List P) → AllCover Alike ss us
    → length ss ≤ 0 → AreJoined Covers ss ss us
none_left Alike Covers [] [] c few = tt
none_left Alike Covers [] (u ∷ us) c few = absurd c
none_left Alike Covers (s ∷ ss) us c few = absurd (omega (arith, few))

pub all_joined : {P : Type 0} (Alike Covers : P → P → Type 0) (i : ℕ) (rs ss us : List P)
    → AreJoinedTo Alike Covers i rs ss us → length rs ≤ i → AreJoined Covers rs ss us
all_joined Alike Covers zero rs ss us h few =
    subst (λ xs. AreJoined Covers xs ss us) (sym h.0)
    (none_left Alike Covers ss us h.1 (subst (λ xs. length xs ≤ 0) h.0 few))
all_joined Alike Covers (suc i) (r ∷ rs) (s ∷ ss) (u ∷ us) h few =
    (h.0, all_joined Alike Covers i rs ss us h.1 (omega (arith, few)))
all_joined Alike Covers (suc i) [] ss us h few = absurd h
all_joined Alike Covers (suc i) (r ∷ rs) [] us h few = absurd h
all_joined Alike Covers (suc i) (r ∷ rs) (s ∷ ss) [] h few = absurd h

-- ---- a list of joins that grows

next_pushed : {P : Type 0} (Covers : P → P → Type 0) (i : ℕ) (js ss us : List P) (x d e : P)
    → AreJoined Covers js (take i ss) (take i us) → i < length ss → i < length us
    → IsJoin Covers x (get_or ss i d) (get_or us i e)
    → AreJoined Covers (js ++ x ∷ []) (take (suc i) ss) (take (suc i) us)
next_pushed Covers i js [] us x d e h lt lu j = absurd (omega (arith, lt))
next_pushed Covers i js (s ∷ ss) [] x d e h lt lu j = absurd (omega (arith, lu))
next_pushed Covers zero [] (s ∷ ss) (u ∷ us) x d e h lt lu j = (j, tt)
next_pushed Covers zero (r ∷ js) (s ∷ ss) (u ∷ us) x d e h lt lu j = absurd h
next_pushed Covers (suc i) [] (s ∷ ss) (u ∷ us) x d e h lt lu j = absurd h
next_pushed Covers (suc i) (r ∷ js) (s ∷ ss) (u ∷ us) x d e h lt lu j =
    (h.0, next_pushed Covers i js ss us x d e h.1 (omega (arith, lt)) (omega (arith, lu)) j)

pub pushed_more : {P : Type 0} (Covers : P → P → Type 0) (i : ℕ) (js ss us : List P) (x d e : P)
    → AreJoined Covers js (take i ss) (take i us) → i < length ss → i < length us
    → IsJoin Covers x (get_or ss i d) (get_or us i e)
    → AreJoined Covers (js ++ x ∷ []) (take (i + 1) ss) (take (i + 1) us)
pushed_more Covers i js ss us x d e h lt lu j =
    let more : suc i ≡ i + 1 = omega arith in
    subst (λ n. AreJoined Covers (js ++ x ∷ []) (take n ss) (take n us)) more
    (next_pushed Covers i js ss us x d e h lt lu j)

pub all_pushed : {P : Type 0} (Covers : P → P → Type 0) (i : ℕ) (js ss us : List P)
    → AreJoined Covers js (take i ss) (take i us) → length ss ≤ i → length us ≤ i
    → AreJoined Covers js ss us
all_pushed Covers i js ss us h ls lu =
    subst (λ xs. AreJoined Covers js xs us) (take_all i ss ls)
    (subst (λ xs. AreJoined Covers js (take i ss) xs) (take_all i us lu) h)

-- ---- what is joined covers both lists, and is the least that does

pub first_covered : {P : Type 0} (Covers : P → P → Type 0) (rs ss us : List P)
    → AreJoined Covers rs ss us → AllCover Covers rs ss
first_covered Covers [] [] [] j = tt
first_covered Covers (r ∷ rs) (s ∷ ss) (u ∷ us) j = (j.0.first, first_covered Covers rs ss us j.1)
first_covered Covers [] [] (u ∷ us) j = absurd j
first_covered Covers [] (s ∷ ss) us j = absurd j
first_covered Covers (r ∷ rs) [] us j = absurd j
first_covered Covers (r ∷ rs) (s ∷ ss) [] j = absurd j

pub second_covered : {P : Type 0} (Covers : P → P → Type 0) (rs ss us : List P)
    → AreJoined Covers rs ss us → AllCover Covers rs us
second_covered Covers [] [] [] j = tt
second_covered Covers (r ∷ rs) (s ∷ ss) (u ∷ us) j =
    (j.0.second, second_covered Covers rs ss us j.1)
second_covered Covers [] [] (u ∷ us) j = absurd j
second_covered Covers [] (s ∷ ss) us j = absurd j
second_covered Covers (r ∷ rs) [] us j = absurd j
second_covered Covers (r ∷ rs) (s ∷ ss) [] j = absurd j

pub least_covered : {P : Type 0} (Covers : P → P → Type 0) (ws rs ss us : List P)
    → AreJoined Covers rs ss us → AllCover Covers ws ss → AllCover Covers ws us
    → AllCover Covers ws rs
least_covered Covers [] [] [] [] j a b = tt
least_covered Covers (w ∷ ws) (r ∷ rs) (s ∷ ss) (u ∷ us) j a b =
    (j.0.least w a.0 b.0, least_covered Covers ws rs ss us j.1 a.1 b.1)
least_covered Covers [] rs (s ∷ ss) us j a b = absurd a
least_covered Covers (w ∷ ws) rs [] us j a b = absurd a
least_covered Covers [] (r ∷ rs) [] us j a b = absurd j
least_covered Covers [] [] [] (u ∷ us) j a b = absurd j
least_covered Covers (w ∷ ws) [] (s ∷ ss) us j a b = absurd j
least_covered Covers (w ∷ ws) (r ∷ rs) (s ∷ ss) [] j a b = absurd j

-- lists of one length, where any parts may be joined
pub any_alike : {P : Type 0} (ss us : List P) → length ss ≡ length us
    → AllCover (λ s u. Unit {0}) ss us
any_alike [] [] e = tt
any_alike [] (u ∷ us) e = absurd (omega (arith, e))
any_alike (s ∷ ss) [] e = absurd (omega (arith, e))
any_alike (s ∷ ss) (u ∷ us) e = (tt, any_alike ss us (omega (arith, e)))
