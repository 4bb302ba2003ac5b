-- The rails with their needs.
use Rattle.std.proofs.Common.{◌≡◌, ◌≢◌, ℕ, ◌+◌, ◌<◌, Bool, true, false, not, eqb, List, [], ◌∷◌}
use Rattle.std.proofs.Common.{◌++◌, length, map, slice_get, Some, Ok}
use Rattle.std.proofs.Common.{ap, subst, ◌∙◌, append_assoc, arith, inl, inr}
use Rattle.std.specs.Str.{bytes_eq}
use Rattle.std.specs.List.{All}
use Rattle.std.proofs.lemmas.Bool.{eq-eqb}
use Rattle.std.proofs.lemmas.List.{length_push, append-nil}
use Rattle.std.proofs.lemmas.List.Elements.{All-push}
use Rattle.std.proofs.lemmas.List.Quantifiers.{position-Some}
use Rattle.texts.specs.Reading.{some_or}
use Rattle.board.specs.declared.fault.FaultKind.TheVariants.{UnknownNeed}
use Rattle.board.specs.Boards.{Rail, place_of_name}
use Rattle.board.specs.Rails.{RailDraft, need_fault, need_of, needs_of, rails_of, rail_with}
use Rattle.board.proofs.Steps.{bind_ok, some_ok, if_ok, ok_is, not_false}
use Rattle.board.proofs.Lists.{map-push}
use Rattle.board.proofs.Apart.{push_cases}
use Rattle.board.proofs.ValidTargets.{all_none}
use Rattle.board.proofs.ValidRails.{without_needs}

-- a need is one of so many rails, and not the rail itself
pub record IsNeed (rails rail n : ℕ) : Type 0 where
  pub there : n < rails
  pub other : n ≢ rail

need_ok : (names : List (List ℕ)) (rail need : ℕ) (name : List ℕ) (n : ℕ)
    → need_of names rail need name ≡ Ok n → IsNeed (length names) rail n
unfolding need_of
need_ok names rail need name n e =
    let a = bind_ok (some_or (need_fault UnknownNeed rail need) (place_of_name name names)) _ n e in
    let b = if_ok _ (not (eqb a.0 rail)) a.0 n a.2 in
    let place = some_ok _ _ a.0 a.1 in
    rw (← b.1) (record {
      there = (position-Some (bytes_eq name) names a.0 [] place).0;
      other = λ s. differs (eqb a.0 rail) (not_false (eqb a.0 rail) b.0) (eq-eqb a.0 rail s);
    })
  where
    differs : (b : Bool) → b ≡ false → b ≡ true → ⊥
    differs b f t = cc

needs_ok : (names : List (List ℕ)) (rail : ℕ) (done : List ℕ) (needs : List (List ℕ))
    (ns : List ℕ)
    → needs_of names rail done needs ≡ Ok ns → All (IsNeed (length names) rail) done
    → All (IsNeed (length names) rail) ns
needs_ok names rail done [] ns e a =
    subst (All (IsNeed (length names) rail)) (ok_is done ns e) a
needs_ok names rail done (name ∷ needs) ns e a =
    let n = bind_ok (need_of names rail (length done) name) _ ns e in
    needs_ok names rail (done ++ n.0 ∷ []) needs ns n.2
    (All-push (IsNeed (length names) rail) done n.0 a
    (need_ok names rail (length done) name n.0 n.1))

-- each rail's needs
pub record HaveNeeds (count : ℕ) (rails : List Rail) : Type 0 where
  pub at : (d : ℕ) (r : Rail) → slice_get rails d ≡ Some r → All (IsNeed count d) r.needs

pub no_rails : (count : ℕ) → HaveNeeds count []
no_rails count = record { at = λ d r e. absurd cc }

more_rails : (count : ℕ) (rails : List Rail) (r : Rail) → HaveNeeds count rails
    → All (IsNeed count (length rails)) r.needs → HaveNeeds count (rails ++ r ∷ [])
more_rails count rails r a n = record {
  at = λ d x e. elim (push_cases rails r x d e) [
    | inl s ↦ a.at d x s
    | inr s ↦ rw (s.0, ← s.1) n
  ];
}

pub rails_ok : (names : List (List ℕ)) (done : List Rail) (drafts : List RailDraft)
    (rails : List Rail)
    → rails_of names done drafts ≡ Ok rails → HaveNeeds (length names) done
    → HaveNeeds (length names) rails
rails_ok names done [] rails e a = subst (HaveNeeds (length names)) (ok_is done rails e) a
rails_ok names done (s ∷ drafts) rails e a =
    let n = bind_ok (needs_of names (length done) [] s.needs) _ rails e in
    let needs = needs_ok names (length done) [] s.needs n.0 n.1
    (all_none (IsNeed (length names) (length done))) in
    rails_ok names (done ++ rail_with s n.0 ∷ []) drafts rails n.2
    (more_rails (length names) done (rail_with s n.0) a needs)

-- all else of a rail is as it was read before
abbrev pub bare : Rail → Rail
bare r = record { target = r.target; page = r.page; limit_uv = r.limit_uv; needs = [] }

pub rails_bare : (names : List (List ℕ)) (done : List Rail) (drafts : List RailDraft)
    (rails : List Rail)
    → rails_of names done drafts ≡ Ok rails
    → map bare rails ≡ map bare done ++ map without_needs drafts
rails_bare names done [] rails e = rw (append-nil, ok_is done rails e)
rails_bare names done (s ∷ drafts) rails e =
    let n = bind_ok (needs_of names (length done) [] s.needs) _ rails e in
    rails_bare names (done ++ rail_with s n.0 ∷ []) drafts rails n.2
    ∙ ap (λ (xs : List Rail). xs ++ map without_needs drafts) (map-push bare done (rail_with s n.0))
    ∙ append_assoc (map bare done) (without_needs s ∷ []) (map without_needs drafts)

pub rails_count : (names : List (List ℕ)) (done : List Rail) (drafts : List RailDraft)
    (rails : List Rail)
    → rails_of names done drafts ≡ Ok rails → length rails ≡ length done + length drafts
rails_count names done [] rails e =
    let same = ap (λ (x : List Rail). length x) (ok_is done rails e) in
    omega (arith, same)
rails_count names done (s ∷ drafts) rails e =
    let n = bind_ok (needs_of names (length done) [] s.needs) _ rails e in
    let rest = rails_count names (done ++ rail_with s n.0 ∷ []) drafts rails n.2 in
    omega (arith, rest, length_push done (rail_with s n.0))
