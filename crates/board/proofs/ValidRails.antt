-- The rails that are read, before their needs are.
use Rattle.std.proofs.Common.{◌≡◌, ℕ, ◌+◌, ◌<◌, ◌≤◌, Bool, true, false, cond, not, ◌&&◌, eqb, ltb}
use Rattle.std.proofs.Common.{List, [], ◌∷◌, length, get_or, map, slice_get, Option, Some, None}
use Rattle.std.proofs.Common.{option_and_then, Ok, refl, ap, subst, ◌∙◌, arith}
use Rattle.std.specs.List.{list_any, All, AllPairs}
use Rattle.std.proofs.lemmas.Bool.{ltb-true, eq-eqb}
use Rattle.std.proofs.lemmas.List.Elements.{All-push}
use Rattle.std.proofs.lemmas.List.{length_push}
use Rattle.std.proofs.lemmas.List.Quantifiers.{all_pairs_push}
use Rattle.toml.specs.Data.{Members}
use Rattle.texts.specs.Names.{is_name}
use Rattle.texts.specs.Reading.{some_or, value_if}
use Rattle.board.specs.declared.key.Key.TheVariants as key
use Rattle.board.specs.declared.site.Place.TheVariants as place
use Rattle.board.specs.Sites.{key_fault}
use Rattle.board.specs.declared.fault.FaultKind.TheVariants.{BadRail, BadRange}
use Rattle.board.specs.Boards.{Target, Rail}
use Rattle.board.specs.Fields.{number_at, texts_at}
use Rattle.board.specs.Named.{Named, is_named, no_named, with_item}
use Rattle.board.specs.Targets.{new_name}
use Rattle.board.specs.Rails.{RailDraft, check_rail_keys, target_at, page_of, page_at, has_page}
use Rattle.board.specs.Rails.{draft_from}
use Rattle.board.specs.Rails.{drafts_of, rail_with}
use Rattle.board.specs.Valid.{DifferInPage}
use Rattle.board.proofs.Steps.{bind_ok, some_ok, if_ok, ok_is, not_false, chosen_some}
use Rattle.board.proofs.Lists.{list_any-map, map-push}
use Rattle.board.proofs.Apart.{fails_at}
use Rattle.board.proofs.ValidRanges.{at_bounds}
use Rattle.board.proofs.ValidKeys.{good_name, new_name_ok}
use Rattle.board.proofs.ValidTargets.{all_none}
use Rattle.board.proofs.ValidTargetLists.{AreNamed, none_named, more_named, no_pairs}

-- a rail's place and limit, whatever it needs
pub record IsPlaced (targets : List Target) (r : Rail) : Type 0 where
  pub on_page : (t : Target) × (slice_get targets r.target ≡ Some t) × (r.page < t.pages)
  pub least_limit : 1 ≤ r.limit_uv
  pub most_limit : r.limit_uv ≤ 4294967295

abbrev pub without_needs : RailDraft → Rail
without_needs s = rail_with s []

page_below : (ms : Members) (t : Target) (p : ℕ) → page_of ms t ≡ Some p → p < t.pages
page_below ms t p e = by (number_at 0 255 key.Page ms) e
  where
    by : (o : Option ℕ) → option_and_then (λ q. cond (ltb q t.pages) (Some q) None) o ≡ Some p
        → p < t.pages
    by None e = absurd cc
    by (Some q) e =
        let c = chosen_some (ltb q t.pages) q p e in
        rw (← c.1) (ltb-true q t.pages c.0)

page_there : (targets : List Target) (place : ℕ) (ms : Members) (p : ℕ)
    → page_at targets place ms ≡ Some p
    → (t : Target) × (slice_get targets place ≡ Some t) × (p < t.pages)
page_there targets place ms p e = by (slice_get targets place) refl e
  where
    by : (o : Option Target) → slice_get targets place ≡ o → option_and_then (page_of ms) o ≡ Some p
        → (t : Target) × (slice_get targets place ≡ Some t) × (p < t.pages)
    by None s e = absurd cc
    by (Some t) s e = (t, s, page_below ms t p e)

-- a rail after those before it
record IsNextDraft (targets : List Target) (done : Named RailDraft) (name : List ℕ)
    (s : RailDraft) : Type 0 where
  pub placed : IsPlaced targets (without_needs s)
  pub good : is_name name ≡ true
  pub new : is_named name done.names ≡ false
  pub free : has_page s.target s.page done.items ≡ false

draft_ok : (index : ℕ) (targets : Named Target) (done : Named RailDraft) (ms : Members)
    (x : List ℕ × RailDraft)
    → draft_from index targets done ms ≡ Ok x → IsNextDraft targets.items done x.0 x.1
unfolding draft_from
draft_ok index targets done ms x e =
    let table = place.Rail index in
    let no_page = key_fault BadRail table key.Page in
    let k = bind_ok (check_rail_keys table ms) _ x e in
    let n = bind_ok (new_name table done.names k.0) _ x k.2 in
    let t = bind_ok (some_or (key_fault BadRail table key.Target) (target_at targets.names k.0)) _ x
    n.2 in
    let p = bind_ok (some_or no_page (page_at targets.items t.0 k.0)) _ x t.2 in
    let f = bind_ok (value_if no_page (not (has_page t.0 p.0 done.items)) p.0) _ x p.2 in
    let l = bind_ok (some_or (key_fault BadRange table key.LimitUv)
    (number_at 1 4294967295 key.LimitUv k.0)) _ x f.2 in
    let name = new_name_ok table done.names k.0 n.0 n.1 in
    let page = page_there targets.items t.0 k.0 p.0 (some_ok _ _ p.0 p.1) in
    let free = if_ok _ _ p.0 f.0 f.1 in
    let limit = at_bounds 1 4294967295 key.LimitUv k.0 l.0 (some_ok _ _ l.0 l.1) in
    let made : RailDraft = record {
      target = t.0;
      page = f.0;
      limit_uv = l.0;
      needs = texts_at key.Needs k.0;
    } in
    subst (λ y. IsNextDraft targets.items done y.0 y.1) (ok_is (n.0, made) x l.2) (record {
      placed = record {
        on_page = (page.0, page.1, rw (← free.1) page.2);
        least_limit = limit.0;
        most_limit = limit.1;
      };
      good = rw (← name.text) (good_name _ _ _ ms k.0 k.1);
      new = name.new;
      free = rw (← free.1) (not_false (has_page t.0 p.0 done.items) free.0);
    })

pub record AreDrafts (targets : List Target) (n : Named RailDraft) : Type 0 where
  pub named : AreNamed n
  pub placed : All (IsPlaced targets) (map without_needs n.items)
  pub apart : AllPairs DifferInPage (map without_needs n.items)

pub no_drafts : (targets : List Target) → AreDrafts targets no_named
no_drafts targets = record {
  named = none_named;
  placed = all_none (IsPlaced targets);
  apart = no_pairs DifferInPage;
}

both_true : (b c : Bool) → b ≡ true → c ≡ true → (b && c) ≡ true
both_true b c e f = cc

pages_differ : (drafts : List RailDraft) (s : RailDraft) → has_page s.target s.page drafts ≡ false
    → (k : ℕ) (d : Rail) → k < length (map without_needs drafts)
    → DifferInPage (get_or (map without_needs drafts) k d) (without_needs s)
pages_differ drafts s e k d h t p =
    let test : Rail → Bool = λ r. eqb r.target s.target && eqb r.page s.page in
    let none : list_any test (map without_needs drafts) ≡ false =
    list_any-map test without_needs drafts ∙ e in
    let no = fails_at test (map without_needs drafts) k d none h in
    let r : Rail = get_or (map without_needs drafts) k d in
    let taken = both_true (eqb r.target s.target) (eqb r.page s.page) (eq-eqb r.target s.target t)
    (eq-eqb r.page s.page p) in
    cc

more_drafts : (targets : List Target) (n : Named RailDraft) (name : List ℕ) (s : RailDraft)
    → AreDrafts targets n → IsNextDraft targets n name s → AreDrafts targets (with_item name s n)
more_drafts targets n name s a x = record {
  named = more_named n name s a.named x.good x.new;
  placed =
      rw (map-push without_needs n.items s)
      (All-push (IsPlaced targets) (map without_needs n.items) (without_needs s) a.placed x.placed);
  apart =
      rw (map-push without_needs n.items s) (all_pairs_push DifferInPage (map without_needs n.items)
      (without_needs s) a.apart (pages_differ n.items s x.free));
}

pub drafts_valid : (targets : Named Target) (done : Named RailDraft) (tables : List Members)
    (n : Named RailDraft)
    → drafts_of targets done tables ≡ Ok n → AreDrafts targets.items done
    → AreDrafts targets.items n
drafts_valid targets done [] n e a = subst (AreDrafts targets.items) (ok_is done n e) a
drafts_valid targets done (ms ∷ tables) n e a =
    let s = bind_ok (draft_from (length done.items) targets done ms) _ n e in
    drafts_valid targets (with_item s.0.0 s.0.1 done) tables n s.2
    (more_drafts targets.items done s.0.0 s.0.1 a
    (draft_ok (length done.items) targets done ms s.0 s.1))

pub drafts_count : (targets : Named Target) (done : Named RailDraft) (tables : List Members)
    (n : Named RailDraft)
    → drafts_of targets done tables ≡ Ok n → length n.items ≡ length done.items + length tables
drafts_count targets done [] n e =
    let same = ap (λ (x : Named RailDraft). length x.items) (ok_is done n e) in
    omega (arith, same)
drafts_count targets done (ms ∷ tables) n e =
    let s = bind_ok (draft_from (length done.items) targets done ms) _ n e in
    let rest = drafts_count targets (with_item s.0.0 s.0.1 done) tables n s.2 in
    omega (arith, rest, length_push done.items s.0.1)
