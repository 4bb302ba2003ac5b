-- The targets that are read.
use Rattle.std.proofs.Common.{◌≡◌, ℕ, ℤ, pos, negsuc, ◌<◌, ◌≤◌, Bool, true, false, cond, ◌&&◌, List}
use Rattle.std.proofs.Common.{[], length, Option, Some, None, option_and_then, position, not, Ok}
use Rattle.std.proofs.Common.{refl}
use Rattle.std.proofs.Common.{sym, ◌∙◌}
use Rattle.std.proofs.Common.{subst, T, arith}
use Rattle.std.specs.Prelude.{◌≤ℤ◌, int_le, nat_lt}
use Rattle.std.specs.Int.Signed.{le_z_yes}
use Rattle.std.specs.List.{All, AllPairs, AllPass}
use Rattle.std.proofs.lemmas.Bool.{and_parts, ltb-true}
use Rattle.std.proofs.lemmas.List.Sums.{AllPass-from_list_all}
use Rattle.toml.specs.Data.{Members, as_integer}
use Rattle.texts.specs.Names.{is_name}
use Rattle.texts.specs.Reading.{some_or, value_if}
use Rattle.pmbus_table.specs.Protect.{is_protection}
use Rattle.board.specs.declared.fault.FaultKind.TheVariants.{BadAddress, TooMany}
use Rattle.board.specs.declared.fault.FaultKind.TheVariants.{BadExponent, BadStretch, BadStart}
use Rattle.board.specs.declared.key.Key.TheVariants as key
use Rattle.board.specs.declared.key.Key.{Key}
use Rattle.board.specs.declared.site.Place.{Place}
use Rattle.board.specs.declared.site.Place.TheVariants as place
use Rattle.board.specs.Sites.{key_fault, item_fault}
use Rattle.board.specs.declared.targets.Numbers.{Numbers}
use Rattle.board.specs.Boards.{Target}
use Rattle.board.specs.Fields.{value_at, number_at, flag_at, items_at, tables_at}
use Rattle.board.specs.Named.{Named, is_named}
use Rattle.board.specs.Entries.{entries_of}
use Rattle.board.specs.Targets.{check_target_keys, new_name, address_at, has_address, new_address}
use Rattle.board.specs.Targets.{exponent_of, exponent_at, numbers_of, bytes_of, start_values}
use Rattle.board.specs.Targets.{start_pages_of}
use Rattle.board.specs.Targets.{start_protects_of, target_with, target_from}
use Rattle.board.specs.Valid.{is_target_address, is_page_value, IsTarget, IsEntry, DifferInUse}
use Rattle.board.proofs.Steps.{bind_ok, some_ok, if_ok, unless_ok, ok_is, not_false, chosen_some}
use Rattle.board.proofs.Firsts.{find_none, none_fails}
use Rattle.board.proofs.ValidRanges.{at_bounds}
use Rattle.board.proofs.ValidEntries.{entries_valid}
use Rattle.board.proofs.ValidKeys.{good_name, new_name_ok}

-- the address
address_fits : (ms : Members) (a : ℕ) → address_at ms ≡ Some a → is_target_address a ≡ true
address_fits ms a e = by (number_at 0 127 key.Address ms) e
  where
    by : (o : Option ℕ) → option_and_then (λ n. cond (is_target_address n) (Some n) None) o ≡ Some a
        → is_target_address a ≡ true
    by None e = absurd cc
    by (Some n) e =
        let c = chosen_some (is_target_address n) n a e in
        rw (← c.1) c.0

record IsNewAddress (done : List Target) (a : ℕ) : Type 0 where
  pub fits : is_target_address a ≡ true
  pub new : has_address a done ≡ false

new_address_ok : (table : Place) (done : List Target) (ms : Members) (a : ℕ)
    → new_address table done ms ≡ Ok a → IsNewAddress done a
unfolding new_address
new_address_ok table done ms a e =
    let b = bind_ok (some_or (key_fault BadAddress table key.Address) (address_at ms)) _ a e in
    let c = if_ok _ _ b.0 a b.2 in
    rw (← c.1) (record {
      fits = address_fits ms b.0 (some_ok _ (address_at ms) b.0 b.1);
      new = not_false (has_address b.0 done) c.0;
    })

-- the numbers
record AreNumbers (n : Numbers) : Type 0 where
  pub one_page : 1 ≤ n.pages
  pub few_pages : n.pages ≤ 32
  pub least_exponent : negsuc 15 ≤ℤ n.exponent
  pub most_exponent : n.exponent ≤ℤ pos 0
  pub stretch : n.stretch ≤ 6999

at_most : (a b : ℤ) → int_le a b ≡ true → a ≤ℤ b
at_most a b e = le_z_yes (subst T (sym e) tt)

record IsExponent (z : ℤ) : Type 0 where
  pub least : negsuc 15 ≤ℤ z
  pub most : z ≤ℤ pos 0

exponent_fits : (ms : Members) (z : ℤ) → exponent_at ms ≡ Some z → IsExponent z
exponent_fits ms z e = by (option_and_then as_integer (value_at key.Exponent ms)) e
  where
    by : (o : Option ℤ) → option_and_then exponent_of o ≡ Some z → IsExponent z
    by None e = absurd cc
    by (Some y) e =
        let c = chosen_some (int_le (negsuc 15) y && int_le y (pos 0)) y z e in
        let b = and_parts (int_le (negsuc 15) y) (int_le y (pos 0)) c.0 in
        rw (← c.1) (record { least = at_most (negsuc 15) y b.0; most = at_most y (pos 0) b.1 })

numbers_ok : (table : Place) (ms : Members) (n : Numbers) → numbers_of table ms ≡ Ok n
    → AreNumbers n
unfolding numbers_of
numbers_ok table ms n e =
    let p = bind_ok (some_or (key_fault TooMany table key.Pages) (number_at 1 32 key.Pages ms)) _ n
    e in
    let x = bind_ok (some_or (key_fault BadExponent table key.Exponent) (exponent_at ms)) _ n p.2 in
    let s = bind_ok (some_or (key_fault BadStretch table key.Stretch)
    (number_at 0 6999 key.Stretch ms)) _ n x.2 in
    let pages = at_bounds 1 32 key.Pages ms p.0 (some_ok _ _ p.0 p.1) in
    let exponent = exponent_fits ms x.0 (some_ok _ _ x.0 x.1) in
    let stretch = at_bounds 0 6999 key.Stretch ms s.0 (some_ok _ _ s.0 s.1) in
    let made : Numbers = record { pages = p.0; exponent = x.0; stretch = s.0 } in
    subst AreNumbers (ok_is made n s.2) (record {
      one_page = pages.0;
      few_pages = pages.1;
      least_exponent = exponent.least;
      most_exponent = exponent.most;
      stretch = stretch.1;
    })

-- the start values
record AreStarts (test : ℕ → Bool) (values : List ℕ) : Type 0 where
  pub some : 0 < length values
  pub all : AllPass test values

starts_ok : (table : Place) (k : Key) (test : ℕ → Bool) (v r : List ℕ)
    → start_values table k (position (λ x. not (test x)) v) v ≡ Ok r → AreStarts test r
unfolding start_values
starts_ok table k test v r e =
    let none = position (λ x. not (test x)) v in
    let s = bind_ok (value_if (key_fault BadStart table k) (nat_lt 0 (length v)) v) _ r e in
    let a = if_ok _ (nat_lt 0 (length v)) v s.0 s.1 in
    let b = unless_ok (item_fault BadStart table k) none s.0 r s.2 in
    let whole : v ≡ r = a.1 ∙ b.1 in
    let all = none_fails test v (find_none (λ x. not (test x)) v b.0) in
    rw (← whole) (record {
      some = ltb-true 0 (length v) a.0;
      all = AllPass-from_list_all test v all;
    })

start_pages_ok : (table : Place) (pages : ℕ) (ms : Members) (r : List ℕ)
    → start_pages_of table pages ms ≡ Ok r → AreStarts (is_page_value pages) r
unfolding start_pages_of
start_pages_ok table pages ms r e =
    let v = bind_ok (bytes_of table key.StartPages [] (items_at key.StartPages ms)) _ r e in
    starts_ok table key.StartPages (is_page_value pages) v.0 r v.2

start_protects_ok : (table : Place) (ms : Members) (r : List ℕ) → start_protects_of table ms ≡ Ok r
    → AreStarts is_protection r
unfolding start_protects_of
start_protects_ok table ms r e =
    let v = bind_ok (bytes_of table key.StartProtects [] (items_at key.StartProtects ms)) _ r e in
    starts_ok table key.StartProtects is_protection v.0 r v.2

no_entries : AllPairs DifferInUse []
no_entries i j d a b = absurd (omega arith)

pub all_none : {X : Type 0} (P : X → Type 0) → All P []
all_none P k d h = absurd (omega arith)

record IsMade (address : ℕ) (t : Target) : Type 0 where
  pub target : IsTarget t
  pub same : address ≡ t.address

rest_ok : (index address : ℕ) (n : Numbers) (ms : Members) (t : Target)
    → is_target_address address ≡ true → AreNumbers n → target_with index address n ms ≡ Ok t
    → IsMade address t
unfolding target_with
rest_ok index address n ms t a m e =
    let p = bind_ok (start_pages_of (place.Target index) n.pages ms) _ t e in
    let w = bind_ok (start_protects_of (place.Target index) ms) _ t p.2 in
    let l = bind_ok (entries_of index [] (tables_at key.Allow ms)) _ t w.2 in
    let pages = start_pages_ok (place.Target index) n.pages ms p.0 p.1 in
    let protects = start_protects_ok (place.Target index) ms w.0 w.1 in
    let allow =
    entries_valid index [] (tables_at key.Allow ms) l.0 l.1 (all_none IsEntry) no_entries in
    let made : Target = record {
      address = address;
      pages = n.pages;
      exponent = n.exponent;
      stretch = n.stretch;
      alerts = flag_at key.Alerts ms;
      start_pages = p.0;
      start_protects = w.0;
      allow = l.0;
    } in
    subst (IsMade address) (ok_is made t l.2) (record {
      target = record {
        address = a;
        one_page = m.one_page;
        few_pages = m.few_pages;
        least_exponent = m.least_exponent;
        most_exponent = m.most_exponent;
        stretch = m.stretch;
        starts_paged = pages.some;
        start_pages = pages.all;
        starts_protected = protects.some;
        start_protects = protects.all;
        entries = allow.0;
        one_entry = allow.1;
      };
      same = refl;
    })

-- a target after those before it
pub record IsNextTarget (done : Named Target) (name : List ℕ) (t : Target) : Type 0 where
  pub target : IsTarget t
  pub good : is_name name ≡ true
  pub new : is_named name done.names ≡ false
  pub free : has_address t.address done.items ≡ false

pub target_ok : (index : ℕ) (done : Named Target) (ms : Members) (x : List ℕ × Target)
    → target_from index done ms ≡ Ok x → IsNextTarget done x.0 x.1
unfolding target_from
target_ok index done ms x e =
    let table = place.Target index in
    let k = bind_ok (check_target_keys table ms) _ x e in
    let n = bind_ok (new_name table done.names k.0) _ x k.2 in
    let a = bind_ok (new_address table done.items k.0) _ x n.2 in
    let m = bind_ok (numbers_of table k.0) _ x a.2 in
    let t = bind_ok (target_with index a.0 m.0 k.0) _ x m.2 in
    let name = new_name_ok table done.names k.0 n.0 n.1 in
    let address = new_address_ok table done.items k.0 a.0 a.1 in
    let made = rest_ok index a.0 m.0 k.0 t.0 address.fits (numbers_ok table k.0 m.0 m.1) t.1 in
    subst (λ y. IsNextTarget done y.0 y.1) (ok_is (n.0, t.0) x t.2) (record {
      target = made.target;
      good = rw (← name.text) (good_name _ _ _ ms k.0 k.1);
      new = name.new;
      free = rw (← made.same) address.new;
    })
