-- Entries are found by their keys.
use Rattle.std.proofs.Common.{◌≡◌, ◌∙◌, ℕ, Bool, true, false, cond, ltb, length, List, [], ◌∷◌}
use Rattle.std.proofs.Common.{◌++◌, map, find, position, slice_get, Some, None, refl, sym, ap}
use Rattle.std.specs.List.{list_any, position_or_len}
use Rattle.std.proofs.lemmas.List.Folds.{find_at}
use Rattle.smbus.specs.declared.message.Form.{Form}
use Rattle.board.specs.declared.allow_list.EntryKey.{EntryKey}
use Rattle.board.specs.Boards.{Allow, code_in, is_for, entry_of, has_entry}
use Rattle.board.specs.EntryKeys.{key_for, key_of, same_key}
use Rattle.board.proofs.Lists.{list_any-map, map-push}
use Rattle.board.proofs.Places.{position-map}
use Rattle.board.proofs.Firsts.{find_none}
use Rattle.indexmap.specs.IndexSet.{insert_key}

pub found : (f : Form) (c : ℕ) (allow : List Allow) (keys : List EntryKey) → keys ≡ map key_of allow
    → list_any (same_key (key_for f c)) keys ≡ has_entry f c allow
found f c allow keys e =
    ap (list_any (same_key (key_for f c))) e ∙ list_any-map (same_key (key_for f c)) key_of allow

pub place : (f : Form) (c : ℕ) (allow : List Allow) (keys : List EntryKey) → keys ≡ map key_of allow
    → position (same_key (key_for f c)) keys ≡ position (is_for f c) allow
place f c allow keys e =
    ap (position (same_key (key_for f c))) e ∙ position-map (same_key (key_for f c)) key_of allow

own_key : (a : Allow) (f : Form) (c : ℕ) → f ≡ a.form → c ≡ a.code → a.code ≡ code_in a.form a.code
    → key_for f c ≡ key_of a
own_key a f c e g b = rw (e, g) (ap (λ (n : ℕ). record { form = a.form; code = n }) (sym b))

kept : (a : Allow) (allow : List Allow) (keys : List EntryKey) → keys ≡ map key_of allow
    → list_any (same_key (key_of a)) keys ≡ false
    → insert_key same_key keys (key_of a) ≡ map key_of (allow ++ a ∷ [])
kept a allow keys e n =
    ap (λ (b : Bool). cond b keys (keys ++ key_of a ∷ [])) n
    ∙ ap (λ (ks : List EntryKey). ks ++ key_of a ∷ []) e
    ∙ sym (map-push key_of allow a)

-- a new entry's key goes to the end, where the entry goes
pub kept_entry : (a : Allow) (f : Form) (c : ℕ) (allow : List Allow) (keys : List EntryKey)
    (k : EntryKey) → k ≡ key_for f c → f ≡ a.form → c ≡ a.code → a.code ≡ code_in a.form a.code
    → keys ≡ map key_of allow → has_entry a.form a.code allow ≡ false
    → insert_key same_key keys k ≡ map key_of (allow ++ a ∷ [])
kept_entry a f c allow keys k e g h b m n =
    let own = own_key a a.form a.code refl refl b in
    let new = ap (λ (l : EntryKey). list_any (same_key l) keys) (sym own)
    ∙ found a.form a.code allow keys m ∙ n in
    ap (insert_key same_key keys) (e ∙ own_key a f c g h b) ∙ kept a allow keys m new

find_some : {X : Type 0} (p : X → Bool) (xs : List X) (i : ℕ) → position p xs ≡ Some i
    → find p xs ≡ slice_get xs i
find_some p xs i e = by (ltb (position_or_len p xs) (length xs)) e
  where
    by : (b : Bool) → cond b (Some (position_or_len p xs)) None ≡ Some i
        → find p xs ≡ slice_get xs i
    by true e =
        let at : position_or_len p xs ≡ i = cc in
        find_at p xs ∙ ap (slice_get xs) at
    by false e = absurd cc

pub entry_none : (f : Form) (c : ℕ) (allow : List Allow) (keys : List EntryKey)
    → keys ≡ map key_of allow → position (same_key (key_for f c)) keys ≡ None
    → entry_of f c allow ≡ None
entry_none f c allow keys e n = find_none (is_for f c) allow (sym (place f c allow keys e) ∙ n)

pub entry_some : (f : Form) (c : ℕ) (allow : List Allow) (keys : List EntryKey) (i : ℕ)
    → keys ≡ map key_of allow → position (same_key (key_for f c)) keys ≡ Some i
    → entry_of f c allow ≡ slice_get allow i
entry_some f c allow keys i e n = find_some (is_for f c) allow i (sym (place f c allow keys e) ∙ n)
