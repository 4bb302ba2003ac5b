-- The entries of an allow list that are read.
use Rattle.std.proofs.Common.{◌≡◌, ℕ, ◌<◌, ◌≤◌, Bool, true, false, cond, not, ◌&&◌, eqb, List, []}
use Rattle.std.proofs.Common.{◌∷◌, ◌++◌, length, get_or, unwrap_or, Ok, refl, sym, ap, ◌∙◌}
use Rattle.std.proofs.Common.{subst, arith}
use Rattle.std.proofs.lemmas.Bool.{eq-eqb}
use Rattle.std.specs.List.{All, AllPairs}
use Rattle.std.proofs.lemmas.List.Elements.{All-push}
use Rattle.std.proofs.lemmas.List.Quantifiers.{all_pairs_push}
use Rattle.toml.specs.Data.{Members}
use Rattle.smbus.specs.declared.message.Form.{Form}
use Rattle.smbus.specs.FormWords.{carries_code}
use Rattle.texts.specs.Reading.{some_or, value_if}
use Rattle.pmbus_table.specs.Forms.{form_number}
use Rattle.board.specs.declared.key.Key.TheVariants as key
use Rattle.board.specs.declared.site.Place.{Place}
use Rattle.board.specs.declared.site.Place.TheVariants.{Entry}
use Rattle.board.specs.Sites.{table_fault, key_fault}
use Rattle.board.specs.declared.fault.FaultKind.TheVariants.{SameName, BadRange, UnknownCommand}
use Rattle.board.specs.Boards.{Allow, code_in, is_for, has_entry}
use Rattle.board.specs.Keys.{check_keys}
use Rattle.board.specs.Entries.{check_entry_keys, needed_by, optional_for, form_at, command_for}
use Rattle.board.specs.Entries.{range_at, allow_of, entry_from, entries_of}
use Rattle.board.specs.Valid.{full_values, full_length, has_words, IsEntry, DifferInUse}
use Rattle.board.proofs.Steps.{bind_ok, some_ok, if_ok, ok_is, not_false}
use Rattle.board.proofs.ValidRanges.{range_at_within}
use Rattle.board.proofs.ValidForms.{form_to_target, CommandFits, command_fits}
use Rattle.board.proofs.Apart.{fails_at}

-- an entry whose form and code no entry before it has
record IsNext (done : List Allow) (a : Allow) : Type 0 where
  pub entry : IsEntry a
  pub new : has_entry a.form a.code done ≡ false

low_high : (b : Bool) → 0 ≤ cond b 65535 255
low_high true = omega arith
low_high false = omega arith

entry_valid : (table : Place) (done : List Allow) (ms : Members) (a : Allow)
    → entry_from table done ms ≡ Ok a → IsNext done a
unfolding entry_from allow_of
entry_valid table done ms a e =
    let k = bind_ok (check_entry_keys table ms) _ a e in
    let f = bind_ok (some_or (key_fault UnknownCommand table key.Form) (form_at k.0)) _ a k.2 in
    let m = bind_ok (check_keys table (needed_by f.0) (optional_for f.0) k.0) _ a f.2 in
    let c = bind_ok (command_for table f.0 m.0) _ a m.2 in
    let n = bind_ok
    (value_if (table_fault SameName table) (not (has_entry f.0 (unwrap_or c.0 0) done)) c.0) _ a
    c.2 in
    let v = bind_ok (some_or (key_fault BadRange table key.Values)
    (range_at (full_values f.0) key.Values m.0)) _ a n.2 in
    let l = bind_ok (some_or (key_fault BadRange table key.Length)
    (range_at full_length key.Length m.0)) _ a v.2 in
    let same = if_ok _ _ c.0 n.0 n.1 in
    let fits = subst (CommandFits f.0) same.1 (command_fits table f.0 m.0 c.0 c.1) in
    let new = not_false (has_entry f.0 (unwrap_or c.0 0) done) same.0 in
    let made : Allow = record { form = f.0; code = unwrap_or n.0 0; values = v.0; length = l.0 } in
    subst (IsNext done) (ok_is made a l.2) (record {
      entry = record {
        to_target = form_to_target k.0 f.0 (some_ok _ _ f.0 f.1);
        takes = fits.takes;
        bare = fits.bare;
        in_values =
            range_at_within (full_values f.0) key.Values m.0 v.0 (low_high (has_words f.0))
            (some_ok _ _ v.0 v.1);
        in_length =
            range_at_within full_length key.Length m.0 l.0 (omega arith)
            (some_ok _ _ l.0 l.1);
      };
      new = rw (← same.1) new;
    })

both_true : (b c : Bool) → b ≡ true → c ≡ true → (b && c) ≡ true
both_true b c e f = cc

own_code : (a : Allow) → IsEntry a → a.code ≡ code_in a.form a.code
own_code a v = by (carries_code a.form) refl
  where
    by : (b : Bool) → carries_code a.form ≡ b → a.code ≡ cond b a.code 0
    by true e = refl
    by false e = v.bare e

used_before : (x : Allow) (f : Form) (c : ℕ) → x.form ≡ f → x.code ≡ code_in f c
    → is_for f c x ≡ true
used_before x f c e g =
    both_true (eqb (form_number f) (form_number x.form)) (eqb (code_in f c) x.code)
    (eq-eqb (form_number f) (form_number x.form) (ap form_number (sym e)))
    (eq-eqb (code_in f c) x.code (sym g))

differs : (done : List Allow) (a : Allow) → IsEntry a → has_entry a.form a.code done ≡ false
    → (k : ℕ) (d : Allow) → k < length done → DifferInUse (get_or done k d) a
differs done a v e k d h f c =
    let no = fails_at (is_for a.form a.code) done k d e h in
    let used = used_before (get_or done k d) a.form a.code f (c ∙ own_code a v) in
    cc

pub entries_valid : (target : ℕ) (done : List Allow) (tables : List Members) (xs : List Allow)
    → entries_of target done tables ≡ Ok xs
    → All IsEntry done → AllPairs DifferInUse done → All IsEntry xs × AllPairs DifferInUse xs
entries_valid target done [] xs e a p =
    let same = ok_is done xs e in
    (subst (All IsEntry) same a, subst (AllPairs DifferInUse) same p)
entries_valid target done (ms ∷ tables) xs e a p =
    let n = bind_ok (entry_from (Entry target (length done)) done ms) _ xs e in
    let v = entry_valid (Entry target (length done)) done ms n.0 n.1 in
    entries_valid target (done ++ n.0 ∷ []) tables xs n.2 (All-push IsEntry done n.0 a v.entry)
    (all_pairs_push DifferInUse done n.0 p (differs done n.0 v.entry v.new))
