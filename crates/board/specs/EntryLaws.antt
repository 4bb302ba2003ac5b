-- Equality of what entries are found by.
use Rattle.std.specs.Prelude.{◌&&◌, ◌==◌}
use Rattle.std.specs.Cmp.{IsEquivalence, IsPartialEquivalence, nat_eq_equiv, on_equiv, and_equiv}
use Rattle.std.specs.Cmp.{partial_equiv_from_equiv}
use Rattle.pmbus_table.specs.Forms.{form_number}
use Rattle.board.specs.declared.allow_list.EntryKey.{EntryKey}

pub equal_keys : IsEquivalence
    (λ (a b : EntryKey). form_number a.form == form_number b.form && a.code == b.code)
equal_keys =
    and_equiv (on_equiv (λ (k : EntryKey). form_number k.form) nat_eq_equiv)
    (on_equiv (λ (k : EntryKey). k.code) nat_eq_equiv)

pub partly_equal_keys : IsPartialEquivalence
    (λ (a b : EntryKey). form_number a.form == form_number b.form && a.code == b.code)
partly_equal_keys = partial_equiv_from_equiv equal_keys
