-- The code's lists, as the tables or the texts that are left of them.
use Rattle.std.specs.Prelude.{ℕ, List}
use Rattle.std.specs.Borrow.{Bor}
use Rattle.std.specs.BTreeMap.{BTreeMap}
use Rattle.std.specs.Prelude.{String}
use Rattle.std.specs.declared.alloc.Global.{Global}
use Rattle.toml.specs.declared.value.Value.{Value}
use Rattle.toml.specs.Data.{Members}
use Rattle.toml.specs.View.{table_view, items_view}
use Rattle.board.specs.declared.elements.Tables.{Tables}
use Rattle.board.specs.declared.elements.Texts.{Texts}
use Rattle.board.specs.Fields.{tables_of, texts_of}

abbrev pub table_seen : Bor (BTreeMap (String Global) Value) → Members
table_seen t = table_view t.now

abbrev pub tables_left : Tables → List Members
tables_left t = tables_of (items_view t.values.now)

abbrev pub texts_left : Texts → List (List ℕ)
texts_left t = texts_of (items_view t.values.now)
