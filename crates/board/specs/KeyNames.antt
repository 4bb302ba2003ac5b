-- What a file calls its keys.
use Rattle.std.specs.Prelude.{ℕ, List, codes}
use Rattle.board.specs.declared.key.Key.{Key}
use Rattle.board.specs.declared.key.Key.TheVariants as key

abbrev pub key_name : Key → List ℕ
key_name key.Target = codes "target"
key_name key.Rail = codes "rail"
key_name key.Foreign = codes "foreign"
key_name key.ForeignBytes = codes "foreign_bytes"
key_name key.ForeignStretch = codes "foreign_stretch"
key_name key.Contentions = codes "contentions"
key_name key.Name = codes "name"
key_name key.Address = codes "address"
key_name key.Pages = codes "pages"
key_name key.Exponent = codes "exponent"
key_name key.Stretch = codes "stretch"
key_name key.StartPages = codes "start_pages"
key_name key.StartProtects = codes "start_protects"
key_name key.Alerts = codes "alerts"
key_name key.Allow = codes "allow"
key_name key.Form = codes "form"
key_name key.Command = codes "command"
key_name key.Values = codes "values"
key_name key.Length = codes "length"
key_name key.Page = codes "page"
key_name key.LimitUv = codes "limit_uv"
key_name key.Needs = codes "needs"
