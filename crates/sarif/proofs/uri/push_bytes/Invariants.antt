use Rattle.std.proofs.Common.{◌≡◌, ◌++◌, drop, string_bytes}
use Rattle.sarif.specs.Uris.{uri_of}
use Rattle.sarif.proofs.uri.push_bytes.Given as goal

abbrev pub invariant-loop-byte : goal.invariant-loop-byte
invariant-loop-byte l =
    string_bytes l.text ++ uri_of (drop l.byte-index l.bytes)
    ≡ string_bytes l.fn.text ++ uri_of l.bytes
