use Rattle.std.proofs.Common.{rules}
use Rattle.facts.specs.domain.Covering.{PagesCover, ProtectsCover}
use Rattle.facts.specs.domain.Rows.{SpanCovers, SourceCovers}
use Rattle.facts.specs.domain.Joining.{AreJoined}
use Rattle.facts.proofs.Coded.Joining.{first_covered, second_covered, least_covered, any_alike}
use Rattle.facts.proofs.domain.row_cover.RowPart.join.Goals as goal

pub join_all-requires : goal.join_all-requires
join_all-requires c =
    let alike = any_alike c.args.self.now.pages.items c.args.other.now.pages.items
    c.requires.pages in
    record { alike = rw (c.deref.ensures.value, c.deref-2.ensures.value) alike }

pub join_all-requires-2 : goal.join_all-requires-2
join_all-requires-2 c =
    let alike = any_alike c.args.self.now.protects.items c.args.other.now.protects.items
    c.requires.protects in
    record { alike = rw (c.deref-3.ensures.value, c.deref-4.ensures.value) alike }

pub join_into-requires : goal.join_into-requires
join_into-requires c =
    record { alike = any_alike c.args.self.now.regs c.args.other.now.regs (search rules) }

pub join_into-requires-2 : goal.join_into-requires-2
join_into-requires-2 c =
    record { alike = any_alike c.args.self.now.sources c.args.other.now.sources (search rules) }

pub join_into-requires-3 : goal.join_into-requires-3
join_into-requires-3 c =
    record { alike = any_alike c.args.self.now.counters c.args.other.now.counters (search rules) }

abbrev pages_joined : (c : goal.After-result-2-1)
    → AreJoined PagesCover c.in_ok-pages.pages.items c.args.self.now.pages.items
    c.args.other.now.pages.items
pages_joined c = rw (← c.deref.ensures.value, ← c.deref-2.ensures.value) c.in_ok-pages.ensures

abbrev protects_joined : (c : goal.After-result-2-1)
    → AreJoined ProtectsCover c.in_ok-protects.protects.items c.args.self.now.protects.items
    c.args.other.now.protects.items
protects_joined c =
    rw (← c.deref-3.ensures.value, ← c.deref-4.ensures.value) c.in_ok-protects.ensures

pub returns-clause-first : goal.returns-clause-first
returns-clause-first c = (
  first_covered PagesCover c.in_ok-pages.pages.items c.args.self.now.pages.items
      c.args.other.now.pages.items (pages_joined c),
  first_covered ProtectsCover c.in_ok-protects.protects.items c.args.self.now.protects.items
      c.args.other.now.protects.items (protects_joined c),
  c.in_ok-join.ensures.first,
  first_covered SpanCovers c.join_into.new.parts c.args.self.now.regs c.args.other.now.regs
      c.in_ok-join_into.ensures,
  first_covered SourceCovers c.join_into-2.new.parts c.args.self.now.sources
      c.args.other.now.sources c.in_ok-join_into-2.ensures,
  first_covered SpanCovers c.join_into-3.new.parts c.args.self.now.counters
      c.args.other.now.counters c.in_ok-join_into-3.ensures,
  c.in_ok-join-2.ensures.first,
)

pub returns-clause-second : goal.returns-clause-second
returns-clause-second c = (
  second_covered PagesCover c.in_ok-pages.pages.items c.args.self.now.pages.items
      c.args.other.now.pages.items (pages_joined c),
  second_covered ProtectsCover c.in_ok-protects.protects.items c.args.self.now.protects.items
      c.args.other.now.protects.items (protects_joined c),
  c.in_ok-join.ensures.second,
  second_covered SpanCovers c.join_into.new.parts c.args.self.now.regs c.args.other.now.regs
      c.in_ok-join_into.ensures,
  second_covered SourceCovers c.join_into-2.new.parts c.args.self.now.sources
      c.args.other.now.sources c.in_ok-join_into-2.ensures,
  second_covered SpanCovers c.join_into-3.new.parts c.args.self.now.counters
      c.args.other.now.counters c.in_ok-join_into-3.ensures,
  c.in_ok-join-2.ensures.second,
)

pub returns-clause-least : goal.returns-clause-least
returns-clause-least c = λ u a b. (
  least_covered PagesCover u.pages.items c.in_ok-pages.pages.items c.args.self.now.pages.items
      c.args.other.now.pages.items (pages_joined c) a.0 b.0,
  least_covered ProtectsCover u.protects.items c.in_ok-protects.protects.items
      c.args.self.now.protects.items c.args.other.now.protects.items
      (protects_joined c) a.1 b.1,
  c.in_ok-join.ensures.least u.good a.2 b.2,
  least_covered SpanCovers u.regs c.join_into.new.parts c.args.self.now.regs
      c.args.other.now.regs c.in_ok-join_into.ensures a.3 b.3,
  least_covered SourceCovers u.sources c.join_into-2.new.parts c.args.self.now.sources
      c.args.other.now.sources c.in_ok-join_into-2.ensures a.4 b.4,
  least_covered SpanCovers u.counters c.join_into-3.new.parts c.args.self.now.counters
      c.args.other.now.counters c.in_ok-join_into-3.ensures a.5 b.5,
  c.in_ok-join-2.ensures.least u.lost a.6 b.6,
)
