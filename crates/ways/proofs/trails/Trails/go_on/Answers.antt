use Rattle.std.proofs.Common.{◌≡◌, ◌∷◌, ◌∙◌, ℕ, ap, arith, drop, refl, sym}
use Rattle.std.specs.Prelude.{slice_get}
use Rattle.facts.specs.declared.domain.row.Row.{Row}
use Rattle.ways.specs.declared.trails.Trail.{Trail}
use Rattle.ways.specs.Trails.{IsAlong}
use Rattle.ways.proofs.Adding.{adds_none, adds_one, dropped_behind, dropped_here}
use Rattle.ways.proofs.trails.Trails.go_on.Goals as goal

pub loop-edge-init : goal.loop-edge-init
loop-edge-init c =
    let list = c.args.list.items in
    let iter = ap (λ i. i.iter) c.into_iter-edge-iterator.ensures.into_iter_gives
    ∙ c.enumerate-edge-items.ensures.source in
    let count = ap (λ i. i.count) c.into_iter-edge-iterator.ensures.into_iter_gives
    ∙ c.enumerate-edge-items.ensures.count in
    record {
      adds = adds_none c.args.before list c.args.self.now.trails.items;
      left = ap (λ i. i.rest.items) iter ∙ c.into_iter.ensures.rest
          ∙ ap (λ (n : ℕ). drop n list) (sym count);
      same = refl;
    }

pub loop-edge-preserved : goal.loop-edge-preserved
loop-edge-preserved c =
    let list = c.args.list.items in
    let steps = c.in-Some.ensures.steps in
    let e : ℕ × Row × ℕ = (c.in-Some.place, c.in-Some.row, c.in-Some.field-0-1-2) in
    let rest = c.next.new.self.iter.rest.items in
    let number = c.loop-edge.edge-iterator.count in
    let front : drop number list ≡ e ∷ rest = sym c.loop-edge.invariant.left ∙ steps.0.0 in
    let t : Trail = record {
      step = record {
        place = c.in-Some.place;
        row = c.in-Some.row;
        edge = c.in-Some.edge;
        edges = c.len-edges.result;
      };
      before = c.args.before;
    } in
    let along : IsAlong c.args.before list t = record {
      from = refl;
      count = (let ok = c.args.list.ok.0 in omega (arith, c.len-edges.ensures, ok));
      ticks = c.in-Some.field-0-1-2;
      edge = ap (slice_get list) steps.1 ∙ dropped_here list number e rest front;
    } in
    record {
      adds = adds_one c.args.before list c.args.self.now.trails.items c.loop-edge.self.trails.items
          c.add.new.self.trails.items t c.loop-edge.invariant.adds along c.in_ok-add.ensures;
      left = sym (dropped_behind list number e rest front)
          ∙ ap (λ (n : ℕ). drop n list) (sym steps.2);
      same = refl;
    }
