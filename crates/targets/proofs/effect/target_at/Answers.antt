use Rattle.std.proofs.Common.{◌≡◌, None, Some, sym, ◌∙◌}
use Rattle.board.specs.Boards.{place_of_address}
use Rattle.targets.proofs.Addresses.{place_found, place_not_found, only_one}
use Rattle.targets.proofs.effect.target_at.Goals as goal

pub returns-in_err-index-clause-none : goal.returns-in_err-index-clause-none
returns-in_err-index-clause-none c =
    let nowhere : place_of_address c.args.address c.args.board.now.targets ≡ None =
    sym c.target_at.ensures.value ∙ c.in_err-index.was in
    rw c.from_residual.ensures (place_not_found c.args.address c.args.board.now.targets nowhere)

pub returns-in_err-target-clause-none : goal.returns-in_err-target-clause-none
returns-in_err-target-clause-none c =
    let f = place_found c.args.address c.in_ok-index.index c.args.board.now.targets
    (sym c.target_at.ensures.value ∙ c.in_ok-index.was) in
    let none : None ≡ Some f.0 = c.in_err-target.ensures ∙ f.1 in
    cc

pub returns-clause-some : goal.returns-clause-some
returns-clause-some c =
    let f = place_found c.args.address c.in_ok-index.index c.args.board.now.targets
    (sym c.target_at.ensures.value ∙ c.in_ok-index.was) in
    let same : Some c.in_ok-target.target.now ≡ Some f.0 = c.in_ok-target.ensures ∙ f.1 in
    let is : c.in_ok-target.target.now ≡ f.0 = cc in
    rw is (f.1, f.2)

pub returns-clause-only : goal.returns-clause-only
returns-clause-only c is i t at same =
    let f = place_found c.args.address c.in_ok-index.index c.args.board.now.targets
    (sym c.target_at.ensures.value ∙ c.in_ok-index.was) in
    only_one c.args.board.now is i c.in_ok-index.index t f.0 at f.1 (same ∙ sym f.2)
