use Rattle.std.proofs.Common.{◌≡◌, true, false, refl, sym, ◌∙◌}
use Rattle.targets.specs.Registers.{code_of, takes}
use Rattle.targets.proofs.Written.{IsOnly, writes, is_same}
use Rattle.targets.proofs.effect.write_by.Goals as goal

pub returns-then-is_taken-clause-some : goal.returns-then-is_taken-clause-some
returns-then-is_taken-clause-some c =
    let r = c.args.register in
    let t = c.in_ok-index.target.now in
    let valid : takes r t c.in_ok-index.value ≡ true =
    sym c.takes-is_value.ensures ∙ c.if-is_value.true in
    let w = rw c.code-code.ensures at c.in_ok-index.ensures.some in
    let taken = rw c.code-code.ensures at c.is_taken.ensures in
    writes (code_of r) (takes r) c.args.board.now c.args.state.now c.args.message.now
    c.args.answer.now c.in_ok-index.index c.in_ok-index.value t w.0 w.1 valid
    ((taken t.address c.in_ok-index.value w.1).0 c.if-is_taken.true)

pub returns-then-is_taken-clause-only : goal.returns-then-is_taken-clause-only
returns-then-is_taken-clause-only c is i v w =
    let r = c.args.register in
    let some = rw c.code-code.ensures at c.in_ok-index.ensures.some in
    let only = rw c.code-code.ensures at c.in_ok-index.ensures.only in
    let o : IsOnly (code_of r) c.args.board.now c.args.message.now c.in_ok-index.index
    c.in_ok-index.target.now c.in_ok-index.value = record { at = some.0; only = only is } in
    let e = is_same (code_of r) (takes r) c.args.board.now c.args.state.now c.args.message.now
    c.args.answer.now c.in_ok-index.index c.in_ok-index.target.now c.in_ok-index.value o i v w in
    rw (e.place, e.number) refl

pub returns-else-is_value-clause-only : goal.returns-else-is_value-clause-only
returns-else-is_value-clause-only c is i v w =
    let r = c.args.register in
    let t = c.in_ok-index.target.now in
    let some = rw c.code-code.ensures at c.in_ok-index.ensures.some in
    let only = rw c.code-code.ensures at c.in_ok-index.ensures.only in
    let o : IsOnly (code_of r) c.args.board.now c.args.message.now c.in_ok-index.index t
    c.in_ok-index.value = record { at = some.0; only = only is } in
    let e = is_same (code_of r) (takes r) c.args.board.now c.args.state.now c.args.message.now
    c.args.answer.now c.in_ok-index.index t c.in_ok-index.value o i v w in
    elim c.else-is_value.branch [
      | goal.else-is_value-via-then-is_value+else-is_taken x ↦
          let taken = rw c.code-code.ensures at x.is_taken.ensures in
          let bad : true ≡ false =
          sym ((taken t.address c.in_ok-index.value some.1).1 e.taken) ∙ x.if-is_taken.false in
          cc
      | goal.else-is_value-via-else-is_value x ↦
          let bad : true ≡ false =
          sym e.valid ∙ (sym c.takes-is_value.ensures ∙ x.if-is_value.false) in
          cc
    ]
