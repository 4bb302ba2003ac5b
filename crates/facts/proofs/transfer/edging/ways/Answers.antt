use Rattle.std.proofs.Common.{◌<◌, sym, subst}
use Rattle.std.proofs.lemmas.Option.{slice_get_within}
use Rattle.seq_program.specs.Requests.{request_in}
use Rattle.seq_program.specs.RequestViews.{request_view}
use Rattle.facts.specs.domain.Rows.{row_view}
use Rattle.facts.proofs.Coded.Premises.{first_duty, kinds, page_count, protect_count}
use Rattle.facts.proofs.transfer.edging.ways.Goals as goal

pub sent_ways-requires-clause-pages : goal.sent_ways-requires-clause-pages
sent_ways-requires-clause-pages c =
    let r = request_view c.in-Some.request in
    let duty = first_duty c.args.board.now (row_view c.args.row.now) (request_in c.args.instr.now) r
    c.in-Some.ensures.value c.requires.met in
    subst (λ n. r.target < n) (sym (page_count c.args.board.now c.args.row.now c.requires.row))
    (slice_get_within c.args.board.now.targets r.target duty.target duty.at)

pub sent_ways-requires-clause-protects : goal.sent_ways-requires-clause-protects
sent_ways-requires-clause-protects c =
    let r = request_view c.in-Some.request in
    let duty = first_duty c.args.board.now (row_view c.args.row.now) (request_in c.args.instr.now) r
    c.in-Some.ensures.value c.requires.met in
    subst (λ n. r.target < n) (sym (protect_count c.args.board.now c.args.row.now c.requires.row))
    (slice_get_within c.args.board.now.targets r.target duty.target duty.at)

pub sent_ways-requires-clause-kinds : goal.sent_ways-requires-clause-kinds
sent_ways-requires-clause-kinds c =
    let r = request_view c.in-Some.request in
    kinds c.args.board.now (row_view c.args.row.now) r c.requires.board
    (first_duty c.args.board.now (row_view c.args.row.now) (request_in c.args.instr.now) r
    c.in-Some.ensures.value c.requires.met)
