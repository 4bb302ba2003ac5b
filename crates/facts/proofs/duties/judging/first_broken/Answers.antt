use Rattle.std.proofs.Common.{inl, [], ◌∷◌}
use Rattle.seq_program.specs.RequestViews.{transaction_view}
use Rattle.facts.specs.declared.duties.rule.Rule.TheVariants.{K2, K3, K4, K5}
use Rattle.facts.specs.domain.Rows.{row_view}
use Rattle.facts.proofs.Coded.Blamed.{first_blamed, last_judged}
use Rattle.facts.proofs.duties.judging.first_broken.Goals as goal

pub returns-in-Some-read_of_all : goal.returns-in-Some-read_of_all
returns-in-Some-read_of_all c =
    let b = c.args.board.now in
    inl (
      c.in_default.ensures,
      first_blamed b (row_view c.args.row.now) c.args.target
          (transaction_view c.args.transaction.now) K2
          (K3 ∷ K4 ∷ K5 ∷ []) c.in-Some-read_of_all.found
          (c.in-Some-read_of_all.ensures b),
    )

pub returns-in-Some-forbidden : goal.returns-in-Some-forbidden
returns-in-Some-forbidden c =
    let b = c.args.board.now in
    inl (
      c.in_default.ensures,
      inl (
        c.in_default-read_of_all.ensures b,
        first_blamed b (row_view c.args.row.now) c.args.target
            (transaction_view c.args.transaction.now) K3 (K4 ∷ K5 ∷ []) c.in-Some-forbidden.found
            (c.in-Some-forbidden.ensures b),
      ),
    )

pub returns-in-Some-over_limit : goal.returns-in-Some-over_limit
returns-in-Some-over_limit c =
    let b = c.args.board.now in
    inl (
      c.in_default.ensures,
      inl (
        c.in_default-read_of_all.ensures b,
        inl (
          c.in_default-forbidden.ensures b,
          first_blamed b (row_view c.args.row.now) c.args.target
              (transaction_view c.args.transaction.now) K4 (K5 ∷ []) c.in-Some-over_limit.found
              c.in-Some-over_limit.ensures,
        ),
      ),
    )

pub returns : goal.returns
returns c =
    let b = c.args.board.now in
    inl (
      c.in_default.ensures,
      inl (
        c.in_default-read_of_all.ensures b,
        inl (
          c.in_default-forbidden.ensures b,
          inl (
            c.in_default-over_limit.ensures,
            last_judged b (row_view c.args.row.now) c.args.target
                (transaction_view c.args.transaction.now) K5 c.unready.result c.unready.ensures,
          ),
        ),
      ),
    )
