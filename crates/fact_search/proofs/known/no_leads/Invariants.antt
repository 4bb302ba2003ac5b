use Rattle.std.proofs.Common.{◌≡◌, [], replicate}
use Rattle.fact_search.specs.Leading.{leads_view}
use Rattle.fact_search.proofs.known.no_leads.Given as goal

abbrev pub invariant-loop-place : goal.invariant-loop-place
invariant-loop-place l = leads_view l.leads.items ≡ replicate l._place []
