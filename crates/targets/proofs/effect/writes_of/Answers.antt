use Rattle.targets.proofs.effect.writes_of.Goals as goal

pub returns-in-Some-clause-page_alone : goal.returns-in-Some-clause-page_alone
returns-in-Some-clause-page_alone c = λ is i value w.
    c.write_by.ensures.only is i value (rw c.in-Some.is at w)

pub returns-in-Some-clause-protect_alone : goal.returns-in-Some-clause-protect_alone
returns-in-Some-clause-protect_alone c = λ is i value w.
    c.write_by-in-Some.ensures.only is i value (rw c.in-Some.is at w)
