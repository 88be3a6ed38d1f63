use Rattle.family.proofs.summary.Summary.new.Goals as goal

pub invariant_of-result-clause-small : goal.invariant_of-result-clause-small
invariant_of-result-clause-small c = λ s e. cc
