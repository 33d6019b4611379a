use Rattle.bpf_verify_origin.proofs.inspection.Inspection.holds.Goals as goal

pub returns-clause-states : goal.returns-clause-states
returns-clause-states c = c.law_of_states.ensures c.args.self.now (rw c.self.view_is at c.self.invariant.fits)

pub returns-clause-sources : goal.returns-clause-sources
returns-clause-sources c = c.law_of_sources.ensures c.args.self.now (rw c.self.view_is at c.self.invariant.fits)
