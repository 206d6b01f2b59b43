use Rattle.dep_trace.proofs.FollowLemmas.{begins, takes, finishes, ends}
use Rattle.dep_trace.proofs.trace.traces_follow.Goals as goal

pub returns : goal.returns
returns c = (begins, takes, finishes, ends)
