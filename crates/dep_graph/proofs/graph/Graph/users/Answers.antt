use Rattle.std.proofs.Common.{◌∙◌, ap, sym}
use Rattle.dep_graph.specs.Arcs.{nodes_in, uses_key, set_has}
use Rattle.dep_graph.proofs.graph.Graph.users.Goals as goal

pub returns-in-Some-clause-users : goal.returns-in-Some-clause-users
returns-in-Some-clause-users c = λ f. ap (λ o. set_has o f) c.in-Some.ensures.value ∙ c.self.invariant.users_are c.args.key.now f ∙ ap (λ files. uses_key (nodes_in files f) c.args.key.now) c.self.view_is

pub returns-in-None-clause-unused : goal.returns-in-None-clause-unused
returns-in-None-clause-unused c = λ f. sym (c.self.invariant.users_are c.args.key.now f ∙ ap (λ files. uses_key (nodes_in files f) c.args.key.now) c.self.view_is) ∙ ap (λ o. set_has o f) (sym c.in-None.ensures.value)
