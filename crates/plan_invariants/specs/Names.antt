-- What a plan has to be named by the numbers of a trace (01, "Trace" and "The plan"). Assumes nothing.
use Rattle.std.specs.Prelude.{eqb}
use Rattle.invariants.specs.Named.{Names}
use Rattle.meaning.specs.Lists.{exists}
use Rattle.meaning.specs.Plan.{Plan}

-- a plan has the transitions that its heads name
unfoldable pub of_plan : Plan → Names
of_plan p = record {
  states = p.states;
  vars = p.vars;
  events = p.events;
  transition = λ t. exists (λ h. eqb h.transition t) p.heads;
}
