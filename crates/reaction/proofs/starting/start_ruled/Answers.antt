-- `start_ruled` begins with a fresh widget. Assumes nothing.
use Rattle.meaning.specs.Calls.{fresh}
use Rattle.reaction.proofs.StartLaws.{fresh_ready, start_ends}
use Rattle.reaction.proofs.starting.start_ruled.Goals as goal

pub begin-went-requires : goal.begin-went-requires
begin-went-requires c =
    let made = c.before.before.before in
    rw (made.first_values.ensures, made.empty.ensures, made.new-runnable.ensures) (unfold fresh in fresh_ready _ c.requires _)

pub finish-requires : goal.finish-requires
finish-requires c = c.begin-went.ensures.fits

pub returns : goal.returns
unfolding fresh
returns c =
    start_ends _ c.requires _ c.args.trace.now _ _
    (rw (c.first_values.ensures, c.empty.ensures, c.new-runnable.ensures) at c.begin-went.ensures) c.finish.ensures
