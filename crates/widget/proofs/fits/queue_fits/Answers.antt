-- `queue_fits` is the three tests in turn. Assumes nothing.
use mathlib.Core.Path.{sym, ◌∙◌}
use borrow.Author.Tests.{lt-leb}
use Rattle.widget.proofs.Tests.{queue_over, queue_wrong, queue_right}
use Rattle.widget.proofs.fits.queue_fits.Goals as goal

pub returns-then-waiting_fit : goal.returns-then-waiting_fit
returns-then-waiting_fit c =
    c.rest_free.ensures ∙ queue_right c.args.events
    c.args.queue c.if-queue-le-QUEUE.true (sym c.waiting_fit.ensures ∙ c.if-waiting_fit.true)

pub returns-else-waiting_fit : goal.returns-else-waiting_fit
returns-else-waiting_fit c =
    c.if-waiting_fit.false ∙ queue_wrong c.args.events
    c.args.queue c.if-queue-le-QUEUE.true (sym c.waiting_fit.ensures ∙ c.if-waiting_fit.false)

pub returns-else-queue-le-QUEUE : goal.returns-else-queue-le-QUEUE
returns-else-queue-le-QUEUE c =
    lt-leb c.args.queue.len 16 c.if-queue-le-QUEUE.false ∙ queue_over c.args.events c.args.queue c.if-queue-le-QUEUE.false
