-- `counts_reply`: the set with the sender is another while the sender is not in it.
use Rattle.quorum.proofs.Majorities.{with_tells}
use Rattle.rules.proofs.counts_reply.Goals as goal

pub returns : goal.returns
returns c =
    rw (c.with_host.ensures, with_tells c.args.replied c.args.sender)
