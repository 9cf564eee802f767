-- Leases, and messages that tell of one, by the end that they have. Assumes nothing.
use Rattle.message.specs.declared.KeepersEnd.{KeepersEnd}
use Rattle.message.specs.declared.HoldersEnd.{HoldersEnd}
use Rattle.message.specs.declared.LeaseUntil.{LeaseUntil}
use Rattle.message.specs.declared.LeaseMessage.{LeaseMessage}

-- as acceptors hold it: 'accepted (ballot, owner, keepers' end)'
abbrev pub Lease : Type 0
Lease = LeaseUntil KeepersEnd

-- as whoever names its holder has it: 'the named holder (ballot, owner, holder's end)'
abbrev pub Holder : Type 0
Holder = LeaseUntil HoldersEnd

-- a propose request
abbrev pub Proposal : Type 0
Proposal = LeaseMessage KeepersEnd

-- a learn message
abbrev pub LearnedLease : Type 0
LearnedLease = LeaseMessage HoldersEnd
