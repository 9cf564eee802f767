-- What the code of a step hands back, as what a step comes to. Assumes nothing.
use Rattle.std.specs.Prelude.{Option, Some, None}
use Rattle.std.specs.declared.result.Result.{Result}
use Rattle.base.specs.declared.Refusal.{Refusal}
use Rattle.base.specs.Answers.{refusal_number}
use Rattle.host.specs.declared.Host.{Host}
use Rattle.host.specs.declared.Sent.{Sent}
use Rattle.host.specs.declared.Step.{Step}
use Rattle.host.specs.Stepped.{Stepped}
use Rattle.host.specs.Steps.{refused_with, quiet_with, sending_with}

-- done, with what is sent, if anything
unfoldable pub done_with : Host → Option Sent → Stepped
done_with h None = quiet_with h
done_with h (Some x) = sending_with h x.message x.receivers

-- a step that is done
unfoldable pub stepped_of : Step → Stepped
stepped_of p = done_with p.host p.sent

-- a step of a host that may be refused: the refusal's number, and the host that was handed in
unfoldable pub told : Host → Result Step Refusal → Stepped
told h (Result.Ok p) = stepped_of p
told h (Result.Err k) = refused_with (refusal_number k) h
