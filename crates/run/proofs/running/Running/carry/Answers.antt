-- `carry` stores the host that stepped once what it sends is placed.
use Rattle.std.specs.declared.result.Result.{Result}
use Rattle.run.specs.Running.{Sends}
use Rattle.run.proofs.Acting.{carries, sends_none}
use Rattle.run.proofs.running.Running.carry.Goals as goal
use Rattle.run.proofs.running.Running.carry.Goals.{Joined-step, in-Some+in_ok-send-in-Some, in-None}

sent : (c : Joined-step)
    → Sends c.args.self.now.cell c.args.freed c.args.step.now.sent (Result.Ok tt) c.match-step.self
sent c =
    elim c.match-step.branch [
      | in-Some+in_ok-send-in-Some w ↦
          rw (w.self-is, w.in-Some.is) w.in_ok-send-in-Some.ensures
      | in-None w ↦
          rw (w.self-is, w.in-None.is, w.free.ensures)
          (sends_none _ _ c.requires.room c.requires.unlooked)
    ]

pub returns : goal.returns
returns c = carries c.args.self.now _ _ _ _ (sent (goal.at.returns c).Joined-step)
